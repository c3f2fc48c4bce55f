use Rattle.std.proofs.Common.{[], ◌∷◌, slice_get, ap, refl, ◌∙◌}
use Rattle.std.proofs.lemmas.Result.{err_from_is_err_and}
use Rattle.worker_run.specs.Histories.{Took}
use Rattle.worker_run.specs.Moves.{Serving, IsLookOf, IsLookOfOrNone, now}
use Rattle.guild_places.specs.Places.{guilds_of}
use Rattle.worker_run.specs.declared.fault.WorkFault.TheVariants as fault
use Rattle.worker_run.proofs.Readying.{ready_seen, counts_same, stops_by, passed_on, fails_of, no_door, any_clock}
use Rattle.worker_run.proofs.Seeing.{look_fails, look_goes, look_stops, look_quits}
use Rattle.worker_run.proofs.serving.Serving.look.Goals as goal

pub see-requires : goal.see-requires
see-requires g c = record { place = c.requires.place; readers = (c.requires.ready.readers, c.requires.ready.distinct) }

pub handle-requires : goal.handle-requires
handle-requires g c =
    let sees = c.in_ok-input.ensures.ok in
    record { ready = ready_seen c.args.posts.now (sees.input ∷ []) c.args.self.now c.see.new.self (g.D.Door.tale c.args.door.now) c.in_ok-input.ensures.same sees.reads c.requires.ready }

pub returns-in_err-input : goal.returns-in_err-input
returns-in_err-input g c =
    let s = c.args.self.now in
    let t = c.see.new.self in
    let d = g.D.Door.tale c.args.door.now in
    let n = g.D.Door.faults c.args.door.now in
    let r = c.from_residual.result in
    let e = err_from_is_err_and r c.from_residual.ensures.1 in
    let same = c.in_err-input.ensures.same in
    let guild = slice_get (guilds_of s.readers) c.args.place in
    record {
      ready = ready_seen c.args.posts.now [] s t d same c.in_err-input.ensures.err c.requires.ready;
      count = counts_same s t d d (ap (λ (v : Serving). v.links.count) same) refl;
      cause = fails_of n n fault.Memory r (passed_on r e.0 fault.Memory e.1 e.2) refl;
      goes = λ clock.
          stops_by (IsLookOf guild) (IsLookOfOrNone guild) r fault.Memory (now s d.returned (g.J.Notes.noted c.args.notes.now) clock) (now t d.returned (g.J.Notes.noted c.args.notes.now) clock)
          (passed_on r e.0 fault.Memory e.1 e.2) (look_fails s t same d.returned (g.J.Notes.noted c.args.notes.now) clock guild c.in_err-input.ensures.err);
    }

pub returns-in_err-handle : goal.returns-in_err-handle
returns-in_err-handle g c =
    let s = c.args.self.now in
    let t = c.see.new.self in
    let u = c.handle.new.self in
    let d = g.D.Door.tale c.args.door.now in
    let d' = g.D.Door.tale c.handle.new.door in
    let n = g.D.Door.faults c.args.door.now in
    let n' = g.D.Door.faults c.handle.new.door in
    let noted = g.J.Notes.noted c.args.notes.now in
    let noted' = g.J.Notes.noted c.handle.new.notes in
    let r = c.from_residual-in_err-handle.result in
    let e = err_from_is_err_and r c.from_residual-in_err-handle.ensures.1 in
    let f = c.in_err-handle.field-0.0 in
    let is = passed_on r e.0 f e.1 e.2 in
    let same = c.in_ok-input.ensures.same in
    let sees = c.in_ok-input.ensures.ok in
    let ready = ready_seen c.args.posts.now (sees.input ∷ []) s t d same sees.reads c.requires.ready in
    let not = c.in_err-handle.ensures.handles sees.input any_clock sees.is_given in
    let guild = slice_get (guilds_of s.readers) c.args.place in
    record {
      ready = c.in_err-handle.ensures.ready;
      count = counts_same s u d d' (not.1.outside.count ∙ ap (λ (v : Serving). v.links.count) same) c.in_err-handle.ensures.door.given;
      cause = fails_of n n' f r is (no_door (Took sees.input ∷ not.0) t.worker u.passes f n n' not.1.why c.in_err-handle.ensures.faults);
      goes = λ clock.
          let does = c.in_err-handle.ensures.handles sees.input clock sees.is_given in
          stops_by (IsLookOf guild) (IsLookOfOrNone guild) r f (now s d.returned noted clock) (now u d'.returned noted' clock) is
          (look_stops s t same d.returned noted clock c.args.place _ sees ready.readers (now u d'.returned noted' clock) f does.0 does.1);
    }

pub returns-then-quit : goal.returns-then-quit
returns-then-quit g c =
    let s = c.args.self.now in
    let t = c.see.new.self in
    let u = c.handle.new.self in
    let d = g.D.Door.tale c.args.door.now in
    let d' = g.D.Door.tale c.handle.new.door in
    let noted = g.J.Notes.noted c.args.notes.now in
    let noted' = g.J.Notes.noted c.handle.new.notes in
    let same = c.in_ok-input.ensures.same in
    let sees = c.in_ok-input.ensures.ok in
    let ready = ready_seen c.args.posts.now (sees.input ∷ []) s t d same sees.reads c.requires.ready in
    let done = c.in_ok-handle.ensures.handles sees.input any_clock sees.is_given in
    record {
      ready = c.in_ok-handle.ensures.ready;
      count = counts_same s u d d' (done.1.outside.count ∙ ap (λ (v : Serving). v.links.count) same) c.in_ok-handle.ensures.door.given;
      cause = c.in_ok-handle.ensures.faults;
      goes = λ clock.
          let does = c.in_ok-handle.ensures.handles sees.input clock sees.is_given in
          look_quits s t same d.returned noted clock c.args.place _ sees ready.readers (now u d'.returned noted' clock) c.if-quit.true does.0 does.1;
    }

pub returns : goal.returns
returns g c =
    let s = c.args.self.now in
    let t = c.see.new.self in
    let u = c.handle.new.self in
    let d = g.D.Door.tale c.args.door.now in
    let d' = g.D.Door.tale c.handle.new.door in
    let noted = g.J.Notes.noted c.args.notes.now in
    let noted' = g.J.Notes.noted c.handle.new.notes in
    let same = c.in_ok-input.ensures.same in
    let sees = c.in_ok-input.ensures.ok in
    let ready = ready_seen c.args.posts.now (sees.input ∷ []) s t d same sees.reads c.requires.ready in
    let done = c.in_ok-handle.ensures.handles sees.input any_clock sees.is_given in
    record {
      ready = c.in_ok-handle.ensures.ready;
      count = counts_same s u d d' (done.1.outside.count ∙ ap (λ (v : Serving). v.links.count) same) c.in_ok-handle.ensures.door.given;
      cause = c.in_ok-handle.ensures.faults;
      goes = λ clock.
          let does = c.in_ok-handle.ensures.handles sees.input clock sees.is_given in
          look_goes s t same d.returned noted clock c.args.place _ sees ready.readers (now u d'.returned noted' clock) does.0 does.1;
    }
