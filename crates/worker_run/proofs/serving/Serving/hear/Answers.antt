use Rattle.std.proofs.Common.{◌∷◌, refl, subst}
use Rattle.std.proofs.lemmas.Result.{err_from_is_err_and}
use Rattle.open_links.specs.declared.heard.Word.{Word}
use Rattle.open_links.specs.Calls.{Says}
use Rattle.world_law.specs.Inputs.{Frame, Closed}
use Rattle.worker_run.specs.Histories.{Took}
use Rattle.worker_run.specs.Moves.{IsHeard, now}
use Rattle.worker_run.proofs.Readying.{stops_by, passed_on, fails_of, no_door, any_clock}
use Rattle.worker_run.proofs.Asking.{unasked, went_nothing, went_text, stopped_text, went_over, stopped_over, went_lost, stopped_lost}
use Rattle.worker_run.proofs.serving.Serving.hear.Goals as goal

pub returns-in-Nothing : goal.returns-in-Nothing
returns-in-Nothing g c = record {
  ready = c.requires.ready;
  door = record { given = refl; ended = refl; accepts = refl; waits = refl };
  count = refl;
  cause = refl;
  goes = λ clock before says.
      went_nothing before c.args.self.now (g.D.Door.tale c.args.door.now).returned (g.J.Notes.noted c.args.notes.now) clock c.requires.ready.readers
      c.args.heard.conn (now c.args.self.now (g.D.Door.tale c.args.door.now).returned (g.J.Notes.noted c.args.notes.now) clock)
      (subst (λ (w : Word). Says c.args.heard.conn w before c.args.self.now.links) c.in-Nothing.is says);
}

pub returns-in_err-handle-in-Text : goal.returns-in_err-handle-in-Text
returns-in_err-handle-in-Text g c =
    let s = c.args.self.now in
    let u = c.handle.new.self in
    let d = g.D.Door.tale c.args.door.now in
    let d' = g.D.Door.tale c.handle.new.door in
    let noted = g.J.Notes.noted c.args.notes.now in
    let noted' = g.J.Notes.noted c.handle.new.notes in
    let conn = c.args.heard.conn in
    let n = g.D.Door.faults c.args.door.now in
    let n' = g.D.Door.faults c.handle.new.door in
    let r = c.from_residual.result in
    let e = err_from_is_err_and r c.from_residual.ensures.1 in
    let f = c.in_err-handle-in-Text.field-0.0 in
    let is = passed_on r e.0 f e.1 e.2 in
    let not = c.in_err-handle-in-Text.ensures.handles (Frame conn c.in-Text.text) any_clock refl in
    record {
      ready = c.in_err-handle-in-Text.ensures.ready;
      door = c.in_err-handle-in-Text.ensures.door;
      count = not.1.outside.count;
      cause = fails_of n n' f r is (no_door (Took (Frame conn c.in-Text.text) ∷ not.0) s.worker u.passes f n n' not.1.why c.in_err-handle-in-Text.ensures.faults);
      goes = λ clock before says.
          let does = c.in_err-handle-in-Text.ensures.handles (Frame conn c.in-Text.text) clock refl in
          stops_by (IsHeard conn) (IsHeard conn) r f (unasked before s d.returned noted clock c.requires.ready.readers) (now u d'.returned noted' clock) is
          (stopped_text before s d.returned noted clock c.requires.ready.readers conn (now u d'.returned noted' clock) c.in-Text.text (subst (λ (w : Word). Says conn w before s.links) c.in-Text.is says) f does.0 does.1);
    }

pub returns-in_ok-handle-in-Text : goal.returns-in_ok-handle-in-Text
returns-in_ok-handle-in-Text g c =
    let s = c.args.self.now in
    let u = c.handle.new.self in
    let d = g.D.Door.tale c.args.door.now in
    let d' = g.D.Door.tale c.handle.new.door in
    let noted = g.J.Notes.noted c.args.notes.now in
    let noted' = g.J.Notes.noted c.handle.new.notes in
    let conn = c.args.heard.conn in
    let done = c.in_ok-handle-in-Text.ensures.handles (Frame conn c.in-Text.text) any_clock refl in
    record {
      ready = c.in_ok-handle-in-Text.ensures.ready;
      door = c.in_ok-handle-in-Text.ensures.door;
      count = done.1.outside.count;
      cause = c.in_ok-handle-in-Text.ensures.faults;
      goes = λ clock before says.
          let does = c.in_ok-handle-in-Text.ensures.handles (Frame conn c.in-Text.text) clock refl in
          went_text before s d.returned noted clock c.requires.ready.readers conn (now u d'.returned noted' clock) c.in-Text.text (subst (λ (w : Word). Says conn w before s.links) c.in-Text.is says) does.0 does.1;
    }

pub returns-in_err-end_by-in-Closed : goal.returns-in_err-end_by-in-Closed
returns-in_err-end_by-in-Closed g c =
    let s = c.args.self.now in
    let u = c.end_by.new.self in
    let d = g.D.Door.tale c.args.door.now in
    let d' = g.D.Door.tale c.end_by.new.door in
    let noted = g.J.Notes.noted c.args.notes.now in
    let noted' = g.J.Notes.noted c.end_by.new.notes in
    let conn = c.args.heard.conn in
    let n = g.D.Door.faults c.args.door.now in
    let n' = g.D.Door.faults c.end_by.new.door in
    let r = c.from_residual-in_err-end_by-in-Closed.result in
    let e = err_from_is_err_and r c.from_residual-in_err-end_by-in-Closed.ensures.1 in
    let f = c.in_err-end_by-in-Closed.field-0.0 in
    let is = passed_on r e.0 f e.1 e.2 in
    let not = c.in_err-end_by-in-Closed.ensures.ends (Closed conn c.in-Closed.code) any_clock refl in
    record {
      ready = c.in_err-end_by-in-Closed.ensures.ready;
      door = c.in_err-end_by-in-Closed.ensures.door;
      count = not.1.outside.count;
      cause = fails_of n n' f r is (no_door (Took (Closed conn c.in-Closed.code) ∷ not.0) s.worker u.passes f n n' not.1.why c.in_err-end_by-in-Closed.ensures.faults);
      goes = λ clock before says.
          let does = c.in_err-end_by-in-Closed.ensures.ends (Closed conn c.in-Closed.code) clock refl in
          stops_by (IsHeard conn) (IsHeard conn) r f (unasked before s d.returned noted clock c.requires.ready.readers) (now u d'.returned noted' clock) is
          (stopped_over before s d.returned noted clock c.requires.ready.readers conn (now u d'.returned noted' clock) c.in-Closed.code (subst (λ (w : Word). Says conn w before s.links) c.in-Closed.is says) f does.0 does.1);
    }

pub returns-in_ok-end_by-in-Closed : goal.returns-in_ok-end_by-in-Closed
returns-in_ok-end_by-in-Closed g c =
    let s = c.args.self.now in
    let u = c.end_by.new.self in
    let d = g.D.Door.tale c.args.door.now in
    let d' = g.D.Door.tale c.end_by.new.door in
    let noted = g.J.Notes.noted c.args.notes.now in
    let noted' = g.J.Notes.noted c.end_by.new.notes in
    let conn = c.args.heard.conn in
    let done = c.in_ok-end_by-in-Closed.ensures.ends (Closed conn c.in-Closed.code) any_clock refl in
    record {
      ready = c.in_ok-end_by-in-Closed.ensures.ready;
      door = c.in_ok-end_by-in-Closed.ensures.door;
      count = done.1.outside.count;
      cause = c.in_ok-end_by-in-Closed.ensures.faults;
      goes = λ clock before says.
          let does = c.in_ok-end_by-in-Closed.ensures.ends (Closed conn c.in-Closed.code) clock refl in
          went_over before s d.returned noted clock c.requires.ready.readers conn (now u d'.returned noted' clock) c.in-Closed.code (subst (λ (w : Word). Says conn w before s.links) c.in-Closed.is says) does.0 does.1;
    }

pub returns-in_err-lose_failed-in-Lost : goal.returns-in_err-lose_failed-in-Lost
returns-in_err-lose_failed-in-Lost g c =
    let s = c.args.self.now in
    let u = c.lose_failed.new.self in
    let d = g.D.Door.tale c.args.door.now in
    let d' = g.D.Door.tale c.lose_failed.new.door in
    let noted = g.J.Notes.noted c.args.notes.now in
    let noted' = g.J.Notes.noted c.lose_failed.new.notes in
    let conn = c.args.heard.conn in
    let n = g.D.Door.faults c.args.door.now in
    let n' = g.D.Door.faults c.lose_failed.new.door in
    let r = c.from_residual-in_err-lose_failed-in-Lost.result in
    let e = err_from_is_err_and r c.from_residual-in_err-lose_failed-in-Lost.ensures.1 in
    let f = c.in_err-lose_failed-in-Lost.field-0.0 in
    let is = passed_on r e.0 f e.1 e.2 in
    let not = c.in_err-lose_failed-in-Lost.ensures.loses any_clock in
    record {
      ready = c.in_err-lose_failed-in-Lost.ensures.ready;
      door = c.in_err-lose_failed-in-Lost.ensures.door;
      count = not.1.outside.count;
      cause = fails_of n n' f r is (no_door (not.0) s.worker u.passes f n n' not.1.why c.in_err-lose_failed-in-Lost.ensures.faults);
      goes = λ clock before says.
          let does = c.in_err-lose_failed-in-Lost.ensures.loses clock in
          stops_by (IsHeard conn) (IsHeard conn) r f (unasked before s d.returned noted clock c.requires.ready.readers) (now u d'.returned noted' clock) is
          (stopped_lost before s d.returned noted clock c.requires.ready.readers conn (now u d'.returned noted' clock) (subst (λ (w : Word). Says conn w before s.links) c.in-Lost.is says).0 f does.0 does.1);
    }

pub returns-in_ok-lose_failed-in-Lost : goal.returns-in_ok-lose_failed-in-Lost
returns-in_ok-lose_failed-in-Lost g c =
    let s = c.args.self.now in
    let u = c.lose_failed.new.self in
    let d = g.D.Door.tale c.args.door.now in
    let d' = g.D.Door.tale c.lose_failed.new.door in
    let noted = g.J.Notes.noted c.args.notes.now in
    let noted' = g.J.Notes.noted c.lose_failed.new.notes in
    let conn = c.args.heard.conn in
    let done = c.in_ok-lose_failed-in-Lost.ensures.loses any_clock in
    record {
      ready = c.in_ok-lose_failed-in-Lost.ensures.ready;
      door = c.in_ok-lose_failed-in-Lost.ensures.door;
      count = done.1.outside.count;
      cause = c.in_ok-lose_failed-in-Lost.ensures.faults;
      goes = λ clock before says.
          let does = c.in_ok-lose_failed-in-Lost.ensures.loses clock in
          went_lost before s d.returned noted clock c.requires.ready.readers conn (now u d'.returned noted' clock) (subst (λ (w : Word). Says conn w before s.links) c.in-Lost.is says).0 does.0 does.1;
    }
