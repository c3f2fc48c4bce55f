use Rattle.std.proofs.Common.{[], ◌∷◌, slice_get, All, refl}
use Rattle.std.proofs.lemmas.Result.{err_from_is_err_and}
use Rattle.worker_run.specs.Hubs.{IsReader}
use Rattle.guild_places.specs.Places.{guilds_of}
use Rattle.worker_run.specs.Moves.{IsLookOf, IsLookOfOrNone, now}
use Rattle.worker_run.specs.Running.{Quietly}
use Rattle.worker_run.specs.declared.fault.WorkFault.TheVariants as fault
use Rattle.worker_run.proofs.Hubs.{readers_kept}
use Rattle.worker_run.proofs.Readying.{stops_by, passed_on, fails_of}
use Rattle.worker_run.proofs.Silence.{look_is_silent, readers_took, quiet_look_fails, quiet_look_goes, quiet_look_stops, quiet_look_quits}
use Rattle.worker_run.proofs.Whole.{not_of_door}
use Rattle.worker_run.proofs.serving.Serving.look_quietly.Goals as goal

pub returns-in_err-input-clause-readers : goal.returns-in_err-input-clause-readers
returns-in_err-input-clause-readers g c = readers_kept [] c.args.self.now.readers c.see.new.self.readers c.in_err-input.ensures.err c.requires.readers

pub returns-in_err-input-clause-goes : goal.returns-in_err-input-clause-goes
returns-in_err-input-clause-goes g c back clock =
    let s = c.args.self.now in
    let t = c.see.new.self in
    let noted = g.J.Notes.noted c.args.notes.now in
    let guild = slice_get (guilds_of s.readers) c.args.place in
    let r = c.from_residual.result in
    let e = err_from_is_err_and r c.from_residual.ensures.1 in
    stops_by (Quietly (IsLookOf guild)) (Quietly (IsLookOfOrNone guild)) r fault.Memory (now s back noted clock) (now t back noted clock)
    (passed_on r e.0 fault.Memory e.1 e.2) (quiet_look_fails s t c.in_err-input.ensures.same back noted clock guild c.in_err-input.ensures.err)

pub returns-in_err-take_quietly-clause-readers : goal.returns-in_err-take_quietly-clause-readers
returns-in_err-take_quietly-clause-readers g c =
    let sees = c.in_ok-input.ensures.ok in
    readers_took (sees.input ∷ []) c.args.self.now.readers c.see.new.self c.take_quietly.new.self c.in_err-take_quietly.ensures.same sees.reads c.requires.readers

pub returns-in_err-take_quietly-clause-goes : goal.returns-in_err-take_quietly-clause-goes
returns-in_err-take_quietly-clause-goes g c back clock =
    let s = c.args.self.now in
    let t = c.see.new.self in
    let u = c.take_quietly.new.self in
    let before = g.J.Notes.noted c.args.notes.now in
    let after = g.J.Notes.noted c.take_quietly.new.notes in
    let guild = slice_get (guilds_of s.readers) c.args.place in
    let sees = c.in_ok-input.ensures.ok in
    let r = c.from_residual-in_err-take_quietly.result in
    let e = err_from_is_err_and r c.from_residual-in_err-take_quietly.ensures.1 in
    let f = c.in_err-take_quietly.field-0.0 in
    let readers : All IsReader t.readers = readers_kept (sees.input ∷ []) s.readers t.readers sees.reads c.requires.readers in
    stops_by (Quietly (IsLookOf guild)) (Quietly (IsLookOfOrNone guild)) r f (now s back before clock) (now u back after clock)
    (passed_on r e.0 f e.1 e.2)
    (quiet_look_stops s t c.in_ok-input.ensures.same back before clock c.args.place _ sees readers c.requires.links u after c.in_err-take_quietly.ensures.same f
    (c.in_err-take_quietly.ensures.takes sees.input sees.is_given (look_is_silent sees.input sees.guild sees.about)))

pub returns-then-quit-clause-readers : goal.returns-then-quit-clause-readers
returns-then-quit-clause-readers g c =
    let sees = c.in_ok-input.ensures.ok in
    readers_took (sees.input ∷ []) c.args.self.now.readers c.see.new.self c.take_quietly.new.self c.in_ok-take_quietly.ensures.same sees.reads c.requires.readers

pub returns-then-quit-clause-goes : goal.returns-then-quit-clause-goes
returns-then-quit-clause-goes g c back clock =
    let s = c.args.self.now in
    let t = c.see.new.self in
    let u = c.take_quietly.new.self in
    let before = g.J.Notes.noted c.args.notes.now in
    let after = g.J.Notes.noted c.take_quietly.new.notes in
    let sees = c.in_ok-input.ensures.ok in
    let readers : All IsReader t.readers = readers_kept (sees.input ∷ []) s.readers t.readers sees.reads c.requires.readers in
    let takes = c.in_ok-take_quietly.ensures.takes sees.input sees.is_given (look_is_silent sees.input sees.guild sees.about) in
    quiet_look_quits s t c.in_ok-input.ensures.same back before clock c.args.place _ sees readers c.requires.links u after c.in_ok-take_quietly.ensures.same c.if-quit.true takes.0 takes.1

pub returns-clause-readers : goal.returns-clause-readers
returns-clause-readers g c =
    let sees = c.in_ok-input.ensures.ok in
    readers_took (sees.input ∷ []) c.args.self.now.readers c.see.new.self c.take_quietly.new.self c.in_ok-take_quietly.ensures.same sees.reads c.requires.readers

pub returns-clause-goes : goal.returns-clause-goes
returns-clause-goes g c back clock =
    let s = c.args.self.now in
    let t = c.see.new.self in
    let u = c.take_quietly.new.self in
    let before = g.J.Notes.noted c.args.notes.now in
    let after = g.J.Notes.noted c.take_quietly.new.notes in
    let sees = c.in_ok-input.ensures.ok in
    let readers : All IsReader t.readers = readers_kept (sees.input ∷ []) s.readers t.readers sees.reads c.requires.readers in
    let takes = c.in_ok-take_quietly.ensures.takes sees.input sees.is_given (look_is_silent sees.input sees.guild sees.about) in
    quiet_look_goes s t c.in_ok-input.ensures.same back before clock c.args.place _ sees readers c.requires.links u after c.in_ok-take_quietly.ensures.same takes.0 takes.1

pub returns-in_err-input-clause-cause : goal.returns-in_err-input-clause-cause
returns-in_err-input-clause-cause g c faults =
    let r = c.from_residual.result in
    let e = err_from_is_err_and r c.from_residual.ensures.1 in
    fails_of faults faults fault.Memory r (passed_on r e.0 fault.Memory e.1 e.2) refl

pub returns-in_err-take_quietly-clause-cause : goal.returns-in_err-take_quietly-clause-cause
returns-in_err-take_quietly-clause-cause g c faults =
    let sees = c.in_ok-input.ensures.ok in
    let r = c.from_residual-in_err-take_quietly.result in
    let e = err_from_is_err_and r c.from_residual-in_err-take_quietly.ensures.1 in
    let f = c.in_err-take_quietly.field-0.0 in
    fails_of faults faults f r (passed_on r e.0 f e.1 e.2)
    (not_of_door sees.input c.see.new.self.worker (g.J.Notes.noted c.args.notes.now) (g.J.Notes.noted c.take_quietly.new.notes) f faults
    (c.in_err-take_quietly.ensures.takes sees.input sees.is_given (look_is_silent sees.input sees.guild sees.about)))
