-- An output goes out, and what holds before holds after it.
use Rattle.std.proofs.Common.{[], ◌∷◌, sym, subst}
use Rattle.std.specs.Result.{MatchResult}
use Rattle.gate_outside.specs.Doors.{DoorTale}
use Rattle.edit_apply.specs.declared.Edit.{Edit}
use Rattle.worker_core.specs.declared.io.Output.{Output as Written}
use Rattle.worker_core.specs.declared.io.Output.TheVariants.{Send, Close, Wish}
use Rattle.worker_run.specs.Histories.{Gave}
use Rattle.worker_run.specs.Moves.{Gives, GivesNot}
use Rattle.open_links.proofs.Composing.{same_door}
use Rattle.worker_run.proofs.Moves.{ready_given}
use Rattle.worker_run.proofs.serving.Serving.give.Goals as goal

pub returns-in-Send-clause-ready : goal.returns-in-Send-clause-ready
returns-in-Send-clause-ready g c =
    let d : DoorTale = g.D.Door.tale c.args.door.now in
    ready_given c.send.result c.args.posts.now (Gave (Send c.in-Send.conn c.in-Send.payload) ∷ []) c.args.self.now c.send.new.self d.returned d.returned d d (c.send.ensures d.returned) (same_door d) c.requires.ready

pub returns-in-Close-clause-ready : goal.returns-in-Close-clause-ready
returns-in-Close-clause-ready g c =
    let d : DoorTale = g.D.Door.tale c.args.door.now in
    let e : DoorTale = g.D.Door.tale c.close.new.door in
    ready_given c.close.result c.args.posts.now (Gave (Close c.in-Close.conn c.in-Close.code) ∷ []) c.args.self.now c.close.new.self d.returned e.returned d e c.close.ensures.gives c.close.ensures.door c.requires.ready

pub returns-in-Wish-clause-ready : goal.returns-in-Wish-clause-ready
returns-in-Wish-clause-ready g c =
    let d : DoorTale = g.D.Door.tale c.args.door.now in
    ready_given c.wish.result c.args.posts.now (Gave (Wish c.in-Wish.guild c.into_edit.result) ∷ []) c.args.self.now c.wish.new.self d.returned d.returned d d (c.wish.ensures d.returned) (same_door d) c.requires.ready

pub returns-in-Wish-clause-gives : goal.returns-in-Wish-clause-gives
returns-in-Wish-clause-gives g c =
    let d : DoorTale = g.D.Door.tale c.args.door.now in
    subst (λ (o : Written). MatchResult c.wish.result
    (λ _. Gives (Gave o ∷ []) c.args.self.now c.wish.new.self d.returned d.returned)
    (λ f. GivesNot f c.args.self.now c.wish.new.self d.returned d.returned)) (sym c.in-Wish.is)
    (subst (λ (e : Edit). MatchResult c.wish.result
    (λ _. Gives (Gave (Wish c.in-Wish.guild e) ∷ []) c.args.self.now c.wish.new.self d.returned d.returned)
    (λ f. GivesNot f c.args.self.now c.wish.new.self d.returned d.returned)) c.into_edit.ensures (c.wish.ensures d.returned))
