use Rattle.std.proofs.Common.{List, [], ℕ, refl, ap, subst, ◌∙◌, inr}
use Rattle.client_run.specs.declared.target.Target.{Target}
use Rattle.client_run.specs.declared.target.Target.TheVariants.{First}
use Rattle.client_run.specs.Drives.{Drives, outside, seen}
use Rattle.client_run.specs.Turns.{Way}
use Rattle.client_run.proofs.Visiting.{goes_nowhere}
use Rattle.client_run.proofs.Following.{folds, none_dropped}
use Rattle.client_run.proofs.driving.drive.Goals as goal

pub returns-in_default-clause-drives : goal.returns-in_default-clause-drives
returns-in_default-clause-drives g c =
    let d = g.D.Dial.tale c.args.dial.now in
    let t = seen (g.C.Clock.tale c.args.clock.now) (g.W.Watch.told c.args.watch.now c.args.out.now) in
    let client = c.args.client.now in
    let goes = goes_nowhere c.args.url.now First client d d t refl refl in
    ([], (record { last = First; seen = t; goes = goes; time = inr refl; dry_run = tt; answers = tt }, (folds c.args.url.now First First client client [] goes.leads, none_dropped (g.W.Watch.reconnects c.args.watch.now))))

pub returns-clause-drives : goal.returns-clause-drives
returns-clause-drives g c =
    let a = outside c.args.client.now (g.D.Dial.tale c.args.dial.now) (seen (g.C.Clock.tale c.args.clock.now) (g.W.Watch.told c.args.watch.now c.args.out.now)) in
    let b = outside c.drive_from.new.client (g.D.Dial.tale c.drive_from.new.dial) (seen (g.C.Clock.tale c.drive_from.new.clock) (g.W.Watch.told c.drive_from.new.watch c.drive_from.new.out)) in
    let r = c.drive_from.result in
    let did = c.drive_from.ensures.drives in
    let vs = did.0 in
    let first = ap (λ (w : Way). w.first) c.new-route.ensures ∙ c.in-Ok.ensures in
    let drives = subst (λ (t : Target). Drives c.args.url.now t vs a b r) (ap (λ (w : Way). w.target) c.new-route.ensures)
    (subst (λ (url : List ℕ). Drives url c.new-route.result.target vs a b r) first did.1.0) in
    (vs, (drives, (folds c.args.url.now First drives.last a.client b.client vs drives.goes.leads, did.1.1)))
