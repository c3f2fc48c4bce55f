use Rattle.std.proofs.Common.{◌≡◌, ◌-◌, drop, length, ap, subst, ◌∙◌, arith}
use Rattle.std.proofs.lemmas.List.{length-drop}
use Rattle.run_stage.specs.Dealing.{AreFrom}
use Rattle.load_stage.specs.Drafts.{IsClockedClient, IsClockedWorker}
use Rattle.load_stage.proofs.stage.Room.add_clocked.Goals as goal

pub clocked_clients-requires-clause-clocks : goal.clocked_clients-requires-clause-clocks
clocked_clients-requires-clause-clocks g c =
    let later = c.clocked_workers.ensures.clocks ∙ ap (λ l. drop 3 l) c.from-left.ensures.0 in
    let long : length c.clocked_workers.new.clocks.items ≡ length c.args.clocks.items - 3 = ap (λ l. length l) later ∙ length-drop 3 c.args.clocks.items in
    let fifteen : length c.args.clocks.items ≡ 15 = c.requires.clocks in
    omega arith

pub returns-clause-workers : goal.returns-clause-workers
returns-clause-workers g c =
    subst (λ l. AreFrom (IsClockedWorker c.args.workers.items l) 0 3 c.clocked_workers.new.parts.items) c.from-left.ensures.0 c.clocked_workers.ensures.parts

pub returns-clause-clients : goal.returns-clause-clients
returns-clause-clients g c =
    let later = c.clocked_workers.ensures.clocks ∙ ap (λ l. drop 3 l) c.from-left.ensures.0 in
    subst (λ l. AreFrom (IsClockedClient c.args.clients.items l) 0 12 c.clocked_clients.new.parts.items) later c.clocked_clients.ensures
