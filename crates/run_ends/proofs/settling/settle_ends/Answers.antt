use Rattle.std.proofs.lemmas.Result.{on_ok_weaker}
use Rattle.run_ends.proofs.Readers.{have_parts}
use Rattle.run_ends.proofs.settling.settle_ends.Goals as goal

pub returns-clause-readers : goal.returns-clause-readers
returns-clause-readers g c = on_ok_weaker c.settle_all.result (λ h. have_parts c.args.logs.now c.args.readers.items c.settle_all.new.readers.items h) c.settle_all.ensures.ok
