use Rattle.std.proofs.Common.{sym}
use Rattle.event_json.proofs.Shards.{pair_of_others}
use Rattle.event_json.proofs.ready.pair_from.Goals as goal

pub returns-then-list-ne2 : goal.returns-then-list-ne2
returns-then-list-ne2 c = sym (pair_of_others c.args.list.now c.if-list-ne2.true)
