use Rattle.json_view.proofs.Members.{found}
use Rattle.json_view.proofs.node.ValueJsonValue.member.Goals as goal

pub returns : goal.returns
returns c = found c.args.name.now c.args.self.now c.get.result c.get.ensures
