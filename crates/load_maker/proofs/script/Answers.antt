use Rattle.load_maker.proofs.Whole.{whole}
use Rattle.load_maker.proofs.script.Goals as goal

pub returns : goal.returns
returns c =
    whole c.args.seed c.args.part c.in_ok-lines.lines.items c.add_entries.new.lines.items c.in_ok-lines.ensures c.in_ok-add_entries.ensures
