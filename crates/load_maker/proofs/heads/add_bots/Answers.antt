use Rattle.load_maker.specs.Script.{bot_line}
use Rattle.load_maker.proofs.Ranges.{map_more}
use Rattle.load_maker.proofs.heads.add_bots.Goals as goal

pub loop-before-preserved : goal.loop-before-preserved
loop-before-preserved c =
    map_more bot_line c.args.lines.now.items c.loop-before.lines.items c.push.new.self.items c.in_ok-bot_line.field-0 c.loop-before.before c.loop-before.invariant c.in_ok-push.ensures.items c.in_ok-bot_line.ensures
