use Rattle.std.proofs.Common.{◌∙◌, ap₂}
use Rattle.serve_heads.specs.Guilds.{with_guild}
use Rattle.serve_heads.proofs.Once.{inserted, one_more}
use Rattle.serve_heads.proofs.gathering.add_guilds.Goals as goal

pub loop-guild-preserved : goal.loop-guild-preserved
loop-guild-preserved c =
    let keys = c.loop-guild.index.keys in
    c.in_ok-insert.ensures.keys ∙ inserted c.guild.inside.0 keys ∙ ap₂ with_guild c.loop-guild.invariant (c.guild.view_is ∙ c.guild-item.is)
    ∙ one_more c.args.index.now.keys c.args.guilds.now c.loop-guild.guild-index c.guild-item.result c.loop-guild-test.true
