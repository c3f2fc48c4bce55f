use Rattle.std.proofs.Common.{rules, ◌<◌, length, subst}
use Rattle.run_stage.specs.Hubs.{IsNewWriter}
use Rattle.run_stage.proofs.Written.{one_writer}
use Rattle.run_stage.proofs.hubs.Hubs.open_all.Goals as goal

pub loop-guild-preserved : goal.loop-guild-preserved
loop-guild-preserved g c =
    let guilds = c.args.guilds.now in
    let i = c.loop-guild.guild-index in
    let opened = c.in_ok-open_guild.ensures in
    let lt : i < length guilds = search rules in
    record {
      writers = one_writer guilds i c.guild-item.result c.loop-guild.self.writers.items c.open_guild.new.self.writers.items opened.writer.0 lt
          c.loop-guild.invariant.writers opened.writer.2 (subst (λ guild. IsNewWriter guild opened.writer.0) c.guild-item.is opened.writer.1);
      readers = opened.readers;
    }
