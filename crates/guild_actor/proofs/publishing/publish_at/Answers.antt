use Rattle.guild_actor.proofs.OneEdit.{added, refused, same_guilds}
use Rattle.guild_actor.proofs.publishing.publish_at.Goals as goal

pub returns-clause-ok : goal.returns-clause-ok
returns-clause-ok g c =
    added c.args.writers.now.items c.args.place c.index_mut.result.now c.publish-published.new.self c.requires.place c.index_mut.ensures.value c.args.edit _ c.outcome.result
    c.publish-published.ensures.ok c.publish-published.ensures.err c.outcome.ensures.added c.outcome.ensures.refused

pub returns-clause-err : goal.returns-clause-err
returns-clause-err g c =
    refused c.args.writers.now.items c.args.place c.index_mut.result.now c.publish-published.new.self c.requires.place c.index_mut.ensures.value c.args.edit _ c.outcome.result
    c.publish-published.ensures.err c.outcome.ensures.added c.outcome.ensures.refused

pub returns-clause-guilds : goal.returns-clause-guilds
returns-clause-guilds g c = same_guilds c.args.writers.now.items c.args.place c.index_mut.result.now c.publish-published.new.self c.requires.place c.index_mut.ensures.value
