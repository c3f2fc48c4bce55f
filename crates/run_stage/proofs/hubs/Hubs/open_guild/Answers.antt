use Rattle.run_stage.proofs.Read.{more_readers}
use Rattle.run_stage.proofs.hubs.Hubs.open_guild.Goals as goal

pub returns-clause-readers : goal.returns-clause-readers
returns-clause-readers g c =
    let added = c.in_ok-add_to_each.ensures in
    more_readers c.args.places c.args.self.now.writers.items c.push.new.self.items (c.args.guild, c.in_ok-writer.writer) c.args.self.now.readers.items c.add_to_each.new.lists.items
    c.in_ok-writer.readers.items c.requires.readers c.in_ok-push.ensures.items c.in_ok-writer.ensures.unseen added.many added.added
