use Rattle.guild_hub.proofs.Marking.{still_stored}
use Rattle.guild_hub.proofs.mark.Watch.learn.Goals as goal

pub returns-clause-quit : goal.returns-clause-quit
returns-clause-quit c = still_stored c.note.inside.seen.log c.learn.new.self.log c.learn.ensures.3 c.note.invariant
