use Rattle.guild_model.proofs.Arrivals.{found_so}
use Rattle.guild_model.proofs.message_heads.found.Goals as goal

pub returns : goal.returns
returns c = rw (c.peek.ensures, c.id.view_is) (found_so c.args.id c.args.heads.now.entries c.requires.index)
