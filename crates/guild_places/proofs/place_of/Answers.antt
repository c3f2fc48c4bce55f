use Rattle.guild_places.proofs.Guilds.{place_found}
use Rattle.guild_places.proofs.place_of.Goals as goal

pub returns-clause-guild : goal.returns-clause-guild
returns-clause-guild c = rw (← c.guild.view_is) (place_found c.args.index.now.keys c.guild.inside.0 c.get_index_of.result c.get_index_of.ensures.index c.get_index_of.ensures.found)
