use Rattle.event_json.proofs.body.write_body.Goals as goal

pub returns-in-GuildMemberAdd-clause-adds : goal.returns-in-GuildMemberAdd-clause-adds
returns-in-GuildMemberAdd-clause-adds c = rw c.in-GuildMemberAdd.is c.write_guild_member.ensures.adds

pub returns-in-GuildMemberUpdate-clause-adds : goal.returns-in-GuildMemberUpdate-clause-adds
returns-in-GuildMemberUpdate-clause-adds c = rw c.in-GuildMemberUpdate.is c.write_guild_member-in-GuildMemberUpdate.ensures.adds
