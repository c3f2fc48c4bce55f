use Rattle.object_json.proofs.Steps.{joined}
use Rattle.event_json.proofs.guild.write_guild_create.Goals as goal

pub returns-clause-adds : goal.returns-clause-adds
returns-clause-adds c = joined c.in_ok-open.ensures (joined c.in_ok-list_field.ensures.adds (joined c.in_ok-id_field.ensures.adds (joined c.in_ok-flag_field.ensures (joined c.in_ok-number_field.ensures.adds (joined c.in_ok-list_field-2.ensures.adds c.in_ok-end_guild_create.ensures.adds)))))
