use Rattle.object_json.proofs.Steps.{joined}
use Rattle.event_json.proofs.guild.end_guild_create.Goals as goal

pub returns-clause-adds : goal.returns-clause-adds
returns-clause-adds c = joined c.in_ok-text_field.ensures (joined c.in_ok-id_field.ensures.adds (joined c.in_ok-list_field.ensures.adds (joined c.in_ok-list_field-2.ensures.adds (joined c.in_ok-list_field-3.ensures.adds (joined c.in_ok-list_field-4.ensures.adds c.in_ok-close.ensures)))))
