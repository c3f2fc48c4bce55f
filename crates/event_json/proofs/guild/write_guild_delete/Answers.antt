use Rattle.object_json.proofs.Steps.{joined}
use Rattle.object_json.proofs.Members.{tokens_with}
use Rattle.event_json.proofs.guild.write_guild_delete.Goals as goal

pub returns-clause-adds : goal.returns-clause-adds
returns-clause-adds c = rw tokens_with (joined c.in_ok-open.ensures (joined c.in_ok-id_field.ensures.adds (joined c.in_ok-true_field_if.ensures c.in_ok-close.ensures)))
