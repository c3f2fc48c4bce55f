use Rattle.object_json.proofs.Steps.{joined}
use Rattle.object_json.proofs.Members.{tokens_with}
use Rattle.event_json.proofs.ready.write_ready.Goals as goal

pub returns-clause-adds : goal.returns-clause-adds
returns-clause-adds c = rw tokens_with (joined c.in_ok-open.ensures (joined c.in_ok-application_field.ensures.adds (joined c.in_ok-guilds_field.ensures.adds (joined c.in_ok-text_field.ensures (joined c.in_ok-text_field-2.ensures (joined c.in_ok-shard_field_if.ensures.adds (joined c.in_ok-value_field.ensures.adds (joined c.in_ok-number_field.ensures.adds c.in_ok-close.ensures))))))))
