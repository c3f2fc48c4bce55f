use Rattle.object_json.proofs.Steps.{joined}
use Rattle.object_json.proofs.Members.{tokens_with}
use Rattle.object_json.proofs.voice.write_voice.Goals as goal

pub returns-clause-adds : goal.returns-clause-adds
returns-clause-adds c = rw tokens_with (joined c.in_ok-open.ensures (joined c.in_ok-maybe_id_field.ensures.adds (joined c.in_ok-id_field_if.ensures.adds (joined c.in_ok-flag_field.ensures (joined c.in_ok-flag_field-2.ensures (joined c.in_ok-id_field.ensures.adds c.in_ok-close.ensures))))))
