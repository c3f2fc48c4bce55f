use Rattle.object_json.proofs.Steps.{joined}
use Rattle.object_json.proofs.Members.{tokens_with}
use Rattle.event_json.proofs.member.write_members_chunk.Goals as goal

pub returns-clause-adds : goal.returns-clause-adds
returns-clause-adds c = rw (tokens_with, tokens_with, tokens_with) (joined c.in_ok-open.ensures (joined c.in_ok-number_field.ensures.adds (joined c.in_ok-number_field-2.ensures.adds (joined c.in_ok-id_field.ensures.adds (joined c.in_ok-list_field.ensures.adds (joined c.in_ok-text_field_if.ensures (joined c.in_ok-list_field_if.ensures.adds (joined c.in_ok-presences_field_if.ensures.adds c.in_ok-close.ensures))))))))
