use Rattle.object_json.proofs.Steps.{joined}
use Rattle.object_json.proofs.Members.{tokens_with}
use Rattle.object_json.proofs.thread.end_thread.Goals as goal

pub returns-clause-adds : goal.returns-clause-adds
returns-clause-adds c = rw tokens_with (joined c.in_ok-thread_count_field.ensures.adds (joined c.in_ok-text_field.ensures (joined c.in_ok-true_field_if.ensures (joined c.in_ok-id_field.ensures.adds (joined c.in_ok-id_field-2.ensures.adds (joined c.in_ok-metadata_field.ensures (joined c.in_ok-thread_kind_field.ensures c.in_ok-close.ensures)))))))
