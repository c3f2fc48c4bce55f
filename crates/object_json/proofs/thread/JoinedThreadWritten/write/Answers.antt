use Rattle.object_json.proofs.Steps.{joined}
use Rattle.object_json.proofs.Members.{tokens_with}
use Rattle.object_json.proofs.thread.JoinedThreadWritten.write.Goals as goal

pub returns-clause-adds : goal.returns-clause-adds
returns-clause-adds c = rw tokens_with (joined c.in_ok-begin_thread.ensures.adds (joined c.in_ok-joined_field_if.ensures.adds c.in_ok-end_thread.ensures.adds))
