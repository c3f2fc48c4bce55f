use Rattle.world_law.proofs.Worlds.{each_run_holds, each_entry_holds, each_entry_tells_only, each_message_holds, each_worker_holds, each_connection_holds}
use Rattle.world_law.proofs.Sends.{each_send_holds}
use Rattle.world_law.proofs.Connections.{each_output_holds}
use Rattle.world_law.proofs.GoesOn.{each_resume_holds}
use Rattle.world_law.proofs.law.the_law.Goals as goal

pub returns : goal.returns
returns c = record {
  law = record {
    folds = each_run_holds;
    sends = each_send_holds;
    connections = each_connection_holds;
    outputs = each_output_holds;
    entries = each_entry_holds;
    tells = each_entry_tells_only;
    messages = each_message_holds;
    resumes = each_resume_holds;
    workers = each_worker_holds;
  };
}
