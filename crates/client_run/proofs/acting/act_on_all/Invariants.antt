use Rattle.std.proofs.Common.{◌≡◌, ◌++◌, drop, List, false}
use Rattle.gate_outside.specs.declared.sending.Sending.{Sending}
use Rattle.client_run.specs.Histories.{sendings}
use Rattle.client_run.specs.Turns.{IsSent, closed_by}
use Rattle.client_run.proofs.Sent.{Sent}
use Rattle.client_run.proofs.acting.act_on_all.Given as goal

-- what is still to be done from here gives what was to be done from the start
abbrev pub invariant-loop-act : goal.invariant-loop-act
invariant-loop-act g l = record {
  gave : l.wire.tale.gave ≡ l.fn.wire.tale.gave;
  sent : (xs : List Sending) → IsSent false xs l.fn.wire → Sent (xs ++ sendings l.acts) (closed_by false l.acts) (drop l.act-index l.acts) l.wire;
}
