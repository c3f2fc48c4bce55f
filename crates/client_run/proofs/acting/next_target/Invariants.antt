use Rattle.std.proofs.Common.{◌≡◌, drop}
use Rattle.client_run.specs.Histories.{dial_in}
use Rattle.client_run.proofs.acting.next_target.Given as goal

-- none of those so far says where the client connects
abbrev pub invariant-loop-act : goal.invariant-loop-act
invariant-loop-act l = dial_in (drop l.act-index l.acts) ≡ dial_in l.acts
