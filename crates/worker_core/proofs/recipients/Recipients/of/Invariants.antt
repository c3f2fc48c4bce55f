-- the users of the viewers so far
use Rattle.std.proofs.Common.{◌≡◌, true, take}
use Rattle.worker_core.specs.Masks.{has_users}
use Rattle.worker_core.proofs.recipients.Recipients.of.Given as goal

abbrev pub invariant-loop-viewer : goal.invariant-loop-viewer
invariant-loop-viewer l = has_users l.users.items (take l.viewer-index l.viewer-items) ≡ true
