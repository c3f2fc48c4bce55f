-- How many dispatches a worker has made.
use Rattle.std.specs.Prelude.{ℕ, List, if◌then◌else◌, length}
use Rattle.std.specs.List.{sum_by}
use Rattle.replay_ring.specs.Replay.{Replay}
use Rattle.session_core.specs.State.{Session, is_live}
use Rattle.world_law.specs.Sent.{Sent}

-- the dispatches of a session
abbrev pub dispatch_count : Session Sent → ℕ
dispatch_count x = length x.sent.told

-- of all sessions, the ended ones too
abbrev pub all_dispatches : List (Session Sent) → ℕ
all_dispatches xs = sum_by dispatch_count xs

-- of those that have ended
abbrev pub ended_count : Session Sent → ℕ
ended_count x = if is_live x.condition then 0 else dispatch_count x

abbrev pub ended_dispatches : List (Session Sent) → ℕ
ended_dispatches xs = sum_by ended_count xs

-- of the live ones, as the code keeps them: the number of a session's last dispatch is how many it has
abbrev pub last_number : Session Replay → ℕ
last_number x = x.sent.last

abbrev pub live_dispatches : List (Session Replay) → ℕ
live_dispatches xs = sum_by last_number xs
