-- What a dispatch of a session leaves, where what a resume needs is kept.
use Rattle.std.specs.Prelude.{ℕ, ◌+◌, ◌-◌, ◌^◌, ◌==◌, ◌&&◌, List, Bool, false, nat_lt, min, map, if◌then◌else◌, slice_get, slice_set}
use Rattle.std.specs.Option.{option_map_or}
use Rattle.replay_ring.specs.Replay.{Replay, pushed}
use Rattle.session_core.specs.State.{State, Session, is_live}

-- the number of the next dispatch
abbrev pub next_number : Session Replay → ℕ
next_number x = x.sent.last + 1

-- the same, or the last number that can be counted if the last dispatch has that
abbrev pub number_after : Session Replay → ℕ
number_after x = min (x.sent.last + 1) (2 ^ 64 - 1)

-- whether the session at this index can have one more
abbrev pub has_next_at : ℕ → State Replay → Bool
has_next_at index s = option_map_or (λ (x : Session Replay). nat_lt x.sent.last (2 ^ 64 - 1)) (slice_get s.sessions index) false

abbrev pub further_by : List ℕ → Session Replay → Session Replay
further_by text x = record x { sent = pushed x.sent text }

-- with the session at this index one dispatch further, which has this text
abbrev pub pushed_at : ℕ → List ℕ → State Replay → State Replay
pushed_at index text s = record s { sessions = option_map_or (λ x. slice_set s.sessions index (further_by text x)) (slice_get s.sessions index) s.sessions }

-- with the live session of this number one dispatch further, which has this text
abbrev pub further_if : ℕ → List ℕ → Session Replay → Session Replay
further_if number text x = if is_live x.condition && (x.number == number) then further_by text x else x

abbrev pub pushed_to : ℕ → List ℕ → State Replay → State Replay
pushed_to number text s = record s { sessions = map (further_if number text) s.sessions }
