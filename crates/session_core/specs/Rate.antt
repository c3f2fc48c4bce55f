-- How many frames a connection may send: 120 in a minute (Gateway, Rate Limiting).
use Rattle.std.specs.Prelude.{ℕ, ◌+◌, List, [], ◌∷◌, ◌++◌, Bool, false, ◌==◌, ◌&&◌, nat_lt, if◌then◌else◌, length, map}
use Rattle.std.specs.List.{list_any}
use Rattle.circular_buffer.specs.Buffer.{keep_last}
use Rattle.session_core.specs.State.{State, Connection}

-- of the moments of a connection's frames, the latest 120
abbrev pub with_time : ℕ → List ℕ → List ℕ
with_time now times = keep_last 120 (times ++ now ∷ [])

-- whether there were 120 frames, the first of them less than a minute ago
abbrev pub is_crowded : ℕ → List ℕ → Bool
is_crowded now [] = false
is_crowded now (first ∷ later) = (length later == 119) && nat_lt now (first + 60000)

module _ {A : Type 0} where
  -- whether another frame of a connection is one too many
  abbrev pub is_rated : ℕ → ℕ → State A → Bool
  is_rated conn now s = list_any (λ (l : Connection). (l.number == conn) && is_crowded now l.times) s.connections

  -- a frame is counted, whatever it is answered
  abbrev pub frame_counted : ℕ → ℕ → State A → State A
  frame_counted conn now s = record s { connections = map (λ (l : Connection). if l.number == conn then record l { times = with_time now l.times } else l) s.connections }
