-- The source and the sink in memory, whose calls fail by a plan.
use Rattle.std.specs.Prelude.{◌≡◌, ℕ, List, ◌++◌, length, take, drop, min, Bool, true, false, not, ◌&&◌, ◌||◌, ◌==◌, nat_lt, Result, Ok, Err}
use Rattle.gate_outside.specs.declared.faults.Failed.{Failed}
use Rattle.gate_outside.specs.declared.faults.Fault.{Fault}
use Rattle.gate_outside.specs.declared.faults.Fault.TheVariants as fault
use Rattle.gate_outside.specs.FaultPlans.{Plan, fails, after_call, after_failed_call}

-- what is left, the most bytes that one read gives, whether a read has found the end
pub record SourceState : Type 0 where
  pub left : List ℕ
  pub most : ℕ
  pub ended : Bool
  pub plan : Plan

-- how many bytes a read into a piece of that length gives
abbrev pub read_count : SourceState → ℕ → ℕ
read_count s room = min room (min s.most (length s.left))

abbrev pub after_read : SourceState → ℕ → SourceState
after_read s room = record {
  left = drop (read_count s room) s.left;
  most = s.most;
  ended = s.ended || (read_count s room == 0 && nat_lt 0 room);
  plan = after_call s.plan;
}

-- a read fails exactly if its call is to fail and the end was not found before
abbrev pub read_fails : SourceState → Bool
read_fails s = fails s.plan && not s.ended

abbrev pub Reads : Result ℕ Failed → SourceState → SourceState → ℕ → Type 0
Reads (Ok n) old new room = (read_fails old ≡ false) × (n ≡ read_count old room) × (new ≡ after_read old room)
Reads (Err f) old new room = (read_fails old ≡ true) × (new ≡ record old { plan = after_failed_call old.plan })

-- what was taken, and the most bytes that one write takes
pub record SinkState : Type 0 where
  pub got : List ℕ
  pub most : ℕ
  pub plan : Plan

-- what a write takes of a piece
abbrev pub taken : SinkState → List ℕ → List ℕ
taken s piece = take (min s.most (length piece)) piece

-- a write fails exactly if its call is to fail; out of memory leaves all as it was
abbrev pub Writes : Result ℕ Fault → SinkState → SinkState → List ℕ → Type 0
Writes (Ok n) old new piece = (fails old.plan ≡ false) × (n ≡ min old.most (length piece))
    × (new ≡ record { got = old.got ++ taken old piece; most = old.most; plan = after_call old.plan })
Writes (Err fault.Failed) old new piece = (fails old.plan ≡ true) × (new ≡ record old { plan = after_failed_call old.plan })
Writes (Err fault.Memory) old new piece = new ≡ old
