-- The adapters over the system, of which contracts see no bytes.
use Rattle.std.specs.Prelude.{ℕ, Bool, false, ◌&&◌, ◌||◌, ◌==◌, nat_lt, Result, Ok, Err}
use Rattle.gate_outside.specs.declared.faults.Failed.{Failed}
use Rattle.gate_outside.specs.Causes.{one_more}

-- whether a read has found the end, and the count of faults
pub record InputState : Type 0 where
  pub ended : Bool
  pub faults : ℕ

-- an input before its first read
abbrev pub new_input : InputState
new_input = record { ended = false; faults = 0 }

-- after a read into a piece of that length: 0 bytes for one that is not empty are the end
abbrev pub after_read : InputState → ℕ → Result ℕ Failed → InputState
after_read s room (Ok count) = record s { ended = s.ended || (count == 0 && nat_lt 0 room) }
after_read s room (Err failed) = record s { faults = one_more s.faults }
