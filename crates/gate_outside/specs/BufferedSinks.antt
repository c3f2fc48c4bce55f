-- A sink with a buffer.
use Rattle.std.specs.Prelude.{ℕ, List, ◌++◌}
use Rattle.std.specs.declared.option.Option.{Option}

-- what went out of the sink behind the buffer and what waits there, what waits in the buffer, and the count of faults
pub record BufferedState : Type 0 where
  pub got : Option (List ℕ)
  pub behind : List ℕ
  pub held : List ℕ
  pub faults : ℕ

-- all that waits
abbrev pub waits_of : BufferedState → List ℕ
waits_of s = s.behind ++ s.held
