-- The numbers of a spawner after many calls.
use Rattle.std.specs.Prelude.{ℕ, zero, suc, ◌==◌, if◌then◌else◌}
use Rattle.gate_outside.specs.Causes.{one_more}
use Rattle.gate_outside.specs.Spawners.{Starts}

-- so many more calls of a kind are counted
abbrev pub many_more : ℕ → ℕ → ℕ
many_more zero count = count
many_more (suc n) count = one_more (many_more n count)

-- after so many starts
abbrev pub after_starts : ℕ → Starts → Starts
after_starts n s = record {
  asked = many_more n s.asked;
  finished = s.finished;
  late = if s.finished == 0 then s.late else many_more n s.late;
}

-- after so many finishes
abbrev pub after_finishes : ℕ → Starts → Starts
after_finishes n s = record s { finished = many_more n s.finished }
