-- The numbers of a spawner.
use Rattle.std.specs.Prelude.{ℕ, ◌==◌, if◌then◌else◌}
use Rattle.gate_outside.specs.Causes.{one_more}

-- the starts that it was asked for, the finishes, and the starts that it was asked for after a finish
pub record Starts : Type 0 where
  pub asked : ℕ
  pub finished : ℕ
  pub late : ℕ

-- before the first call
abbrev pub no_starts : Starts
no_starts = record { asked = 0; finished = 0; late = 0 }

abbrev pub after_start : Starts → Starts
after_start s = record {
  asked = one_more s.asked;
  finished = s.finished;
  late = if s.finished == 0 then s.late else one_more s.late;
}

abbrev pub after_finish : Starts → Starts
after_finish s = record s { finished = one_more s.finished }
