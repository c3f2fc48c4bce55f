use Rattle.std.proofs.Common.{◌≡◌, ℕ, ◌<◌, length, Some}
use Rattle.std.specs.Prelude.{slice_get}
use Rattle.stop_flag.specs.Flags.{new_keeper, new_seat}
use Rattle.stop_flag.proofs.stop_flag.StopFlag.make.Given as goal

abbrev pub invariant-loop-number : goal.invariant-loop-number
invariant-loop-number l = record {
  keeper : l.keeper ≡ new_keeper l.keeper.flag l.number;
  many : length l.made.items ≡ l.number;
  made : (n : ℕ) → n < l.number → slice_get l.made.items n ≡ Some (new_seat l.keeper.flag n);
}
