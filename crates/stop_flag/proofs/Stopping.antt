-- Where no seat has set the flag, none has found it set.
use Rattle.std.proofs.Common.{◌≡◌, ℕ, true≢false, List, Option, Some, None, sym, refl, ap, ◌∙◌}
use Rattle.stop_flag.specs.declared.seat_end.SeatEnd.{SeatEnd}
use Rattle.stop_flag.specs.Ended.{IsFair, HaveEnded, NoneHasSet, NoneHasFound}

none_by : (found : Option ℕ) → ((by : ℕ) → found ≡ Some by → ⊥) → found ≡ None
none_by None not_by = refl
none_by (Some by) not_by = absurd (not_by by refl)

pub none_found : (seats : ℕ) (ended : List SeatEnd) → IsFair seats ended → HaveEnded seats ended → NoneHasSet ended → NoneHasFound ended
none_found seats ended fair all unset k e at = none_by e.found
    (λ by found. let setter = all by (fair.low k by e at found) in
    true≢false (sym (fair.set k setter.0 e setter.1 at setter.2 (found ∙ ap (λ n. Some n) (sym setter.3))) ∙ unset setter.0 setter.1 setter.2))
