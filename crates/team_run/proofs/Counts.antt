-- The numbers of a spawner, call by call.
use Rattle.std.proofs.Common.{◌≡◌, ℕ, zero, suc, ◌+◌, ◌-◌, ◌<◌, ◌≤◌, ◌==◌, ◌^◌, Bool, true, false, if◌then◌else◌, refl, ap, ◌∙◌, arith, add-one}
use Rattle.gate_outside.specs.Causes.{one_more}
use Rattle.gate_outside.specs.Spawners.{Starts, after_start, after_finish}
use Rattle.team_run.specs.Teams.{many_more, after_starts, after_finishes}

-- the starts that are late, after one more
late_more : (b : Bool) (late more : ℕ) → if b then (if b then late else more) else one_more (if b then late else more) ≡ if b then late else one_more more
late_more true late more = refl
late_more false late more = refl

-- one call more
pub one_start : (n : ℕ) (s : Starts) → after_start (after_starts n s) ≡ after_starts (n + 1) s
one_start n s =
    let late = late_more (s.finished == 0) s.late (many_more n s.late) in
    let one : n + 1 ≡ suc n = add-one n in
    rw one (ap (λ (l : ℕ). record { asked = one_more (many_more n s.asked); finished = s.finished; late = l }) late)

pub one_finish : (n : ℕ) (s : Starts) → after_finish (after_finishes n s) ≡ after_finishes (n + 1) s
one_finish n s = let one : n + 1 ≡ suc n = add-one n in rw one refl

-- the calls that a list of so many takes, of which so many more are left
pub less_more : (n m : ℕ) → m + 1 ≤ n → n - m ≡ n - (m + 1) + 1
less_more n m within = omega arith

-- a count that does not come to its last value counts each
pub many_more_is : (n count : ℕ) → count + n < 2 ^ 64 → many_more n count ≡ count + n
many_more_is zero count within = omega arith
many_more_is (suc n) count within =
    let before = many_more_is n count (omega arith) in
    ap one_more before ∙ omega arith

-- where nothing is finished yet, no start is late
pub none_late : (n : ℕ) (s : Starts) → s.finished ≡ 0 → (after_starts n s).late ≡ s.late
none_late n s none = rw none refl
