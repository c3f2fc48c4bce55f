-- What reading and writing leave.
use Rattle.std.specs.Prelude.{◌≡◌, ℕ, ◌<◌, List, ◌++◌, length, take, Bool, true, Result, Ok, Err}
use Rattle.std.specs.declared.option.Option.{Option}
use Rattle.std.specs.Io.KnownBytes.{Appends}
use Rattle.gate_outside.specs.declared.faults.Failed.{Failed}

-- 0 for a piece that is not empty is the end of input, and every later read gives 0
pub record EndsOnce (before now : Bool) (result : Result ℕ Failed) (piece : List ℕ) : Type 0 where
  pub found : result ≡ Ok 0 → 0 < length piece → now ≡ true
  pub stays : before ≡ true → (result ≡ Ok 0) × (now ≡ true)

-- ---- what went out, from got0 to got1, and what waits after it

-- the known bytes grew by a front of the text
abbrev pub AppendsFront : (got0 got1 : Option (List ℕ)) → List ℕ → Type 0
AppendsFront got0 got1 text = (front back : List ℕ) × (front ++ back ≡ text) × Appends got0 got1 front

-- the text went out, but for its end, which waits
pub record Carries (got0 got1 : Option (List ℕ)) (waits text : List ℕ) : Type 0 where
  pub sent : List ℕ
  pub is : sent ++ waits ≡ text
  pub wrote : Appends got0 got1 sent

-- a front of it did, but for the end of that front
pub record CarriesFront (got0 got1 : Option (List ℕ)) (waits text : List ℕ) : Type 0 where
  pub sent : List ℕ
  pub back : List ℕ
  pub is : (sent ++ waits) ++ back ≡ text
  pub wrote : Appends got0 got1 sent

-- a front of the piece was taken, and not the whole of it
abbrev pub CarriesPart : (got0 got1 : Option (List ℕ)) (waits0 waits1 : List ℕ) → List ℕ → Type 0
CarriesPart got0 got1 waits0 waits1 piece = (n : ℕ) × (n < length piece) × Carries got0 got1 waits1 (waits0 ++ take n piece)

-- a write took as many bytes of the piece as it says; a refusal takes none
abbrev pub Takes : {E : Type 0} → (got0 got1 : Option (List ℕ)) (waits0 waits1 : List ℕ) → Result ℕ E → List ℕ → Type 0
Takes got0 got1 waits0 waits1 (Ok n) piece = Carries got0 got1 waits1 (waits0 ++ take n piece)
Takes got0 got1 waits0 waits1 (Err fault) piece = Carries got0 got1 waits1 waits0
