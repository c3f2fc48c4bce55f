-- Lists that are told or not, and what a call adds to them.
use Rattle.std.specs.Prelude.{◌≡◌, List, [], ◌∷◌, ◌++◌, Result, Ok, Err, ⊤}
use Rattle.std.specs.declared.option.Option.{Option}
use Rattle.std.specs.declared.option.Option.TheVariants.{Some, None}
use Rattle.gate_outside.specs.declared.faults.Fault.{Fault}
use Rattle.gate_outside.specs.declared.faults.Fault.TheVariants.{Failed, Memory}

-- a list that is told grows by x at its end, and one that is not told stays so
abbrev pub GrowsBy : {A : Type 0} → Option (List A) → Option (List A) → A → Type 0
GrowsBy None new x = new ≡ None
GrowsBy (Some old) None x = ⊥
GrowsBy (Some old) (Some new) x = new ≡ old ++ x ∷ []

-- the same by what there is
abbrev pub GrowsByAny : {A : Type 0} → Option (List A) → Option (List A) → Option A → Type 0
GrowsByAny old new None = new ≡ old
GrowsByAny old new (Some x) = GrowsBy old new x

-- what was asked for is listed, unless memory ran out
abbrev pub ListsAsk : {A T : Type 0} → Option (List A) → Option (List A) → A → Result T Fault → Type 0
ListsAsk old new asked (Ok x) = GrowsBy old new asked
ListsAsk old new asked (Err Failed) = GrowsBy old new asked
ListsAsk old new asked (Err Memory) = new ≡ old

-- a list that is told and is empty, or one that is not told
abbrev pub IsEmptyIfTold : {A : Type 0} → Option (List A) → Type 0
IsEmptyIfTold None = ⊤
IsEmptyIfTold (Some xs) = xs ≡ []
