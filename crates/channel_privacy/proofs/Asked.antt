-- What holds of a dispatch holds of each that is told where it is.
use Rattle.std.proofs.Common.{Bool, true, false, List, [], ◌∷◌, if◌then◌else◌}
use Rattle.std.specs.Prelude.{All, flat_map}
use Rattle.std.proofs.lemmas.List.Elements.{All-nil, All-cons, All-append}
use Rattle.intent_set.specs.Asks.{asks}
use Rattle.dispatch_types.specs.declared.viewer.Viewer.{Viewer}
use Rattle.dispatch_types.specs.declared.dispatch.Dispatch.{Dispatch}
use Rattle.dispatch_types.specs.Kinds.{kind_of}
use Rattle.event_views.specs.Asked.{asked}

-- a dispatch that is told on a test
pub if-all : (P : Dispatch → Type 0) (b : Bool) (d : Dispatch) → P d → All P (if b then d ∷ [] else [])
if-all P true d fits = All-cons P d [] fits (All-nil P)
if-all P false d fits = All-nil P

-- a dispatch where it is asked for
pub asked-all : (P : Dispatch → Type 0) (v : Viewer) (own : Bool) (d : Dispatch) → P d → All P (asked v own d)
asked-all P v own d fits = if-all P (asks v.intents (kind_of d) own) d fits

-- those of each item of a list
pub each-all : {T : Type 0} (P : Dispatch → Type 0) (f : T → List Dispatch) → ((x : T) → All P (f x)) → (xs : List T) → All P (flat_map f xs)
each-all P f fits [] = All-nil P
each-all P f fits (x ∷ xs) = All-append P (f x) (flat_map f xs) (fits x) (each-all P f fits xs)
