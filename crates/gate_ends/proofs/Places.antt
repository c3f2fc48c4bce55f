-- Guilds by their places in a list in which each stands once.
use Rattle.std.proofs.Common.{◌≡◌, ◌≢◌, ℕ, ◌+◌, ◌==◌, true, false, List, [], ◌∷◌, Some, refl, arith}
use Rattle.std.specs.List.{position}
use Rattle.std.proofs.lemmas.Bool.Decides.{Decides-eqb}
use Rattle.std.proofs.lemmas.Grind.{common_steps}
use Rattle.guild_places.specs.Places.{has_guild, AreDistinct}
use Rattle.guild_places.proofs.Guilds.{differs, apart, first_of, rest_of}

-- these guilds stand in the list from this place on
abbrev pub AtPlaces : List ℕ → ℕ → List ℕ → Type 0
AtPlaces all k [] = Unit {0}
AtPlaces all k (g ∷ gs) = (position (λ h. g == h) all ≡ Some k) × AtPlaces all (k + 1) gs

-- one guild more in front of the list
later : (x : ℕ) (all : List ℕ) (k : ℕ) (gs : List ℕ) → has_guild x gs ≡ false → AtPlaces all k gs → AtPlaces (x ∷ all) (k + 1) gs
later x all k [] none h = tt
later x all k (g ∷ gs) none h =
    let other : g ≢ x = apart x g (first_of (g == x) (has_guild x gs) none) in
    let miss : (g == x) ≡ false = differs g x other in
    (there g x all k miss h.0, later x all (k + 1) gs (rest_of (g == x) (has_guild x gs) none) h.1)
  where
    there : (g x : ℕ) (all : List ℕ) (k : ℕ) → (g == x) ≡ false → position (λ h. g == h) all ≡ Some k → position (λ h. g == h) (x ∷ all) ≡ Some (k + 1)
    there g x all k miss at = grind (arith, common_steps, miss, at)

here : (g : ℕ) (gs : List ℕ) → position (λ h. g == h) (g ∷ gs) ≡ Some 0
here g gs =
    let same : (g == g) ≡ true = (Decides-eqb g g).1 refl in
    grind (arith, common_steps, same)

pub at_places : (gs : List ℕ) → AreDistinct gs → AtPlaces gs 0 gs
at_places [] h = tt
at_places (g ∷ gs) h = (here g gs, later g gs 0 gs h.0 (at_places gs h.1))
