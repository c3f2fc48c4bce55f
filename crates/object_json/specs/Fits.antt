-- What the types of fields hold.
use Rattle.std.specs.Prelude.{ℕ, ◌<◌, ◌≤◌, ◌^◌, List, [], ◌∷◌}
use Rattle.guild_model.specs.declared.moment.TheConstants.{END_OF_TIME}

-- each item of a list does
abbrev pub Each : {A : Type 0} → (A → Type 0) → List A → Type 0
Each P [] = Unit {0}
Each P (a ∷ items) = P a × Each P items

abbrev pub IsPartCount : ℕ → Type 0
IsPartCount n = n ≤ 10

abbrev pub IsWhole : ℕ → Type 0
IsWhole n = n < 2 ^ 64

abbrev pub IsId : ℕ → Type 0
IsId n = n < 2 ^ 64

abbrev pub IsMask : ℕ → Type 0
IsMask n = n < 2 ^ 53

abbrev pub IsSmall : ℕ → Type 0
IsSmall n = n < 2 ^ 32

abbrev pub IsMoment : ℕ → Type 0
IsMoment n = n < END_OF_TIME
