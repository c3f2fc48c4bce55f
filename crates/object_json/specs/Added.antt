-- What a step of writing adds.
use Rattle.std.specs.Prelude.{◌≡◌, ℕ, ◌++◌, List, [], ◌∷◌, OnOk, Result, Option, Some, None}
use Rattle.json.specs.Token.{Token, key}
use Rattle.json.specs.Tree.{json_tokens, members_tokens}
use Rattle.json.specs.Written.{Written}
use Rattle.serde_json.specs.Data.{Data, Members}
use Rattle.serde_json.specs.Written.{outline, members_outline}

-- these tokens stand after those before
pub record HasAdded (old new : Written) (ts : List Token) : Type 0 where
  pub tokens : new.tokens ≡ old.tokens ++ ts
  pub before : new.before ≡ old.before

abbrev pub AddsTokens : {E : Type 0} → Result (Unit {0}) E → Written → Written → List Token → Type 0
AddsTokens r old new ts = OnOk r (HasAdded old new ts)

-- the value's tokens do
abbrev pub Adds : {E : Type 0} → Result (Unit {0}) E → Written → Written → Data → Type 0
Adds r old new d = AddsTokens r old new (json_tokens (outline d))

-- the tokens of a member
abbrev pub member_tokens : List ℕ → Data → List Token
member_tokens name d = key name ∷ json_tokens (outline d)

abbrev pub member_tokens_if : List ℕ → Option Data → List Token
member_tokens_if name None = []
member_tokens_if name (Some d) = member_tokens name d

-- the last members of an object, and its end
abbrev pub Ends : {E : Type 0} → Result (Unit {0}) E → Written → Written → Members → Type 0
Ends r old new ms = AddsTokens r old new (members_tokens (members_outline ms))
