-- Where no test fails, each one passes.
use Rattle.std.proofs.Common.{◌≡◌, Bool, true, false, not, List, ◌∷◌, Option, Some, None, refl}
use Rattle.std.specs.Prelude.{is_some}
use Rattle.std.proofs.lemmas.Bool.{not-false}
use Rattle.guild_model.specs.declared.channel.Channel.{Channel}
use Rattle.guild_model.specs.declared.verdict.Verdict.{Verdict}
use Rattle.guild_model.specs.Consistent.{is_parent}
use Rattle.guild_model.specs.Tests.{refused_if, first_of}

pub first_passes : (test : Option Verdict) (tests : List (Option Verdict)) → first_of (test ∷ tests) ≡ None → (test ≡ None) × (first_of tests ≡ None)
first_passes None tests e = (refl, e)
first_passes (Some v) tests e = absurd (cc)

pub not_refused : (fails : Bool) (v : Verdict) → refused_if fails v ≡ None → fails ≡ false
not_refused true v e = absurd (cc)
not_refused false v e = refl

pub passed : (holds : Bool) (v : Verdict) → refused_if (not holds) v ≡ None → holds ≡ true
passed holds v e = not-false holds (not_refused (not holds) v e)

-- a parent is a channel that is there
pub parent-there : (o : Option Channel) → is_parent o ≡ true → is_some o ≡ true
parent-there None e = absurd (cc)
parent-there (Some c) e = refl
