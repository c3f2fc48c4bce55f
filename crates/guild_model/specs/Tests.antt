-- The tests of edits: each gives the verdict of an edit where it fails.
use Rattle.std.specs.Prelude.{ℕ, nat_lt, length, List, [], ◌∷◌, Bool, not, Option, Some, None, Result, Ok, Err, if◌then◌else◌}
use Rattle.std.specs.Option.{option_or}
use Rattle.collections.specs.ById.{has_id}
use Rattle.guild_model.specs.declared.verdict.Verdict.{Verdict}
use Rattle.guild_model.specs.declared.verdict.Verdict.TheVariants.{UnknownRole, UnknownMember, UnknownChannel, UnknownMessage, TooMany, TooLong}
use Rattle.guild_model.specs.Heads.{has_head}
use Rattle.guild_model.specs.Record.{Record, role_id, member_id, channel_id}

-- a test that refuses
abbrev pub refused_if : Bool → Verdict → Option Verdict
refused_if fails verdict = if fails then Some verdict else None

-- the verdict of the first test that fails
abbrev pub first_of : List (Option Verdict) → Option Verdict
first_of [] = None
first_of (test ∷ tests) = option_or test (first_of tests)

-- what a call that judges answers
abbrev pub outcome : Option Verdict → Result (Unit {0}) Verdict
outcome None = Ok tt
outcome (Some verdict) = Err verdict

-- a text of more bytes than the limit
abbrev pub too_long : ℕ → List ℕ → Option Verdict
too_long limit text = refused_if (nat_lt limit (length text)) (TooLong limit)

-- one more would make more than the limit
abbrev pub too_many : ℕ → ℕ → Option Verdict
too_many limit count = refused_if (not (nat_lt count limit)) (TooMany limit)

abbrev pub unknown_role : Record → ℕ → Option Verdict
unknown_role g role = refused_if (not (has_id role_id role g.roles)) UnknownRole

abbrev pub unknown_member : Record → ℕ → Option Verdict
unknown_member g user = refused_if (not (has_id member_id user g.members)) UnknownMember

abbrev pub unknown_channel : Record → ℕ → Option Verdict
unknown_channel g channel = refused_if (not (has_id channel_id channel g.channels)) UnknownChannel

abbrev pub unknown_message : Record → ℕ → Option Verdict
unknown_message g message = refused_if (not (has_head message g.messages)) UnknownMessage
