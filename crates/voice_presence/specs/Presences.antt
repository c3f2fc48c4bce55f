-- The statuses of members, and how others see them (Gateway Events, Presence Update).
use Rattle.std.specs.Prelude.{ℕ, Option, Some, None}
use Rattle.collections.specs.ById.{put_id, without_id}
use Rattle.guild_model.specs.declared.presence.ShownStatus.{ShownStatus}
use Rattle.guild_model.specs.declared.presence.Presence.{Presence}
use Rattle.guild_model.specs.declared.verdict.Verdict.{Verdict}
use Rattle.guild_model.specs.Record.{Record, presence_id}
use Rattle.guild_model.specs.Statuses.{status_shown}
use Rattle.guild_model.specs.Tests.{unknown_member}
use Rattle.voice_presence.specs.declared.presence_set.PresenceSet.{PresenceSet}

-- presence_set
abbrev pub presence_set_verdict : Record → PresenceSet → Option Verdict
presence_set_verdict g edit = unknown_member g edit.user

abbrev pub new_presence : ℕ → ShownStatus → Presence
new_presence user shown = record { user = user; status = shown }

-- a member that is not seen has no presence
abbrev pub with_shown_status : Record → ℕ → Option ShownStatus → Record
with_shown_status g user None = record g { presences = without_id presence_id user g.presences }
with_shown_status g user (Some shown) = record g { presences = put_id presence_id (new_presence user shown) g.presences }

abbrev pub presence_was_set : Record → PresenceSet → Record
presence_was_set g edit = with_shown_status g edit.user (status_shown edit.status)
