-- Which edits are accepted, and what becomes of a guild's record.
use Rattle.std.specs.Prelude.{ℕ, List, [], ◌∷◌, Bool, Option, Some, None}
use Rattle.std.specs.Option.{is_none}
use Rattle.guild_model.specs.declared.verdict.Verdict.{Verdict}
use Rattle.guild_model.specs.Record.{Record, closed}
use Rattle.guild_model.specs.Tests.{first_of}
use Rattle.guild_model.specs.Ascending.{IsWell}
use Rattle.role_member_edit.specs.RoleMember.{role_member_verdict, role_member_applied}
use Rattle.channel_edit.specs.ChannelEdits.{channel_verdict, channel_applied}
use Rattle.thread_edit.specs.ThreadEdits.{thread_verdict, thread_applied}
use Rattle.voice_presence.specs.VoicePresence.{voice_presence_verdict, voice_presence_applied}
use Rattle.message_edit.specs.MessageEdits.{message_verdict, message_applied}
use Rattle.edit_apply.specs.declared.Edit.{Edit}
use Rattle.edit_apply.specs.declared.Edit.TheVariants.{Guild, RoleMember, Channel, Thread, VoicePresence, Message}
use Rattle.edit_apply.specs.Guilds.{out_of_service, guild_verdict, guild_applied}

-- why an edit is refused, if it is: the first of its tests that fails
abbrev pub verdict : Record → Edit → Option Verdict
verdict g (Guild edit) = guild_verdict g edit
verdict g (RoleMember edit) = first_of (out_of_service g ∷ role_member_verdict g edit ∷ [])
verdict g (Channel edit) = first_of (out_of_service g ∷ channel_verdict g edit ∷ [])
verdict g (Thread edit) = first_of (out_of_service g ∷ thread_verdict g edit ∷ [])
verdict g (VoicePresence edit) = first_of (out_of_service g ∷ voice_presence_verdict g edit ∷ [])
verdict g (Message edit) = first_of (out_of_service g ∷ message_verdict g edit ∷ [])

-- the record after an edit that is not refused
abbrev pub applied : Record → Edit → Record
applied g (Guild edit) = guild_applied g edit
applied g (RoleMember edit) = role_member_applied g edit
applied g (Channel edit) = channel_applied g edit
applied g (Thread edit) = thread_applied g edit
applied g (VoicePresence edit) = voice_presence_applied g edit
applied g (Message edit) = message_applied g edit

abbrev pub accepts : Record → Edit → Bool
accepts g edit = is_none (verdict g edit)

abbrev pub after_verdict : Option Verdict → Record → Edit → Record
after_verdict None g edit = applied g edit
after_verdict (Some verdict) g edit = g

-- the record after an edit; a refused one changes nothing
abbrev pub after : Record → Edit → Record
after g edit = after_verdict (verdict g edit) g edit

-- the record after these edits
abbrev pub state_from : Record → List Edit → Record
state_from g [] = g
state_from g (edit ∷ edits) = state_from (after g edit) edits

-- the record of a guild to which these edits, and no other, have come
abbrev pub state : ℕ → List Edit → Record
state guild edits = state_from (closed guild) edits

-- an edit leaves a record well, and so every record that edits make is well
abbrev pub KeepsWell : Type 0
KeepsWell = (g : Record) (edit : Edit) → IsWell g → IsWell (after g edit)

abbrev pub StaysWell : Type 0
StaysWell = (guild : ℕ) (edits : List Edit) → IsWell (state guild edits)
