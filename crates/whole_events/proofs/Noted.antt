-- What is given by what was noted before an edit is what is owed by the record before it.
use Rattle.std.proofs.Common.{◌≡◌, ◌++◌, Some, refl, sym, ap, subst, ◌∙◌}
use Rattle.guild_model.specs.declared.member.Member.{Member}
use Rattle.guild_model.specs.Record.{Record}
use Rattle.dispatch_types.specs.declared.viewer.Viewer.{Viewer}
use Rattle.dispatch_types.specs.Serves.{served}
use Rattle.thread_sync.proofs.Enough.{sights_are_enough}
use Rattle.event_views.specs.Asked.{told_if}
use Rattle.role_member_events.proofs.Noted.{role_member_note_is_enough}
use Rattle.channel_edit.specs.ChannelEdits.{channel_applied}
use Rattle.channel_events.specs.Ends.{channel_note}
use Rattle.channel_events.specs.Dispatches.{channel_dispatches}
use Rattle.channel_events.specs.ByNote.{channel_by_note}
use Rattle.channel_events.proofs.Noted.{channel_note_is_enough}
use Rattle.thread_events.proofs.Noted.{thread_note_is_enough}
use Rattle.edit_apply.specs.declared.guild.GuildEdit.TheVariants.{GuildOpen, GuildRename, GuildOwner, GuildOutage, GuildBack, GuildPrivate}
use Rattle.edit_apply.specs.declared.Edit.{Edit}
use Rattle.edit_apply.specs.declared.Edit.TheVariants as edit
use Rattle.edit_apply.specs.Edits.{applied}
use Rattle.whole_events.specs.Notes.{note_of}
use Rattle.whole_events.specs.Dispatches.{guild_updated, whole_dispatches}
use Rattle.whole_events.specs.ByNote.{by_note}
use Rattle.whole_events.specs.Law.{NoteIsEnough}
use Rattle.message_gate.proofs.ByMember.{served-member}
use Rattle.whole_events.proofs.Follows.{channel-served}

module _ (s : Record) (v : Viewer) (me me' : Member) where
  -- of a viewer that is served before and after an edit
  own-noted : (e : Edit) → served v s ≡ Some me → served v (applied s e) ≡ Some me' → by_note (note_of s me e) (applied s e) v me' e ≡ whole_dispatches s me (applied s e) me' v e
  own-noted (edit.Guild (GuildOpen opening)) is is' = refl
  own-noted (edit.Guild (GuildRename name)) is is' = refl
  own-noted (edit.Guild (GuildOwner user)) is is' = ap (λ o. guild_updated (record s { owner = user }) v ++ told_if v o) (sights_are_enough s (record s { owner = user }) me me')
  own-noted (edit.Guild GuildOutage) is is' = refl
  own-noted (edit.Guild GuildBack) is is' = refl
  own-noted (edit.Guild (GuildPrivate private)) is is' = refl
  own-noted (edit.RoleMember e) is is' = role_member_note_is_enough s e v me me' (served-member v s me is) (served-member v (applied s (edit.RoleMember e)) me' is')
  own-noted (edit.Channel e) is is' =
      let same_me : Some me ≡ Some me' = sym is ∙ (sym (channel-served s e v) ∙ is') in
      let mine : me ≡ me' = cc in
      subst (λ (m : Member). channel_by_note (channel_note s me e) (channel_applied s e) v m e ≡ channel_dispatches s me (channel_applied s e) m v e) mine (channel_note_is_enough s e v me)
  own-noted (edit.Thread e) is is' = thread_note_is_enough s (applied s (edit.Thread e)) e v me me'
  own-noted (edit.VoicePresence e) is is' = refl
  own-noted (edit.Message e) is is' = refl

pub note_is_enough : NoteIsEnough
note_is_enough s e v me me' is is' = own-noted s v me me' e is is'
