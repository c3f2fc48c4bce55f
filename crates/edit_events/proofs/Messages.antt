-- An edit of messages owes its dispatch exactly where it is shown.
use Rattle.std.proofs.Common.{◌≡◌, true, List, [], ◌∷◌, Option, Some, None, if◌then◌else◌, refl, sym, ap}
use Rattle.std.specs.Prelude.{is_some}
use Rattle.std.specs.Option.{is_none}
use Rattle.guild_model.specs.declared.member.Member.{Member}
use Rattle.guild_model.specs.declared.verdict.Verdict.{Verdict}
use Rattle.guild_model.specs.Record.{Record}
use Rattle.guild_model.proofs.Tests.{first_passes}
use Rattle.message_edit.specs.declared.MessageEdit.{MessageEdit}
use Rattle.message_edit.specs.MessageEdits.{message_verdict, message_applied}
use Rattle.dispatch_types.specs.declared.viewer.Viewer.{Viewer}
use Rattle.dispatch_types.specs.declared.dispatch.Dispatch.{Dispatch}
use Rattle.dispatch_types.specs.Kinds.{kind_of}
use Rattle.dispatch_types.specs.Serves.{served}
use Rattle.message_gate.proofs.ByMember.{unshown}
use Rattle.message_events.specs.Notes.{message_note}
use Rattle.message_events.specs.Dispatches.{About, message_told, shown}
use Rattle.message_events.proofs.Follows.{message-served}
use Rattle.message_events.proofs.Told.{told-accepted}
use Rattle.edit_apply.specs.declared.Edit.TheVariants as edit
use Rattle.edit_apply.specs.Guilds.{out_of_service}
use Rattle.edit_apply.specs.Edits.{verdict, after_verdict}
use Rattle.edit_events.specs.Due.{due_to, due_of_accepted, due}
use Rattle.edit_events.specs.Messages.{MessagesAreShown}

-- one that is not served is shown nothing
none-shown : (t : Record) (v : Viewer) (o : Option About) → served v t ≡ None → shown t v o ≡ []
none-shown t v None away = refl
none-shown t v (Some about) away = ap (λ b. if b then about.dispatch ∷ [] else []) (unshown t v about.channel (kind_of about.dispatch) away)

module _ (s : Record) (e : MessageEdit) (v : Viewer) where
  due-shown : due_of_accepted s (edit.Message e) v ≡ shown (message_applied s e) v (message_told (message_applied s e) v (message_note s e) e)
  due-shown = by_members (served v s) (served v (message_applied s e)) refl refl
    where
      ds : List Dispatch
      ds = shown (message_applied s e) v (message_told (message_applied s e) v (message_note s e) e)

      by_members : (o o' : Option Member) → served v s ≡ o → served v (message_applied s e) ≡ o' → due_to s o (message_applied s e) o' v (edit.Message e) ≡ ds
      by_members None None is is' = sym (none-shown (message_applied s e) v (message_told (message_applied s e) v (message_note s e) e) is')
      by_members None (Some me') is is' = absurd (cc (message-served s e v, is, is'))
      by_members (Some me) None is is' = absurd (cc (message-served s e v, is, is'))
      by_members (Some me) (Some me') is is' = refl

  by_verdict : (o : Option Verdict) → verdict s (edit.Message e) ≡ o → is_none o ≡ true
      → (is_some (message_told (after_verdict o s (edit.Message e)) v (message_note s e) e) ≡ true)
      × ((if is_none o then due_of_accepted s (edit.Message e) v else []) ≡ shown (after_verdict o s (edit.Message e)) v (message_told (after_verdict o s (edit.Message e)) v (message_note s e) e))
  by_verdict None ok accepted = (told-accepted s v e (first_passes (message_verdict s e) [] (first_passes (out_of_service s) (message_verdict s e ∷ []) ok).1).0, due-shown)
  by_verdict (Some x) ok accepted = absurd (cc)

pub messages-shown : MessagesAreShown
unfolding due
messages-shown s e v accepted = by_verdict s e v (verdict s (edit.Message e)) refl accepted
