-- Each edit of messages that is accepted has its dispatch.
use Rattle.std.proofs.Common.{◌≡◌, ℕ, Bool, true, false, not, List, [], ◌∷◌, Option, Some, None, refl, ap, ◌∙◌}
use Rattle.std.specs.Prelude.{is_some, option_map, ◌==◌, if◌then◌else◌}
use Rattle.collections.specs.ById.{find_id, has_id}
use Rattle.collections.proofs.Finds.{find-changed}
use Rattle.guild_model.specs.declared.member.Member.{Member}
use Rattle.guild_model.specs.declared.message.MessageHead.{MessageHead}
use Rattle.guild_model.specs.declared.user.User.{User}
use Rattle.guild_model.specs.declared.verdict.Verdict.TheVariants.{UnknownMember, UnknownMessage}
use Rattle.guild_model.specs.Record.{Record, member_id}
use Rattle.guild_model.specs.Heads.{head_id, find_head, has_head, with_mentions, mentioning}
use Rattle.guild_model.specs.Tests.{unknown_member, unknown_message, too_long}
use Rattle.guild_model.proofs.Tests.{first_passes, not_refused}
use Rattle.message_edit.specs.declared.message_create.MessageCreate.{MessageCreate}
use Rattle.message_edit.specs.declared.MessageEdit.{MessageEdit}
use Rattle.message_edit.specs.declared.MessageEdit.TheVariants as edit
use Rattle.message_edit.specs.Channels.{takes_no_words, unknown_mention}
use Rattle.message_edit.specs.Messages.{member_user, taken, written_by, message_created, message_updated}
use Rattle.message_edit.specs.MessageEdits.{message_verdict, message_applied}
use Rattle.dispatch_types.specs.declared.viewer.Viewer.{Viewer}
use Rattle.message_events.specs.Notes.{note_of, message_note}
use Rattle.message_events.specs.Dispatches.{user_of, created, updated, deleted, reacted, unreacted, message_whole, about_to, message_told}

mapped : {T U : Type 0} (f : T → U) (o : Option T) → is_some o ≡ true → is_some (option_map f o) ≡ true
mapped f None h = h
mapped f (Some x) h = refl

there : (b : Bool) → not b ≡ false → b ≡ true
there true e = refl
there false e = absurd (cc)

written-members : (s : Record) (edit : MessageCreate) (author : Option User) → (written_by s edit author).members ≡ s.members
written-members s edit None = refl
written-members s edit (Some author) = refl

still-kept : (message : ℕ) (mentions : List ℕ) (heads : List MessageHead) → has_head message heads ≡ true → has_head message (mentioning message mentions heads) ≡ true
still-kept message mentions heads kept =
    ap is_some (find-changed head_id message (with_mentions mentions) (λ h. refl) message heads) ∙ either (message == message)
  where
    either : (b : Bool) → is_some (if b then option_map (with_mentions mentions) (find_head message heads) else find_head message heads) ≡ true
    either true = mapped (with_mentions mentions) (find_head message heads) kept
    either false = kept

module _ (s : Record) where
  known-message : (message : ℕ) → unknown_message s message ≡ None → has_head message s.messages ≡ true
  known-message message ok = there (has_head message s.messages) (not_refused (not (has_head message s.messages)) UnknownMessage ok)

  whole-accepted : (e : MessageEdit) → message_verdict s e ≡ None → is_some (message_whole (message_applied s e) (message_note s e) e) ≡ true
  whole-accepted (edit.MessageCreate e) ok =
      let t : Record = message_created s e in
      let later = unknown_mention s e.body.mentions ∷ taken s e.message ∷ too_long 2000 e.body.content ∷ [] in
      let rest = first_passes (takes_no_words s e.channel) (unknown_member s e.author ∷ later) ok in
      let is_member = first_passes (unknown_member s e.author) later rest.1 in
      let known : has_id member_id e.author s.members ≡ true = there (has_id member_id e.author s.members) (not_refused (not (has_id member_id e.author s.members)) UnknownMember is_member.0) in
      let same : t.members ≡ s.members = written-members s e (option_map member_user (find_id member_id e.author s.members)) in
      mapped (created t e) (user_of t e.author)
      (mapped member_user (find_id member_id e.author t.members) (ap (λ (ms : List Member). has_id member_id e.author ms) same ∙ known))
  whole-accepted (edit.MessageUpdate e) ok =
      let known = first_passes (unknown_message s e.message) (unknown_mention s e.body.mentions ∷ too_long 2000 e.body.content ∷ []) ok in
      let t : Record = message_updated s e in
      mapped (updated t e) (find_head e.message t.messages) (still-kept e.message e.body.mentions s.messages (known-message e.message known.0))
  whole-accepted (edit.MessageDelete message) ok = by_head (find_head message s.messages) (known-message message ok)
    where
      by_head : (o : Option MessageHead) → is_some o ≡ true → is_some (deleted s.id (note_of o) message) ≡ true
      by_head None none = none
      by_head (Some head) some = refl
  whole-accepted (edit.ReactionAdd reaction) ok =
      let known = first_passes (unknown_message s reaction.message) (unknown_member s reaction.user ∷ too_long 32 reaction.emoji ∷ []) ok in
      mapped (reacted s reaction) (find_head reaction.message s.messages) (known-message reaction.message known.0)
  whole-accepted (edit.ReactionRemove reaction) ok =
      let known = first_passes (unknown_message s reaction.message) (unknown_member s reaction.user ∷ too_long 32 reaction.emoji ∷ []) ok in
      mapped (unreacted s reaction) (find_head reaction.message s.messages) (known-message reaction.message known.0)
  whole-accepted (edit.Typing e) ok = refl

  pub told-accepted : (v : Viewer) (e : MessageEdit) → message_verdict s e ≡ None → is_some (message_told (message_applied s e) v (message_note s e) e) ≡ true
  told-accepted v e ok = mapped (about_to v) (message_whole (message_applied s e) (message_note s e) e) (whole-accepted e ok)
