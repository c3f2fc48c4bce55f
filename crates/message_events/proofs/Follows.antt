-- A client that is told what an edit of messages owes holds what it held, which is the view of the
-- record after it.
use Rattle.std.proofs.Common.{◌≡◌, ℕ, true, false, List, [], ◌∷◌, Option, Some, None, refl, sym, ap, subst, ◌∙◌}
use Rattle.std.specs.Prelude.{All, option_map}
use Rattle.std.proofs.lemmas.List.Elements.{All-head, All-tail}
use Rattle.collections.specs.ById.{find_id}
use Rattle.guild_model.specs.declared.member.Member.{Member}
use Rattle.guild_model.specs.declared.user.User.{User}
use Rattle.guild_model.specs.Record.{Record, member_id}
use Rattle.message_edit.specs.declared.message_create.MessageCreate as message_create
use Rattle.message_edit.specs.declared.MessageEdit.{MessageEdit}
use Rattle.message_edit.specs.declared.MessageEdit.TheVariants as edit
use Rattle.message_edit.specs.Messages.{member_user, written_by}
use Rattle.message_edit.specs.MessageEdits.{message_applied}
use Rattle.dispatch_types.specs.declared.viewer.Viewer.{Viewer}
use Rattle.dispatch_types.specs.declared.view.GuildView.{GuildView}
use Rattle.dispatch_types.specs.declared.view.GuildView.TheVariants.{Unavailable, Open}
use Rattle.dispatch_types.specs.declared.view.OpenView.{OpenView}
use Rattle.dispatch_types.specs.declared.dispatch.Dispatch.{Dispatch}
use Rattle.dispatch_types.specs.declared.dispatch.Dispatch.TheVariants.{MessageCreate, MessageUpdate, MessageDelete, MessageReactionAdd, MessageReactionRemove, TypingStart}
use Rattle.dispatch_types.specs.Serves.{served}
use Rattle.dispatch_types.specs.Projection.{open_view}
use Rattle.dispatch_types.specs.Fold.{Held, on_open, after, leaves_over, purged, purge, folded, fold_from}
use Rattle.dispatch_types.proofs.Folds.{folded-here}
use Rattle.dispatch_types.proofs.Views.{purged-open}
use Rattle.event_views.specs.Has.{Has}
use Rattle.event_views.proofs.Steps.{untold}
use Rattle.message_events.specs.Messages.{is_message}
use Rattle.message_events.specs.Notes.{message_note}
use Rattle.message_events.specs.Dispatches.{message_dispatches}
use Rattle.message_events.specs.Law.{MessageEditKeeps}
use Rattle.message_events.proofs.Of.{IsMessageOf, all-messages}

-- a client makes nothing of a dispatch about a message
unchanged : (h : Held) → record h { view = on_open (λ v. v) h.view } ≡ h
unchanged h = ap (λ (view : Option GuildView). record h { view = view }) (by_view h.view)
  where
    by_view : (view : Option GuildView) → on_open (λ v. v) view ≡ view
    by_view None = refl
    by_view (Some Unavailable) = refl
    by_view (Some (Open v)) = refl

message-after : (intents : ℕ) (h : Held) (d : Dispatch) → is_message d ≡ true → (leaves_over d ≡ false) × (after intents d h ≡ h)
message-after intents h (MessageCreate message) is = (refl, unchanged h)
message-after intents h (MessageUpdate message) is = (refl, unchanged h)
message-after intents h (MessageDelete delete) is = (refl, unchanged h)
message-after intents h (MessageReactionAdd reaction) is = (refl, unchanged h)
message-after intents h (MessageReactionRemove reaction) is = (refl, unchanged h)
message-after intents h (TypingStart typing) is = (refl, unchanged h)
message-after intents h _ is = absurd (cc)

message-folded : (intents g : ℕ) (h : Held) (d : Dispatch) → IsMessageOf g d → folded intents g h d ≡ purge intents g h
message-folded intents g h d of =
    let stays = message-after intents h d of.message in
    folded-here intents g h d of.of stays.0 ∙ ap (purge intents g) stays.1

module _ (s : Record) (v : Viewer) (me : Member) where
  has-purged : (h : Held) → Has s v me h → purge v.intents s.id h ≡ h
  has-purged h has =
      let same : on_open (purged v.intents s.id) h.view ≡ h.view =
      ap (on_open (purged v.intents s.id)) has.view ∙ (ap (λ (w : OpenView). Some (Open w)) (purged-open s v.intents h.known me) ∙ sym has.view) in
      ap (λ (view : Option GuildView). record h { view = view }) same

  messages-fold : (h : Held) (ds : List Dispatch) → All (IsMessageOf s.id) ds → Has s v me h → fold_from v.intents s.id h ds ≡ h
  messages-fold h [] of has = refl
  messages-fold h (d ∷ ds) of has =
      let head = All-head (IsMessageOf s.id) d ds of in
      let stays : folded v.intents s.id h d ≡ h = message-folded v.intents s.id h d head ∙ has-purged h has in
      ap (λ (held : Held). fold_from v.intents s.id held ds) stays ∙ messages-fold h ds (All-tail (IsMessageOf s.id) d ds of) has

-- no view depends on the messages that are kept
written-same : (s : Record) (edit : message_create.MessageCreate) (author : Option User) (intents : ℕ) (known : List ℕ) (me : Member)
    → open_view s intents known me ≡ open_view (written_by s edit author) intents known me
written-same s edit None intents known me = refl
written-same s edit (Some author) intents known me = refl

view-same : (s : Record) (e : MessageEdit) (intents : ℕ) (known : List ℕ) (me : Member) → open_view s intents known me ≡ open_view (message_applied s e) intents known me
view-same s (edit.MessageCreate e) intents known me = written-same s e (option_map member_user (find_id member_id e.author s.members)) intents known me
view-same s (edit.MessageUpdate e) intents known me = refl
view-same s (edit.MessageDelete message) intents known me = refl
view-same s (edit.ReactionAdd reaction) intents known me = refl
view-same s (edit.ReactionRemove reaction) intents known me = refl
view-same s (edit.Typing e) intents known me = refl

written-id : (s : Record) (edit : message_create.MessageCreate) (author : Option User) → (written_by s edit author).id ≡ s.id
written-id s edit None = refl
written-id s edit (Some author) = refl

pub id-kept : (s : Record) (e : MessageEdit) → (message_applied s e).id ≡ s.id
id-kept s (edit.MessageCreate e) = written-id s e (option_map member_user (find_id member_id e.author s.members))
id-kept s (edit.MessageUpdate e) = refl
id-kept s (edit.MessageDelete message) = refl
id-kept s (edit.ReactionAdd reaction) = refl
id-kept s (edit.ReactionRemove reaction) = refl
id-kept s (edit.Typing e) = refl

written-here : (s : Record) (edit : message_create.MessageCreate) (author : Option User) → (written_by s edit author).outage ≡ s.outage
written-here s edit None = refl
written-here s edit (Some author) = refl

-- and neither who is served nor an outage
pub message-here : (s : Record) (e : MessageEdit) → (message_applied s e).outage ≡ s.outage
message-here s (edit.MessageCreate e) = written-here s e (option_map member_user (find_id member_id e.author s.members))
message-here s (edit.MessageUpdate e) = refl
message-here s (edit.MessageDelete message) = refl
message-here s (edit.ReactionAdd reaction) = refl
message-here s (edit.ReactionRemove reaction) = refl
message-here s (edit.Typing e) = refl

written-served : (s : Record) (edit : message_create.MessageCreate) (author : Option User) (v : Viewer) → served v (written_by s edit author) ≡ served v s
written-served s edit None v = refl
written-served s edit (Some author) v = refl

pub message-served : (s : Record) (e : MessageEdit) (v : Viewer) → served v (message_applied s e) ≡ served v s
message-served s (edit.MessageCreate e) v = written-served s e (option_map member_user (find_id member_id e.author s.members)) v
message-served s (edit.MessageUpdate e) v = refl
message-served s (edit.MessageDelete message) v = refl
message-served s (edit.ReactionAdd reaction) v = refl
message-served s (edit.ReactionRemove reaction) v = refl
message-served s (edit.Typing e) v = refl

pub follows-message : MessageEditKeeps
follows-message s v h me e has =
    let t = message_applied s e in
    let ds = message_dispatches t v (message_note s e) e in
    let holds : Has t v me h = untold s t v h me me (view-same s e v.intents h.known me) has in
    let stays : fold_from v.intents s.id h ds ≡ h = ap (λ g. fold_from v.intents g h ds) (sym (id-kept s e)) ∙ messages-fold t v me h ds (all-messages t v (message_note s e) e) holds in
    subst (λ (held : Held). Has t v me held) (sym stays) holds
