-- What an edit of messages owes is of the guild, and about messages, reactions or typing.
use Rattle.std.proofs.Common.{◌≡◌, ℕ, Bool, true, false, [], ◌∷◌, Option, Some, None, if◌then◌else◌, refl, ap, ◌∙◌}
use Rattle.std.specs.Prelude.{All, option_map}
use Rattle.std.proofs.lemmas.List.Elements.{All-nil, All-cons, All-weaker}
use Rattle.guild_model.specs.Record.{Record}
use Rattle.guild_model.specs.Heads.{find_head}
use Rattle.message_edit.specs.declared.MessageEdit.{MessageEdit}
use Rattle.message_edit.specs.declared.MessageEdit.TheVariants as edit
use Rattle.dispatch_types.specs.declared.viewer.Viewer.{Viewer}
use Rattle.dispatch_types.specs.declared.messages.MessageObject.{MessageObject}
use Rattle.dispatch_types.specs.declared.dispatch.Dispatch.{Dispatch}
use Rattle.dispatch_types.specs.declared.dispatch.Dispatch.TheVariants.{MessageCreate, MessageUpdate, MessageDelete}
use Rattle.dispatch_types.specs.Kinds.{kind_of}
use Rattle.dispatch_types.specs.GuildOf.{guild_of}
use Rattle.event_views.proofs.Steps.{IsOf}
use Rattle.message_gate.specs.Redacted.{is_for, emptied, redacted}
use Rattle.message_gate.specs.Shows.{shows}
use Rattle.message_events.specs.declared.notes.MessageNote.{MessageNote}
use Rattle.message_events.specs.declared.notes.MessageNote.TheVariants.{Nothing, Stood}
use Rattle.message_events.specs.Messages.{is_message}
use Rattle.message_events.specs.Dispatches.{About, user_of, created, updated, reacted, unreacted, typed, told_to, about_to, shown, message_dispatches}

pub record IsMessageOf (guild : ℕ) (d : Dispatch) : Type 0 where
  pub message : is_message d ≡ true
  pub of : guild_of d ≡ Some guild

redacted-guild : (m : MessageObject) (v : Viewer) → (redacted m v).guild ≡ m.guild
redacted-guild m v = by_test (is_for m v)
  where
    by_test : (b : Bool) → (if b then m else emptied m).guild ≡ m.guild
    by_test true = refl
    by_test false = refl

-- as a viewer is told it, a dispatch is of the same guild
told-of : (guild : ℕ) (v : Viewer) (d : Dispatch) → IsMessageOf guild d → IsMessageOf guild (told_to v d)
told-of guild v (MessageCreate m) of = record { message = refl; of = ap (λ guild. Some guild) (redacted-guild m v) ∙ of.of }
told-of guild v (MessageUpdate m) of = record { message = refl; of = ap (λ guild. Some guild) (redacted-guild m v) ∙ of.of }
told-of guild v d of = of

module _ (s : Record) (v : Viewer) where
  shown-of : (about : About) → IsMessageOf s.id about.dispatch → All (IsMessageOf s.id) (shown s v (Some (about_to v about)))
  shown-of about of = by_test (shows s v about.channel (kind_of (told_to v about.dispatch)))
    where
      by_test : (b : Bool) → All (IsMessageOf s.id) (if b then told_to v about.dispatch ∷ [] else [])
      by_test true = All-cons (IsMessageOf s.id) (told_to v about.dispatch) [] (told-of s.id v about.dispatch of) (All-nil (IsMessageOf s.id))
      by_test false = All-nil (IsMessageOf s.id)

  shown-if : {T : Type 0} (f : T → About) (o : Option T) → ((x : T) → IsMessageOf s.id (f x).dispatch) → All (IsMessageOf s.id) (shown s v (option_map (about_to v) (option_map f o)))
  shown-if f None of = All-nil (IsMessageOf s.id)
  shown-if f (Some x) of = shown-of (f x) (of x)

  pub all-messages : (note : MessageNote) (e : MessageEdit) → All (IsMessageOf s.id) (message_dispatches s v note e)
  all-messages note (edit.MessageCreate e) = shown-if (created s e) (user_of s e.author) (λ user. record { message = refl; of = refl })
  all-messages note (edit.MessageUpdate e) = shown-if (updated s e) (find_head e.message s.messages) (λ head. record { message = refl; of = refl })
  all-messages (Stood channel) (edit.MessageDelete message) =
      shown-of (record { channel = channel; dispatch = MessageDelete (record { guild = s.id; channel = channel; id = message }) }) (record { message = refl; of = refl })
  all-messages Nothing (edit.MessageDelete message) = All-nil (IsMessageOf s.id)
  all-messages note (edit.ReactionAdd reaction) = shown-if (reacted s reaction) (find_head reaction.message s.messages) (λ head. record { message = refl; of = refl })
  all-messages note (edit.ReactionRemove reaction) = shown-if (unreacted s reaction) (find_head reaction.message s.messages) (λ head. record { message = refl; of = refl })
  all-messages note (edit.Typing e) = shown-of (typed s.id e) (record { message = refl; of = refl })

  pub dispatches-of : (note : MessageNote) (e : MessageEdit) → All (IsOf s.id) (message_dispatches s v note e)
  dispatches-of note e = All-weaker (IsMessageOf s.id) (IsOf s.id) (λ d told. told.of) (message_dispatches s v note e) (all-messages note e)
