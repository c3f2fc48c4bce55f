-- A client that is told what an edit of channels owes holds the view of the record after it.
use Rattle.std.proofs.Common.{◌≡◌, ℕ, Bool, true, false, not, ◌||◌, List, [], ◌∷◌, Option, Some, None, if◌then◌else◌, refl, sym, ap, subst, ◌∙◌, length, eq-eqb}
use Rattle.std.specs.Prelude.{◌==◌, ◌++◌, flat_map, is_some, option_map, All}
use Rattle.std.proofs.lemmas.List.Elements.{All-nil}
use Rattle.collections.specs.ById.{find_id, has_id, put_id, changed_id}
use Rattle.collections.proofs.Finds.{key-found, find-put, find-changed}
use Rattle.collections.proofs.Has.{All-found}
use Rattle.collections.proofs.Filters.{changed-put}
use Rattle.perm_bits.specs.Bits.{has_bit}
use Rattle.intent_set.specs.Intents.{guilds}
use Rattle.guild_model.specs.declared.member.Member.{Member}
use Rattle.guild_model.specs.declared.channel.Channel.{Channel}
use Rattle.guild_model.specs.declared.channel.ChannelKind.{ChannelKind}
use Rattle.guild_model.specs.declared.voice.Voice.{Voice}
use Rattle.guild_model.specs.declared.verdict.Verdict.{Verdict}
use Rattle.guild_model.specs.declared.verdict.Verdict.TheVariants.{IdTaken, UnknownChannel}
use Rattle.guild_model.specs.Record.{Record, channel_id, thread_id}
use Rattle.guild_model.specs.Consistent.{is_channel_or_thread}
use Rattle.guild_model.specs.Ascending.{IsWell, HasOrderedOverwrites}
use Rattle.guild_model.specs.Tests.{refused_if, first_of, too_long, too_many, unknown_channel}
use Rattle.guild_model.proofs.Tests.{first_passes, not_refused}
use Rattle.channel_edit.specs.declared.channel_create.ChannelCreate.{ChannelCreate as Create}
use Rattle.channel_edit.specs.declared.ChannelEdit.{ChannelEdit}
use Rattle.channel_edit.specs.declared.ChannelEdit.TheVariants as edit
use Rattle.channel_edit.specs.Channels.{unknown_parent, wrong_parent, wrong_parent_of, new_channel, channel_create_verdict, channel_created, with_settings, with_channel_changed}
use Rattle.channel_edit.specs.ChannelEnd.{channel_deleted, channel_delete_verdict}
use Rattle.channel_edit.specs.OverwriteEdits.{unknown_target, without_room, overwrite_of, with_overwrite, unknown_overwrite, without_overwrite}
use Rattle.dispatch_types.specs.declared.viewer.Viewer.{Viewer}
use Rattle.dispatch_types.specs.declared.dispatch.Dispatch.{Dispatch}
use Rattle.dispatch_types.specs.declared.dispatch.Dispatch.TheVariants.{ChannelCreate, ChannelUpdate, ChannelDelete}
use Rattle.dispatch_types.specs.declared.channels.ChannelObject.{ChannelObject}
use Rattle.dispatch_types.specs.Objects.{channel_object}
use Rattle.dispatch_types.specs.Fold.{Held, set_channel, fold_from}
use Rattle.dispatch_types.proofs.Folds.{folded-here}
use Rattle.thread_sync.specs.Shown.{shown_to}
use Rattle.thread_sync.specs.Law.{kind_in, ChangesRights}
use Rattle.thread_sync.proofs.Sights.{channel-created-keeps, channel-changed-keeps}
use Rattle.event_views.specs.Has.{Has}
use Rattle.event_views.specs.Synced.{synced}
use Rattle.event_views.proofs.Rights.{sync-of, follows-rights}
use Rattle.event_views.proofs.Steps.{same, IsOf, asked-of, append-of}
use Rattle.event_views.specs.Ended.{voice_ends}
use Rattle.event_views.proofs.Voices.{ended}
use Rattle.channel_events.specs.Law.{ChannelEditKeeps}
use Rattle.channel_events.specs.Dispatches.{voices_in, children_of, told_of, created, updated, gone, channel_ends, deleted, rights_changed, channel_dispatches}
use Rattle.channel_events.proofs.Puts.{puts-channel, follows-channel_put, follows-channel_changed}
use Rattle.channel_events.proofs.Gone.{follows-gone}

-- what the tests of an edit let through
id_free : (s : Record) (e : Create) → channel_create_verdict s e ≡ None → has_id channel_id e.channel s.channels ≡ false
id_free s e ok =
    let later = unknown_parent s e.parent ∷ wrong_parent s e.kind e.parent ∷ too_many 500 (length s.channels) ∷ too_long 100 e.name ∷ [] in
    no_channel (has_id channel_id e.channel s.channels)
    (not_refused (is_channel_or_thread s e.channel) IdTaken (first_passes (refused_if (is_channel_or_thread s e.channel) IdTaken) later ok).0)
  where
    no_channel : (b : Bool) → (b || has_id thread_id e.channel s.threads) ≡ false → b ≡ false
    no_channel true e = absurd (cc)
    no_channel false e = refl

there : (s : Record) (channel : ℕ) → unknown_channel s channel ≡ None → (c : Channel) × (find_id channel_id channel s.channels ≡ Some c)
there s channel e = by_case (find_id channel_id channel s.channels) refl (not_refused (not (has_id channel_id channel s.channels)) UnknownChannel e)
  where
    by_case : (o : Option Channel) → find_id channel_id channel s.channels ≡ o → not (is_some o) ≡ false → (c : Channel) × (find_id channel_id channel s.channels ≡ Some c)
    by_case None is e = absurd (cc)
    by_case (Some c) is e = (c, is)

-- the channel that is put is found
found-put : (c : Channel) (cs : List Channel) → find_id channel_id c.id (put_id channel_id c cs) ≡ Some c
found-put c cs = find-put channel_id c c.id cs ∙ ap (λ here. if here then Some c else find_id channel_id c.id cs) (eq-eqb c.id c.id refl)

-- one that changes is found changed
found-changed : (channel : ℕ) (f : Channel → Channel) (c : Channel) (cs : List Channel) → ((c : Channel) → (f c).id ≡ c.id) → find_id channel_id channel cs ≡ Some c → find_id channel_id channel (changed_id channel_id channel f cs) ≡ Some (f c)
found-changed channel f c cs same found =
    find-changed channel_id channel f same channel cs
    ∙ (ap (λ here. if here then option_map f (find_id channel_id channel cs) else find_id channel_id channel cs) (eq-eqb channel channel refl) ∙ ap (option_map f) found)

-- of a channel that is there and keeps its id
module _ (s : Record) (v : Viewer) (h : Held) (me : Member) (well : IsWell s) (asks : has_bit v.intents guilds ≡ true) where
  pub follows-created : (e : Create) → IsWell (channel_created s e) → channel_create_verdict s e ≡ None
      → Has s v me h → Has (channel_created s e) v me (fold_from v.intents s.id h (created (channel_created s e) v e.channel))
  follows-created e after ok has =
      let c : Channel = new_channel s e in
      let t : Record = channel_created s e in
      let found : find_id channel_id e.channel t.channels ≡ Some c = found-put c s.channels in
      let ordered : HasOrderedOverwrites c = All-found channel_id HasOrderedOverwrites e.channel t.channels c after.ascending.overwrites found in
      subst (λ o. Has t v me (fold_from v.intents s.id h (told_of t v ChannelCreate o))) (sym found)
      (follows-channel_put s v h me c t.channels refl ordered well.ascending.threads (channel-created-keeps s me c well.consistent (id_free s e ok)) asks has)

  module _ (channel : ℕ) (f : Channel → Channel) (c : Channel) (same_id : (c : Channel) → (f c).id ≡ c.id) (known : find_id channel_id channel s.channels ≡ Some c) (after : IsWell (with_channel_changed s channel f)) where
    abbrev pub t : Record
    t = with_channel_changed s channel f

    found : find_id channel_id channel t.channels ≡ Some (f c)
    found = found-changed channel f c s.channels same_id known

    put : t.channels ≡ put_id channel_id (f c) s.channels
    put = changed-put channel_id channel f c s.channels well.ascending.channels same_id known

    ordered : HasOrderedOverwrites (f c)
    ordered = All-found channel_id HasOrderedOverwrites channel t.channels (f c) after.ascending.overwrites found

    -- with its overwrites as they were
    pub follows-changed : ((c : Channel) → (f c).overwrites ≡ c.overwrites) → Has s v me h → Has t v me (fold_from v.intents s.id h (updated t v channel))
    follows-changed overwrites has =
        subst (λ o. Has t v me (fold_from v.intents s.id h (told_of t v ChannelUpdate o))) (sym found)
        (follows-channel_changed s v h me (f c) t.channels put ordered well.ascending.threads (channel-changed-keeps s me f channel same_id overwrites) asks has)

    -- with other overwrites: the sync brings the threads that the update does not
    pub follows-overwrites : ((c : Channel) → (f c).kind ≡ c.kind) → Has s v me h → Has t v me (fold_from v.intents s.id h (rights_changed s me t me v channel))
    follows-overwrites kinds has =
        subst (λ (ds : List Dispatch). Has t v me (fold_from v.intents s.id h (ds ++ synced s me t me v))) (sym update)
        (follows-rights s t v h me me well rights refl asks (ChannelUpdate o) (set_channel o) same (folded-here v.intents s.id h (ChannelUpdate o) refl refl) (puts-channel s v h me (f c) t.channels put ordered h.known) has)
      where
        o : ChannelObject
        o = channel_object s.id (f c)

        update : updated t v channel ≡ ChannelUpdate o ∷ []
        update = ap (told_of t v ChannelUpdate) found ∙ ap (λ b. if b then ChannelUpdate o ∷ [] else []) asks

        rights : ChangesRights s t
        rights = record { id = refl; channels = λ id. ap (option_map kind_in) (find-changed channel_id channel f same_id id s.channels) ∙ by_case (channel == id) (find_id channel_id id s.channels); threads = refl }
          where
            by_case : (here : Bool) (x : Option Channel) → option_map kind_in (if here then option_map f x else x) ≡ option_map kind_in x
            by_case true None = refl
            by_case true (Some x) = ap (λ (k : ChannelKind). Some k) (kinds x)
            by_case false x = refl

  pub follows-deleted : (channel : ℕ) → channel_delete_verdict s channel ≡ None
      → Has s v me h → Has (channel_deleted s channel) v me (fold_from v.intents s.id h (deleted s (channel_deleted s channel) v (find_id channel_id channel s.channels)))
  follows-deleted channel ok has =
      let known = there s channel ok in
      subst (λ (o : Option Channel). Has (channel_deleted s channel) v me (fold_from v.intents s.id h (deleted s (channel_deleted s channel) v o))) (sym known.1)
      (subst (λ id. Has (channel_deleted s id) v me (fold_from v.intents s.id h (deleted s (channel_deleted s id) v (Some known.0)))) (key-found channel_id channel s.channels known.0 known.1)
      (follows-gone s v h me known.0 well.ascending asks has))

-- the first test of each is that the channel is there
known-first : (s : Record) (channel : ℕ) (tests : List (Option Verdict)) → first_of (unknown_channel s channel ∷ tests) ≡ None → (c : Channel) × (find_id channel_id channel s.channels ≡ Some c)
known-first s channel tests ok = there s channel (first_passes (unknown_channel s channel) tests ok).0

pub follows-channel : ChannelEditKeeps
follows-channel s v h me (edit.ChannelCreate e) well after is_open ok own asks has = follows-created s v h me well asks e after ok has
follows-channel s v h me (edit.ChannelUpdate e) well after is_open ok own asks has =
    let known = known-first s e.channel (unknown_parent s e.parent ∷ wrong_parent_of s (find_id channel_id e.channel s.channels) e.parent ∷ too_long 100 e.name ∷ []) ok in
    follows-changed s v h me well asks e.channel (with_settings e) known.0 (λ c. refl) known.1 after (λ c. refl) has
follows-channel s v h me (edit.ChannelDelete channel) well after is_open ok own asks has = follows-deleted s v h me well asks channel ok has
follows-channel s v h me (edit.OverwriteSet e) well after is_open ok own asks has =
    let known = known-first s e.channel (unknown_target s e.id e.kind ∷ without_room (find_id channel_id e.channel s.channels) e.id e.kind ∷ []) ok in
    follows-overwrites s v h me well asks e.channel (with_overwrite e.kind (overwrite_of e)) known.0 (λ c. refl) known.1 after (λ c. refl) has
follows-channel s v h me (edit.OverwriteDelete e) well after is_open ok own asks has =
    let known = known-first s e.channel (unknown_overwrite (find_id channel_id e.channel s.channels) e.id e.kind ∷ []) ok in
    follows-overwrites s v h me well asks e.channel (without_overwrite e.kind e.id) known.0 (λ c. refl) known.1 after (λ c. refl) has

-- ---- each dispatch is of the guild

module _ (s : Record) (v : Viewer) where
  told-of : (dispatch : ChannelObject → Dispatch) → ((c : Channel) → IsOf s.id (dispatch (channel_object s.id c))) → (o : Option Channel) → All (IsOf s.id) (told_of s v dispatch o)
  told-of dispatch of None = All-nil (IsOf s.id)
  told-of dispatch of (Some c) = asked-of s.id v false (dispatch (channel_object s.id c)) (of c)

  updated-of : (channel : ℕ) → All (IsOf s.id) (updated s v channel)
  updated-of channel = told-of ChannelUpdate (λ c. refl) (find_id channel_id channel s.channels)

  each-of : {T : Type 0} (f : T → List Dispatch) → ((x : T) → All (IsOf s.id) (f x)) → (xs : List T) → All (IsOf s.id) (flat_map f xs)
  each-of f of [] = All-nil (IsOf s.id)
  each-of f of (x ∷ xs) = append-of s.id (f x) (flat_map f xs) (of x) (each-of f of xs)

  ends-of : (c : Channel) (voices : List Voice) (children : List ℕ) → All (IsOf s.id) (channel_ends s v c voices children)
  ends-of c voices children =
      append-of s.id (flat_map (voice_ends s.id v) voices) (flat_map (updated s v) children ++ gone s v c)
      (each-of (voice_ends s.id v) (λ x. asked-of s.id v false (ended s x) refl) voices)
      (append-of s.id (flat_map (updated s v) children) (gone s v c) (each-of (updated s v) updated-of children) (asked-of s.id v false (ChannelDelete (channel_object s.id c)) refl))

  module _ (before : Record) (me me' : Member) where
    deleted-of : (o : Option Channel) → All (IsOf s.id) (deleted before s v o)
    deleted-of None = All-nil (IsOf s.id)
    deleted-of (Some c) = ends-of c (voices_in before c.id) (children_of before c.id)

    rights-of : (channel : ℕ) → All (IsOf s.id) (rights_changed before me s me' v channel)
    rights-of channel = append-of s.id (updated s v channel) (synced before me s me' v) (updated-of channel) (sync-of (shown_to before me) (shown_to s me') s v me'.user.id)

    pub dispatches-of : (e : ChannelEdit) → All (IsOf s.id) (channel_dispatches before me s me' v e)
    dispatches-of (edit.ChannelCreate e) = told-of ChannelCreate (λ c. refl) (find_id channel_id e.channel s.channels)
    dispatches-of (edit.ChannelUpdate e) = updated-of e.channel
    dispatches-of (edit.ChannelDelete channel) = deleted-of (find_id channel_id channel before.channels)
    dispatches-of (edit.OverwriteSet e) = rights-of e.channel
    dispatches-of (edit.OverwriteDelete e) = rights-of e.channel
