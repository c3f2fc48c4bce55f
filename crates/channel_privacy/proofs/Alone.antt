-- Edits after which every channel is shown that was: of threads, and of voice states.
use Rattle.std.proofs.Common.{◌≡◌, ℕ, Bool, true, false, not, ◌&&◌, List, [], ◌∷◌, ◌++◌, Option, Some, None, if◌then◌else◌, refl, sym, ap, ◌∙◌}
use Rattle.std.specs.Prelude.{◌==◌, All, filter, flat_map, cond, option_map}
use Rattle.std.proofs.lemmas.List.{append-nil}
use Rattle.std.proofs.lemmas.List.Elements.{All-head, All-tail, All-filter, All-map, All-weaker}
use Rattle.collections.specs.ById.{find_id, keep_if, put_id, without_id}
use Rattle.collections.proofs.Has.{All-put, All-found}
use Rattle.guild_model.specs.declared.channel.Channel.{Channel}
use Rattle.guild_model.specs.Record.{Record, voice_id}
use Rattle.dispatch_types.specs.declared.threads.ThreadObject.{ThreadObject}
use Rattle.dispatch_types.specs.declared.threads.ThreadMembersUpdate.{ThreadMembersUpdate as MembersUpdate}
use Rattle.dispatch_types.specs.declared.presences.VoiceStateUpdate.{VoiceStateUpdate as VoiceUpdate}
use Rattle.dispatch_types.specs.declared.viewer.Viewer.{Viewer}
use Rattle.dispatch_types.specs.declared.dispatch.Dispatch.{Dispatch}
use Rattle.dispatch_types.specs.declared.dispatch.Dispatch.TheVariants.{ThreadCreate, ThreadUpdate, ThreadDelete, ThreadMembersUpdate, VoiceStateUpdate}
use Rattle.dispatch_types.specs.declared.view.GuildView.TheVariants.{Open}
use Rattle.dispatch_types.specs.declared.view.OpenView.{OpenView}
use Rattle.dispatch_types.specs.declared.view.ThreadView.{ThreadView}
use Rattle.dispatch_types.specs.Objects.{thread_member_of, voice_of}
use Rattle.dispatch_types.specs.GuildOf.{guild_of}
use Rattle.dispatch_types.specs.Fold.{Held, thread_view_id, on_open, thread_of, mine_of, members_updated, update_members, update_thread, set_voice, open_after, leaves_over, view_sees, purged, folded, fold_from}
use Rattle.event_views.proofs.Steps.{IsOf}
use Rattle.channel_privacy.proofs.Only.{shows_voice, only, held_only}
use Rattle.channel_privacy.specs.Withheld.{Showing, left_voice, told_voice, told_shown, stands, is_lost, is_gained, losses, gains, is_sync, is_no_sync, withheld, gained, lost}
use Rattle.channel_privacy.proofs.Part.{IsOrdered, purged-only, purged-order}
use Rattle.channel_privacy.proofs.Tells.{TellsShown, ordered-after}
use Rattle.channel_privacy.proofs.Steps.{changes, stepped, folded-open, folded-only, unseen-moved, seen-ended}

-- nothing is lost or gained
module _ (s t : Record) (x : Showing) (same : (id : ℕ) → stands s t x id ≡ true → x.before id ≡ x.after id) (v : Viewer) where
  none-passes : (p : ℕ → Bool) → ((id : ℕ) → p id ≡ false) → (cs : List Channel) → filter (λ (c : Channel). p c.id) cs ≡ []
  none-passes p fails [] = refl
  none-passes p fails (c ∷ cs) = ap (λ b. cond b (c ∷ filter (λ (c : Channel). p c.id) cs) (filter (λ (c : Channel). p c.id) cs)) (fails c.id) ∙ none-passes p fails cs

  loses-none : losses s t x v ≡ []
  loses-none = ap (λ (cs : List Channel). flat_map (lost s.id v) cs) (none-passes (is_lost s t x) (λ id. stays (stands s t x id) (x.before id) (x.after id) (same id)) s.channels)
    where
      stays : (a b c : Bool) → (a ≡ true → b ≡ c) → (a && (b && not c)) ≡ false
      stays true true true e = refl
      stays true false c e = refl
      stays true true false e = let same : true ≡ false = e refl in absurd (cc)
      stays false b c e = refl

  gains-none : gains s t x v ≡ []
  gains-none = ap (λ (cs : List Channel). flat_map (gained t v) cs) (none-passes (is_gained s t x) (λ id. stays (stands s t x id) (x.before id) (x.after id) (same id)) t.channels)
    where
      stays : (a b c : Bool) → (a ≡ true → b ≡ c) → (a && (not b && c)) ≡ false
      stays true true c e = refl
      stays true false false e = refl
      stays true false true e = let same : false ≡ true = e refl in absurd (cc)
      stays false b c e = refl

  -- a list without a sync is told dispatch by dispatch
  pub withheld-plain : (ds : List Dispatch) → filter is_no_sync ds ≡ ds → filter is_sync ds ≡ [] → withheld s t x v ds ≡ flat_map (told_shown x) ds
  withheld-plain ds rest none =
      ap (λ (es : List Dispatch). flat_map (told_shown x) es ++ (losses s t x v ++ (gains s t x v ++ filter is_sync ds))) rest
      ∙ (ap (λ (es : List Dispatch). flat_map (told_shown x) ds ++ (es ++ (gains s t x v ++ filter is_sync ds))) loses-none
      ∙ (ap (λ (es : List Dispatch). flat_map (told_shown x) ds ++ (es ++ filter is_sync ds)) gains-none
      ∙ (ap (λ (es : List Dispatch). flat_map (told_shown x) ds ++ es) none ∙ append-nil (flat_map (told_shown x) ds))))

module _ (intents g : ℕ) (shown : ℕ → Bool) where
  abbrev StandsUnder : ThreadView → Type 0
  StandsUnder thread = shown thread.parent ≡ true

  -- all threads that are held stand under channels that are shown
  abbrev pub Under : OpenView → Type 0
  Under y = All StandsUnder y.threads

  -- what is told of threads alone
  abbrev pub OfThreads : Dispatch → Type 0
  OfThreads (ThreadCreate c) = shown c.thread.parent ≡ true
  OfThreads (ThreadUpdate thread) = shown thread.parent ≡ true
  OfThreads (ThreadDelete delete) = Unit {0}
  OfThreads (ThreadMembersUpdate update) = Unit {0}
  OfThreads d = ⊥

  under-updated : (y : OpenView) (thread : ThreadObject) → Under y → shown thread.parent ≡ true → Under (update_thread intents thread y)
  under-updated y thread under is = by_archived thread.archived
    where
      by_archived : (b : Bool) → Under (if b then record y { threads = without_id thread_view_id thread.id y.threads } else record y { threads = put_id thread_view_id (thread_of intents (mine_of (find_id thread_view_id thread.id y.threads)) thread) y.threads })
      by_archived true = All-filter (λ x. not (x.id == thread.id)) StandsUnder y.threads under
      by_archived false = All-put thread_view_id StandsUnder _ y.threads is under

  under-members : (bot : ℕ) (y : OpenView) (update : MembersUpdate) → Under y → Under (update_members intents bot update y)
  under-members bot y update under =
      All-map StandsUnder (λ thread. if thread.id == update.id then members_updated intents bot update thread else thread) y.threads
      (All-weaker StandsUnder (λ thread. StandsUnder (if thread.id == update.id then members_updated intents bot update thread else thread)) same y.threads under)
    where
      same : (thread : ThreadView) → StandsUnder thread → StandsUnder (if thread.id == update.id then members_updated intents bot update thread else thread)
      same thread is = by_test (thread.id == update.id)
        where
          by_test : (b : Bool) → StandsUnder (if b then members_updated intents bot update thread else thread)
          by_test true = is
          by_test false = is

  under-after : (bot : ℕ) (y : OpenView) (d : Dispatch) → Under y → OfThreads d → Under (open_after intents bot d y)
  under-after bot y (ThreadCreate c) under fits = All-put thread_view_id StandsUnder (thread_of intents (option_map thread_member_of c.member) c.thread) y.threads fits under
  under-after bot y (ThreadUpdate thread) under fits = under-updated y thread under fits
  under-after bot y (ThreadDelete delete) under fits = All-filter (λ x. not (x.id == delete.id)) StandsUnder y.threads under
  under-after bot y (ThreadMembersUpdate update) under fits = under-members bot y update under
  under-after bot y d under fits = absurd fits

  under-stepped : (bot : ℕ) (y : OpenView) (d : Dispatch) → Under y → OfThreads d → Under (stepped intents g bot d y)
  under-stepped bot y d under fits = by_purge (leaves_over d)
    where
      by_purge : (b : Bool) → Under (if b then open_after intents bot d y else purged intents g (open_after intents bot d y))
      by_purge true = under-after bot y d under fits
      by_purge false = All-filter (view_sees intents g (open_after intents bot d y)) StandsUnder (open_after intents bot d y).threads (under-after bot y d under fits)

  order-stepped : (bot : ℕ) (y : OpenView) (d : Dispatch) → IsOrdered y → IsOrdered (stepped intents g bot d y)
  order-stepped bot y d order = by_purge (leaves_over d)
    where
      by_purge : (b : Bool) → IsOrdered (if b then open_after intents bot d y else purged intents g (open_after intents bot d y))
      by_purge true = ordered-after intents bot y order d
      by_purge false = purged-order intents g (open_after intents bot d y) (ordered-after intents bot y order d)

  tells : (y : OpenView) (d : Dispatch) → Under y → OfThreads d → TellsShown shown y d
  tells y (ThreadCreate c) under fits = fits
  tells y (ThreadUpdate thread) under fits = (fits, λ w found. All-found thread_view_id StandsUnder thread.id y.threads w under found)
  tells y (ThreadDelete delete) under fits = tt
  tells y (ThreadMembersUpdate update) under fits = tt
  tells y d under fits = absurd fits

  told-changes : (d : Dispatch) → OfThreads d → changes d ≡ true
  told-changes (ThreadCreate c) fits = refl
  told-changes (ThreadUpdate thread) fits = refl
  told-changes (ThreadDelete delete) fits = refl
  told-changes (ThreadMembersUpdate update) fits = refl
  told-changes d fits = absurd fits

  pub threads-follow : (ds : List Dispatch) (q : Held) (y : OpenView) → q.view ≡ Some (Open y) → IsOrdered y → Under y → All (IsOf g) ds → All OfThreads ds
      → fold_from intents g (held_only shown q) ds ≡ held_only shown (fold_from intents g q ds)
  threads-follow [] q y holds order under of fits = refl
  threads-follow (d ∷ ds) q y holds order under of fits =
      let here : guild_of d ≡ Some g = All-head (IsOf g) d ds of in
      let fit : OfThreads d = All-head OfThreads d ds fits in
      ap (λ (h : Held). fold_from intents g h ds) (sym (folded-only intents g shown q y d holds order (tells y d under fit) here (told-changes d fit)))
      ∙ threads-follow ds (folded intents g q d) (stepped intents g q.bot d y) (ap (λ (h : Held). h.view) (folded-open intents g q y d holds here (told-changes d fit)))
      (order-stepped q.bot y d order) (under-stepped q.bot y d under fit) (All-tail (IsOf g) d ds of) (All-tail OfThreads d ds fits)

  -- a voice state, by whether the channels are shown, which they are after it as they were before
  module _ (x : Showing) (after : (id : ℕ) → x.after id ≡ shown id) (q : Held) (y : OpenView) (holds : q.view ≡ Some (Open y)) (order : IsOrdered y) (settled : purged intents g y ≡ y)
      (out : (user : ℕ) → x.in_voice user ≡ false → keep_if (shows_voice shown) (find_id voice_id user y.voices) ≡ None) where
    part-settled : purged intents g (only shown y) ≡ only shown y
    part-settled = sym (purged-only intents g shown y order) ∙ ap (only shown) settled

    unsaid : (u : VoiceUpdate) → u.guild ≡ g → ((c : ℕ) → u.voice.channel ≡ Some c → shown c ≡ false) → x.in_voice u.voice.user ≡ false
        → held_only shown q ≡ held_only shown (folded intents g q (VoiceStateUpdate u))
    unsaid u of hides was =
        ap (λ o. record q { view = on_open (only shown) o }) holds
        ∙ (ap (λ (w : OpenView). record q { view = Some (Open w) }) (sym (unseen-moved intents g shown q.bot y order part-settled u hides (out u.voice.user was)))
        ∙ sym (ap (held_only shown) (folded-open intents g q y (VoiceStateUpdate u) holds (ap (λ id. Some id) of) refl)))

    said : (u : VoiceUpdate) → u.guild ≡ g → ((c : ℕ) → u.voice.channel ≡ Some c → shown c ≡ true)
        → folded intents g (held_only shown q) (VoiceStateUpdate u) ≡ held_only shown (folded intents g q (VoiceStateUpdate u))
    said u of shows = sym (folded-only intents g shown q y (VoiceStateUpdate u) holds order shows (ap (λ id. Some id) of) refl)

    ended : (u : VoiceUpdate) (c : ℕ) → u.guild ≡ g → u.voice.channel ≡ Some c → shown c ≡ false
        → folded intents g (held_only shown q) (left_voice u) ≡ held_only shown (folded intents g q (VoiceStateUpdate u))
    ended u c of is hides =
        folded-open intents g (held_only shown q) (only shown y) (left_voice u) (ap (on_open (only shown)) holds) (ap (λ id. Some id) of) refl
        ∙ (ap (λ (w : OpenView). record q { view = Some (Open (purged intents g w)) }) (sym (seen-ended intents g shown q.bot y order part-settled u c is hides))
        ∙ (ap (λ (w : OpenView). record q { view = Some (Open w) }) (sym (purged-only intents g shown (set_voice u.voice.user (voice_of u.voice) y) (ordered-after intents q.bot y order (VoiceStateUpdate u))))
        ∙ sym (ap (held_only shown) (folded-open intents g q y (VoiceStateUpdate u) holds (ap (λ id. Some id) of) refl))))

    pub voice-follows : (u : VoiceUpdate) → u.guild ≡ g
        → fold_from intents g (held_only shown q) (told_shown x (VoiceStateUpdate u)) ≡ held_only shown (folded intents g q (VoiceStateUpdate u))
    voice-follows u of = by_channel u.voice.channel refl
      where
        by_none : u.voice.channel ≡ None → (b : Bool) → x.in_voice u.voice.user ≡ b → fold_from intents g (held_only shown q) (if b then VoiceStateUpdate u ∷ [] else []) ≡ held_only shown (folded intents g q (VoiceStateUpdate u))
        by_none none true e = said u of (λ c is. absurd (cc))
        by_none none false e = unsaid u of (λ c is. absurd (cc)) e

        by_hidden : (c : ℕ) → u.voice.channel ≡ Some c → shown c ≡ false → (b : Bool) → x.in_voice u.voice.user ≡ b → fold_from intents g (held_only shown q) (if b then left_voice u ∷ [] else []) ≡ held_only shown (folded intents g q (VoiceStateUpdate u))
        by_hidden c is hides true e = ended u c of is hides
        by_hidden c is hides false e = unsaid u of (λ d at. let same : c ≡ d = cc in sym (ap shown same) ∙ hides) e

        by_shown : (c : ℕ) → u.voice.channel ≡ Some c → (b : Bool) → x.after c ≡ b
            → fold_from intents g (held_only shown q) (if b then VoiceStateUpdate u ∷ [] else (if x.in_voice u.voice.user then left_voice u ∷ [] else [])) ≡ held_only shown (folded intents g q (VoiceStateUpdate u))
        by_shown c is true e = said u of (λ d at. let same : c ≡ d = cc in sym (ap shown same) ∙ (sym (after c) ∙ e))
        by_shown c is false e = by_hidden c is (sym (after c) ∙ e) (x.in_voice u.voice.user) refl

        by_channel : (c : Option ℕ) → u.voice.channel ≡ c → fold_from intents g (held_only shown q) (told_voice x u c) ≡ held_only shown (folded intents g q (VoiceStateUpdate u))
        by_channel None is = by_none is (x.in_voice u.voice.user) refl
        by_channel (Some c) is = by_shown c is (x.after c) refl
