-- One from whom channels are withheld, and who is told the list of an edit, holds the part of what another holds
-- that stands in the channels that are shown after it.
use Rattle.std.proofs.Common.{◌≡◌, ℕ, Bool, true, false, not, ◌&&◌, ◌||◌, List, [], ◌∷◌, ◌++◌, Option, Some, None, if◌then◌else◌, refl, sym, ap, subst, ◌∙◌}
use Rattle.std.specs.Prelude.{All, filter, flat_map, cond, is_some}
use Rattle.std.proofs.lemmas.Bool.{and_parts}
use Rattle.std.proofs.lemmas.List.{append-nil, append_assoc}
use Rattle.std.proofs.lemmas.List.Elements.{All-nil, All-cons, All-head, All-tail, All-weaker, All-filter, filter-append}
use Rattle.collections.specs.ById.{find_id, has_id}
use Rattle.collections.proofs.Finds.{IsById-filter}
use Rattle.perm_bits.specs.Bits.{has_bit}
use Rattle.perm_bits.specs.Permissions.{view_channel}
use Rattle.intent_set.specs.Intents.{guilds, guild_voice_states}
use Rattle.guild_model.specs.declared.channel.Channel.{Channel}
use Rattle.guild_model.specs.declared.voice.Voice.{Voice}
use Rattle.guild_model.specs.Record.{Record, channel_id, voice_id}
use Rattle.guild_model.specs.Ascending.{HasOrderedOverwrites}
use Rattle.guild_model.specs.Sight.{Standing, granted, granted_in}
use Rattle.dispatch_types.specs.declared.threads.ThreadObject.{ThreadObject}
use Rattle.dispatch_types.specs.declared.viewer.Viewer.{Viewer}
use Rattle.dispatch_types.specs.declared.dispatch.Dispatch.{Dispatch}
use Rattle.dispatch_types.specs.declared.dispatch.Dispatch.TheVariants.{ThreadListSync}
use Rattle.dispatch_types.specs.declared.view.GuildView.TheVariants.{Open}
use Rattle.dispatch_types.specs.declared.view.OpenView.{OpenView}
use Rattle.dispatch_types.specs.declared.view.ThreadView.{ThreadView}
use Rattle.dispatch_types.specs.Projection.{listed}
use Rattle.dispatch_types.specs.GuildOf.{guild_of}
use Rattle.dispatch_types.specs.Fold.{Held, thread_view_id, on_open, open_after, view_standing, view_sees, purged, folded, fold_from}
use Rattle.event_views.proofs.Steps.{IsOf, fold-append}
use Rattle.channel_privacy.proofs.Only.{shows_channel, shows_voice, shows_thread, only, held_only}
use Rattle.channel_privacy.specs.Withheld.{Showing, told_shown, is_gained, gained, losses, gains, is_sync, is_no_sync, withheld}
use Rattle.channel_privacy.proofs.Filters.{filter-alike_in, each-there}
use Rattle.channel_privacy.proofs.Part.{IsOrdered, purged-only, purged-order}
use Rattle.channel_privacy.proofs.Tells.{ordered-after}
use Rattle.channel_privacy.proofs.Steps.{folded-open, folded-only}
use Rattle.channel_privacy.proofs.Lost.{same-lists, only-both, has-kept, loses}
use Rattle.channel_privacy.proofs.Gained.{plus, plus-has, IsOfView, gains-all}
use Rattle.channel_privacy.proofs.Rows.{shown_first, not_lost, kept_on, VoicesBy, AllUnder, Alike, Fits, rows}

-- parts of a view that are the same, since the tests say the same of what it holds
pub only-same_in : (p q : ℕ → Bool) (y : OpenView) → All (λ (c : Channel). p c.id ≡ q c.id) y.channels → All (λ (z : Voice). p z.channel ≡ q z.channel) y.voices
    → All (λ (thread : ThreadView). p thread.parent ≡ q thread.parent) y.threads → only p y ≡ only q y
only-same_in p q y channels voices threads =
    same-lists y (filter-alike_in (shows_channel p) (shows_channel q) y.channels channels) (filter-alike_in (shows_voice p) (shows_voice q) y.voices voices) (filter-alike_in (shows_thread p) (shows_thread q) y.threads threads)

-- what a test lets through passes it
pub All-passes : {T : Type 0} (p : T → Bool) (xs : List T) → All (λ x. p x ≡ true) (filter p xs)
All-passes p [] = All-nil (λ x. p x ≡ true)
All-passes p (x ∷ xs) = by_test (p x) refl (All-passes p xs)
  where
    by_test : (b : Bool) → p x ≡ b → All (λ x. p x ≡ true) (filter p xs) → All (λ x. p x ≡ true) (cond b (x ∷ filter p xs) (filter p xs))
    by_test true e rest = All-cons (λ x. p x ≡ true) x (filter p xs) e rest
    by_test false e rest = rest

-- a channel in which something is granted stands there
pub granted-there : (s : Standing) (channel b : ℕ) → granted s channel b ≡ true → has_id channel_id channel s.channels ≡ true
unfolding granted
granted-there s channel b is = by_found (find_id channel_id channel s.channels) is
  where
    by_found : (o : Option Channel) → granted_in s b o ≡ true → is_some o ≡ true
    by_found None e = absurd (cc)
    by_found (Some c) e = refl

-- the parents of threads that a purge leaves
pub parents-there : (intents g : ℕ) (y : OpenView) → purged intents g y ≡ y → All (λ (thread : ThreadView). has_id channel_id thread.parent y.channels ≡ true) y.threads
parents-there intents g y settled =
    All-weaker (λ (thread : ThreadView). view_sees intents g y thread ≡ true) (λ (thread : ThreadView). has_id channel_id thread.parent y.channels ≡ true) there y.threads
    (subst (λ (ts : List ThreadView). All (λ (thread : ThreadView). view_sees intents g y thread ≡ true) ts) (ap (λ (w : OpenView). w.threads) settled) (All-passes (view_sees intents g y) y.threads))
  where
    there : (thread : ThreadView) → view_sees intents g y thread ≡ true → has_id channel_id thread.parent y.channels ≡ true
    there thread e = granted-there (view_standing intents g y) thread.parent view_channel (and_parts (granted (view_standing intents g y) thread.parent view_channel) _ e).0

module _ (s t : Record) (v : Viewer) (x : Showing) (asks : has_bit v.intents guilds ≡ true) (same : t.id ≡ s.id) where
  -- a sync of threads in channels that are shown
  abbrev pub IsSync : Dispatch → Type 0
  IsSync (ThreadListSync sync) = All (λ (thread : ThreadObject). x.after thread.parent ≡ true) sync.threads
  IsSync d = ⊥

  -- what a sync leaves as it is
  pub record Synced (intents g : ℕ) (es : List Dispatch) (q : Held) (y : OpenView) : Type 0 where
    pub all : OpenView
    pub holds : (fold_from intents g q es).view ≡ Some (Open all)
    pub channels : all.channels ≡ y.channels
    pub voices : all.voices ≡ y.voices
    pub part : fold_from intents g (held_only x.after q) es ≡ held_only x.after (fold_from intents g q es)

  syncs : (intents g : ℕ) (es : List Dispatch) (q : Held) (y : OpenView) → q.view ≡ Some (Open y) → IsOrdered y → All (IsOf g) es → All IsSync es → Synced intents g es q y
  syncs intents g [] q y holds order of fits = record { all = y; holds = holds; channels = refl; voices = refl; part = refl }
  syncs intents g (d ∷ es) q y holds order of fits =
      by_kind d (All-head (IsOf g) d es of) (All-head IsSync d es fits) (λ k w at in_order. syncs intents g es k w at in_order (All-tail (IsOf g) d es of) (All-tail IsSync d es fits))
    where
      by_kind : (d : Dispatch) → guild_of d ≡ Some g → IsSync d → ((k : Held) (w : OpenView) → k.view ≡ Some (Open w) → IsOrdered w → Synced intents g es k w) → Synced intents g (d ∷ es) q y
      by_kind (ThreadListSync sync) is shown go =
          let synced : OpenView = purged intents g (open_after intents q.bot (ThreadListSync sync) y) in
          let told : folded intents g q (ThreadListSync sync) ≡ record q { view = Some (Open synced) } = folded-open intents g q y (ThreadListSync sync) holds is refl in
          let rest = go (folded intents g q (ThreadListSync sync)) synced (ap (λ (h : Held). h.view) told) (purged-order intents g _ (ordered-after intents q.bot y order (ThreadListSync sync))) in
          record {
            all = rest.all;
            holds = rest.holds;
            channels = rest.channels;
            voices = rest.voices;
            part = ap (λ (h : Held). fold_from intents g h es) (sym (folded-only intents g x.after q y (ThreadListSync sync) holds order shown is refl)) ∙ rest.part;
          }
      by_kind d is shown go = absurd shown

  -- what an edit leaves stands in its channels
  pub record Stands : Type 0 where
    pub overwrites : All HasOrderedOverwrites t.channels
    pub voices : All (λ (z : Voice). has_id channel_id z.channel t.channels ≡ true) t.voices

  -- with what is lost gone and what is gained there, the channels are those that are shown
  settles : (id : ℕ) → has_id channel_id id t.channels ≡ true → plus (kept_on v.intents s.id s t x) (filter (λ (c : Channel). is_gained s t x c.id) t.channels) id ≡ x.after id
  settles id there =
      plus-has (kept_on v.intents s.id s t x) (filter (λ (c : Channel). is_gained s t x c.id) t.channels) id
      ∙ (ap (λ b. kept_on v.intents s.id s t x id || b) (has-kept (is_gained s t x) t.channels id)
      ∙ by_tests (has_id channel_id id s.channels) (has_id channel_id id t.channels) (x.before id) (x.after id) there)
    where
      by_tests : (a b c d : Bool) → b ≡ true → (((if a then c else d) && not ((a && b) && (c && not d))) || (b && ((a && b) && (not c && d)))) ≡ d
      by_tests true true true true e = refl
      by_tests true true true false e = refl
      by_tests true true false true e = refl
      by_tests true true false false e = refl
      by_tests false true c true e = refl
      by_tests false true c false e = refl
      by_tests a false c d e = absurd (cc)

  moves : (p q : Held) (a : Alike v.intents s.id s t x p q) → a.all.channels ≡ t.channels → a.all.voices ≡ listed v.intents guild_voice_states t.voices → Stands
      → fold_from v.intents s.id p (losses s t x v ++ gains s t x v) ≡ held_only x.after q
  moves p q a channels voices stand =
      fold-append v.intents s.id p (losses s t x v) (gains s t x v)
      ∙ (ap (λ (h : Held). fold_from v.intents s.id h (gains s t x v)) (loses s v asks t x p a.some a.holds_some a.some_order a.some_settled ∙ (a.part ∙ ap (λ o. record q { view = on_open (only shown) o }) a.holds_all))
      ∙ (ap (λ g. fold_from v.intents g (record q { view = Some (Open (only shown a.all)) }) (gains s t x v)) (sym same)
      ∙ (gains-all t v a.all asks a.all_order settled voices come shown q of_view bare
      ∙ (ap (λ (w : OpenView). record q { view = Some (Open w) }) (only-same_in (plus shown come) x.after a.all all_channels all_voices all_threads)
      ∙ ap (λ o. record q { view = on_open (only x.after) o }) (sym a.holds_all)))))
    where
      shown : ℕ → Bool
      shown = kept_on v.intents s.id s t x

      come : List Channel
      come = filter (λ (c : Channel). is_gained s t x c.id) t.channels

      settled : purged v.intents t.id a.all ≡ a.all
      settled = ap (λ g. purged v.intents g a.all) same ∙ a.all_settled

      each : All (λ (c : Channel). find_id channel_id c.id a.all.channels ≡ Some c) t.channels
      each = subst (λ (cs : List Channel). All (λ (c : Channel). find_id channel_id c.id a.all.channels ≡ Some c) cs) channels (each-there channel_id a.all.channels a.all_order.channels)

      of_view : All (IsOfView a.all) come
      of_view = All-filter (λ (c : Channel). is_gained s t x c.id) (IsOfView a.all) t.channels (both t.channels each stand.overwrites)
        where
          both : (cs : List Channel) → All (λ (c : Channel). find_id channel_id c.id a.all.channels ≡ Some c) cs → All HasOrderedOverwrites cs → All (IsOfView a.all) cs
          both [] one two = All-nil (IsOfView a.all)
          both (c ∷ cs) one two =
              All-cons (IsOfView a.all) c cs (record { there = All-head (λ (c : Channel). find_id channel_id c.id a.all.channels ≡ Some c) c cs one; overwrites = All-head HasOrderedOverwrites c cs two })
              (both cs (All-tail (λ (c : Channel). find_id channel_id c.id a.all.channels ≡ Some c) c cs one) (All-tail HasOrderedOverwrites c cs two))

      bare : All (λ (thread : ThreadView). has_id channel_id thread.parent come ≡ false) a.all.threads
      bare =
          All-weaker (λ (thread : ThreadView). shown_first v.intents s.id s t x thread.parent ≡ true) (λ (thread : ThreadView). has_id channel_id thread.parent come ≡ false)
          (λ thread is. has-kept (is_gained s t x) t.channels thread.parent ∙ not_new (has_id channel_id thread.parent s.channels) (has_id channel_id thread.parent t.channels) (x.before thread.parent) (x.after thread.parent) is) a.all.threads a.under
        where
          not_new : (a b c d : Bool) → (if a then c else d) ≡ true → (b && ((a && b) && (not c && d))) ≡ false
          not_new true true true d e = refl
          not_new true true false d e = absurd (cc)
          not_new true false c d e = refl
          not_new false true c d e = refl
          not_new false false c d e = refl

      all_channels : All (λ (c : Channel). plus shown come c.id ≡ x.after c.id) a.all.channels
      all_channels =
          All-weaker (λ (c : Channel). find_id channel_id c.id a.all.channels ≡ Some c) (λ (c : Channel). plus shown come c.id ≡ x.after c.id)
          (λ c found. settles c.id (ap (λ (cs : List Channel). has_id channel_id c.id cs) (sym channels) ∙ ap (λ (o : Option Channel). is_some o) found)) a.all.channels (each-there channel_id a.all.channels a.all_order.channels)

      all_voices : All (λ (z : Voice). plus shown come z.channel ≡ x.after z.channel) a.all.voices
      all_voices = subst (λ (zs : List Voice). All (λ (z : Voice). plus shown come z.channel ≡ x.after z.channel) zs) (sym voices) (by_bit (has_bit v.intents guild_voice_states))
        where
          by_bit : (b : Bool) → All (λ (z : Voice). plus shown come z.channel ≡ x.after z.channel) (if b then t.voices else [])
          by_bit true = All-weaker (λ (z : Voice). has_id channel_id z.channel t.channels ≡ true) (λ (z : Voice). plus shown come z.channel ≡ x.after z.channel) (λ z there. settles z.channel there) t.voices stand.voices
          by_bit false = All-nil (λ (z : Voice). plus shown come z.channel ≡ x.after z.channel)

      all_threads : All (λ (thread : ThreadView). plus shown come thread.parent ≡ x.after thread.parent) a.all.threads
      all_threads =
          All-weaker (λ (thread : ThreadView). has_id channel_id thread.parent a.all.channels ≡ true) (λ (thread : ThreadView). plus shown come thread.parent ≡ x.after thread.parent)
          (λ thread there. settles thread.parent (ap (λ (cs : List Channel). has_id channel_id thread.parent cs) (sym channels) ∙ there)) a.all.threads (parents-there v.intents s.id a.all a.all_settled)

  -- the tests of the list tell the sync from the rest
  rest-apart : (ds : List Dispatch) → All (Fits v.intents s.id s t x) ds → (filter is_no_sync ds ≡ ds) × (filter is_sync ds ≡ [])
  rest-apart [] fits = (refl, refl)
  rest-apart (d ∷ ds) fits = by_kind d (All-head (Fits v.intents s.id s t x) d ds fits) (rest-apart ds (All-tail (Fits v.intents s.id s t x) d ds fits))
    where
      by_kind : (d : Dispatch) → Fits v.intents s.id s t x d → (filter is_no_sync ds ≡ ds) × (filter is_sync ds ≡ []) → (filter is_no_sync (d ∷ ds) ≡ d ∷ ds) × (filter is_sync (d ∷ ds) ≡ [])
      by_kind (ThreadListSync sync) fits rest = absurd fits
      by_kind d fits rest = (ap (λ (es : List Dispatch). d ∷ es) rest.0, rest.1)

  sync-apart : (es : List Dispatch) → All IsSync es → (filter is_no_sync es ≡ []) × (filter is_sync es ≡ es)
  sync-apart [] fits = (refl, refl)
  sync-apart (d ∷ es) fits = by_kind d (All-head IsSync d es fits) (sync-apart es (All-tail IsSync d es fits))
    where
      by_kind : (d : Dispatch) → IsSync d → (filter is_no_sync es ≡ []) × (filter is_sync es ≡ es) → (filter is_no_sync (d ∷ es) ≡ []) × (filter is_sync (d ∷ es) ≡ d ∷ es)
      by_kind (ThreadListSync sync) fits rest = (rest.0, ap (λ (fs : List Dispatch). ThreadListSync sync ∷ fs) rest.1)
      by_kind d fits rest = absurd fits

  apart : (ds es : List Dispatch) → All (Fits v.intents s.id s t x) ds → All IsSync es
      → withheld s t x v (ds ++ es) ≡ flat_map (told_shown x) ds ++ (losses s t x v ++ (gains s t x v ++ es))
  apart ds es fits syncs =
      let rest = rest-apart ds fits in
      let sync = sync-apart es syncs in
      ap (λ (fs : List Dispatch). flat_map (told_shown x) fs ++ (losses s t x v ++ (gains s t x v ++ filter is_sync (ds ++ es)))) (filter-append is_no_sync ds es ∙ rw (rest.0, sync.0) (append-nil ds))
      ∙ ap (λ (fs : List Dispatch). flat_map (told_shown x) ds ++ (losses s t x v ++ (gains s t x v ++ fs))) (filter-append is_sync ds es ∙ rw (rest.1, sync.1) refl)

  -- a client before an edit, from whom nothing is withheld, and what it holds
  pub record Before (q : Held) : Type 0 where
    pub all : OpenView
    pub holds : q.view ≡ Some (Open all)
    pub order : IsOrdered all
    pub settled : purged v.intents s.id all ≡ all
    pub voices : VoicesBy v.intents s.id s t x all
    pub under : AllUnder v.intents s.id s t x all

  begins : (q : Held) → Before q → Alike v.intents s.id s t x (held_only (shown_first v.intents s.id s t x) q) q
  begins q b = record {
    some = only shown b.all;
    all = b.all;
    holds_some = ap (on_open (only shown)) b.holds;
    holds_all = b.holds;
    some_order = record {
      channels = IsById-filter channel_id (shows_channel shown) b.all.channels b.order.channels;
      voices = IsById-filter voice_id (shows_voice shown) b.all.voices b.order.voices;
      threads = IsById-filter thread_view_id (shows_thread shown) b.all.threads b.order.threads;
    };
    all_order = b.order;
    some_settled = sym (purged-only v.intents s.id shown b.all b.order) ∙ ap (only shown) b.settled;
    all_settled = b.settled;
    part = ap (λ o. record q { view = on_open (only (not_lost v.intents s.id s t x)) (on_open (only shown) o) }) b.holds
        ∙ (ap (λ (w : OpenView). record q { view = Some (Open w) }) (only-both shown (not_lost v.intents s.id s t x) b.all)
        ∙ ap (λ o. record q { view = on_open (only (kept_on v.intents s.id s t x)) o }) (sym b.holds));
    voices = b.voices;
    under = b.under;
  }
    where
      shown : ℕ → Bool
      shown = shown_first v.intents s.id s t x

  pub follows : (q : Held) (ds es : List Dispatch) (z : OpenView) → Before q → All (IsOf s.id) ds → All (Fits v.intents s.id s t x) ds → All (IsOf s.id) es → All IsSync es
      → (fold_from v.intents s.id q (ds ++ es)).view ≡ Some (Open z) → z.channels ≡ t.channels → z.voices ≡ listed v.intents guild_voice_states t.voices → Stands
      → fold_from v.intents s.id (held_only (shown_first v.intents s.id s t x) q) (withheld s t x v (ds ++ es)) ≡ held_only x.after (fold_from v.intents s.id q (ds ++ es))
  follows q ds es z b of fits of_sync fits_sync ends channels voices stand =
      ap (fold_from v.intents s.id first) (apart ds es fits fits_sync)
      ∙ (fold-append v.intents s.id first told (losses s t x v ++ (gains s t x v ++ es))
      ∙ (ap (fold_from v.intents s.id (fold_from v.intents s.id first told)) (sym (append_assoc (losses s t x v) (gains s t x v) es))
      ∙ (fold-append v.intents s.id (fold_from v.intents s.id first told) (losses s t x v ++ gains s t x v) es
      ∙ (ap (λ (h : Held). fold_from v.intents s.id h es) (moves (fold_from v.intents s.id first told) mid a (sym synced.channels ∙ (ap (λ (w : OpenView). w.channels) same_end ∙ channels)) (sym synced.voices ∙ (ap (λ (w : OpenView). w.voices) same_end ∙ voices)) stand)
      ∙ (synced.part ∙ ap (held_only x.after) (sym (fold-append v.intents s.id q ds es)))))))
    where
      first : Held
      first = held_only (shown_first v.intents s.id s t x) q

      told : List Dispatch
      told = flat_map (told_shown x) ds

      mid : Held
      mid = fold_from v.intents s.id q ds

      a : Alike v.intents s.id s t x (fold_from v.intents s.id first told) mid
      a = rows v.intents s.id s t x ds first q (begins q b) of fits

      synced : Synced v.intents s.id es mid a.all
      synced = syncs v.intents s.id es mid a.all a.holds_all a.all_order of_sync fits_sync

      same_end : synced.all ≡ z
      same_end = let e : Some (Open synced.all) ≡ Some (Open z) = sym synced.holds ∙ (ap (λ (h : Held). h.view) (sym (fold-append v.intents s.id q ds es)) ∙ ends) in cc
