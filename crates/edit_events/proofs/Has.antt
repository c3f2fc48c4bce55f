-- What a client holds of the channels that are shown, edit by edit.
use Rattle.std.proofs.Common.{◌≡◌, ℕ, Bool, true, false, ◌&&◌, List, [], ◌∷◌, ◌++◌, Some, None, if◌then◌else◌, refl, sym, ap, subst, ◌∙◌}
use Rattle.std.specs.Prelude.{All, filter, flat_map}
use Rattle.std.proofs.lemmas.Bool.{and_parts}
use Rattle.std.proofs.lemmas.List.{append-nil}
use Rattle.std.proofs.lemmas.List.Elements.{All-nil, All-cons, All-head, All-tail, All-weaker}
use Rattle.collections.specs.ById.{find_id, has_id, keep_if}
use Rattle.collections.proofs.Mapped.{filter-all}
use Rattle.perm_bits.specs.Bits.{has_bit}
use Rattle.intent_set.specs.Intents.{guilds, guild_voice_states}
use Rattle.guild_model.specs.declared.member.Member.{Member}
use Rattle.guild_model.specs.Record.{Record, channel_id, voice_id}
use Rattle.guild_model.specs.Ascending.{IsWell}
use Rattle.guild_model.specs.Sight.{Standing, standing, sees}
use Rattle.dispatch_types.specs.declared.presences.VoiceStateUpdate.{VoiceStateUpdate as VoiceUpdate}
use Rattle.dispatch_types.specs.declared.viewer.Viewer.{Viewer}
use Rattle.dispatch_types.specs.declared.view.GuildView.TheVariants.{Open}
use Rattle.dispatch_types.specs.declared.view.OpenView.{OpenView}
use Rattle.dispatch_types.specs.declared.view.ThreadView.{ThreadView}
use Rattle.dispatch_types.specs.declared.dispatch.Dispatch.{Dispatch}
use Rattle.dispatch_types.specs.declared.dispatch.Dispatch.TheVariants as dispatch
use Rattle.dispatch_types.specs.Projection.{open_view}
use Rattle.dispatch_types.specs.Fold.{Held, on_open, fold_from}
use Rattle.dispatch_types.proofs.Views.{purged-open}
use Rattle.event_views.specs.Asked.{asked}
use Rattle.event_views.specs.Has.{Has}
use Rattle.event_views.proofs.Steps.{IsOf}
use Rattle.message_events.specs.Messages.{is_message}
use Rattle.channel_privacy.proofs.Only.{shows_voice, only, held_only}
use Rattle.guild_model.specs.Shown.{is_shown}
use Rattle.channel_privacy.specs.Withheld.{Showing, told_shown, stands, is_sync, is_no_sync, withheld}
use Rattle.channel_privacy.specs.Law.{showing}
use Rattle.channel_privacy.proofs.Lost.{same-lists}
use Rattle.channel_privacy.proofs.Rows.{shown_first, Fits}
use Rattle.channel_privacy.proofs.Follows.{IsSync, follows}
use Rattle.channel_privacy.proofs.Alone.{withheld-plain, OfThreads, Under, threads-follow, voice-follows}
use Rattle.edit_events.proofs.Part.{part_view}
use Rattle.edit_events.proofs.Shown.{sees-shown, parents-seen, ordered, voices-stand, same-part, before-shown, first-shown, unheard, before}

-- a client that holds what is shown of a guild that is available
pub record HasShown (private : Bool) (s : Record) (v : Viewer) (me : Member) (h : Held) : Type 0 where
  pub bot : h.bot ≡ v.user
  pub view : h.view ≡ Some (Open (part_view private s v.intents h.known me))

-- one that holds the whole guild
abbrev pub whole : Record → Viewer → Member → Held → Held
whole s v me h = record h { view = Some (Open (open_view s v.intents h.known me)) }

all-left : {T : Type 0} (P : T → Type 0) (xs ys : List T) → All P (xs ++ ys) → All P xs
all-left P [] ys all = All-nil P
all-left P (x ∷ xs) ys all = All-cons P x xs (All-head P x (xs ++ ys) all) (all-left P xs ys (All-tail P x (xs ++ ys) all))

all-right : {T : Type 0} (P : T → Type 0) (xs ys : List T) → All P (xs ++ ys) → All P ys
all-right P [] ys all = all
all-right P (x ∷ xs) ys all = all-right P xs ys (All-tail P x (xs ++ ys) all)

-- ---- edits whose own dispatches come before the sync
module _ (private private' : Bool) (s t : Record) (v : Viewer) (me me' : Member) (well : IsWell s) (well' : IsWell t) (asks : has_bit v.intents guilds ≡ true) (same : t.id ≡ s.id) where
  abbrev pub x : Showing
  x = showing private s me private' t me'

  of-whole : (h : Held) → HasShown private s v me h → h ≡ held_only (shown_first v.intents s.id s t x) (whole s v me h)
  of-whole h has =
      ap (λ o. record h { view = o })
      (has.view ∙ ap (λ (w : OpenView). Some (Open w)) (same-part s v me well (is_shown private (standing s me)) (shown_first v.intents s.id s t x) (λ id there. sym (first-shown s v me well t me' private private' id there)) h.known))

  pub rows-keep : (h : Held) (ds es : List Dispatch) → HasShown private s v me h → All (IsOf t.id) (ds ++ es) → All (Fits v.intents s.id s t x) ds → All (IsSync s t v x asks same) es
      → Has t v me' (fold_from v.intents s.id (whole s v me h) (ds ++ es))
      → HasShown private' t v me' (fold_from v.intents s.id h (withheld s t x v (ds ++ es)))
  rows-keep h ds es has of fits syncs kept =
      let here : All (IsOf s.id) (ds ++ es) = subst (λ (g : ℕ). All (IsOf g) (ds ++ es)) same of in
      let q : Held = whole s v me h in
      let holds : Has s v me q = record { bot = has.bot; view = refl } in
      let ends : fold_from v.intents s.id h (withheld s t x v (ds ++ es)) ≡ held_only x.after (fold_from v.intents s.id q (ds ++ es)) =
      ap (λ (k : Held). fold_from v.intents s.id k (withheld s t x v (ds ++ es))) (of-whole h has)
      ∙ follows s t v x asks same q ds es (open_view t v.intents (fold_from v.intents s.id q (ds ++ es)).known me') (before s v me well t me' private private' asks same q holds)
      (all-left (IsOf s.id) ds es here) fits (all-right (IsOf s.id) ds es here) syncs kept.view refl refl (record { overwrites = well'.ascending.overwrites; voices = voices-stand t v me' well' }) in
      subst (λ (k : Held). HasShown private' t v me' k) (sym ends) (record { bot = kept.bot; view = ap (on_open (only x.after)) kept.view })

  -- with no sync
  pub plain-keep : (h : Held) (ds : List Dispatch) → HasShown private s v me h → All (IsOf t.id) ds → All (Fits v.intents s.id s t x) ds
      → Has t v me' (fold_from v.intents s.id (whole s v me h) ds)
      → HasShown private' t v me' (fold_from v.intents s.id h (withheld s t x v ds))
  plain-keep h ds has of fits kept =
      subst (λ (es : List Dispatch). HasShown private' t v me' (fold_from v.intents s.id h (withheld s t x v es))) (append-nil ds)
      (rows-keep h ds [] has (subst (λ (es : List Dispatch). All (IsOf t.id) es) (sym (append-nil ds)) of) fits (All-nil (IsSync s t v x asks same))
      (subst (λ (es : List Dispatch). Has t v me' (fold_from v.intents s.id (whole s v me h) es)) (sym (append-nil ds)) kept))

-- ---- edits that leave what is seen as it is: of threads and voice states
module _ (private : Bool) (s t : Record) (v : Viewer) (me me' : Member) (well : IsWell s) (same : t.id ≡ s.id) (sight : standing t me' ≡ standing s me) where
  abbrev pub y : Showing
  y = showing private s me private t me'

  abbrev pub shown : ℕ → Bool
  shown = is_shown private (standing t me')

  same-sight : (id : ℕ) → is_shown private (standing t me') id ≡ is_shown private (standing s me) id
  same-sight id = ap (λ (st : Standing). is_shown private st id) sight

  same-shown : (id : ℕ) → stands s t y id ≡ true → y.before id ≡ y.after id
  same-shown id there =
      before-shown s v me well t me' private private id
      ∙ (ap (λ b. b && is_shown private (standing s me) id) (and_parts (has_id channel_id id s.channels) (has_id channel_id id t.channels) there).0 ∙ sym (same-sight id))

  of-part : (h : Held) → HasShown private s v me h → h ≡ held_only shown (whole s v me h)
  of-part h has =
      ap (λ o. record h { view = o })
      (has.view ∙ ap (λ (w : OpenView). Some (Open w)) (same-part s v me well (is_shown private (standing s me)) shown (λ id there. sym (same-sight id)) h.known))

  to-part : (k : Held) → Has t v me' k → HasShown private t v me' (held_only shown k)
  to-part k has = record { bot = has.bot; view = ap (on_open (only shown)) has.view }

  -- a list of threads alone is told as it is
  threads-plain : (ds : List Dispatch) → All (OfThreads v.intents s.id shown) ds
      → (filter is_no_sync ds ≡ ds) × ((filter is_sync ds ≡ []) × (flat_map (told_shown y) ds ≡ ds))
  threads-plain [] fits = (refl, (refl, refl))
  threads-plain (d ∷ ds) fits = by_kind d (All-head (OfThreads v.intents s.id shown) d ds fits) (threads-plain ds (All-tail (OfThreads v.intents s.id shown) d ds fits))
    where
      by_kind : (d : Dispatch) → OfThreads v.intents s.id shown d → (filter is_no_sync ds ≡ ds) × ((filter is_sync ds ≡ []) × (flat_map (told_shown y) ds ≡ ds))
          → (filter is_no_sync (d ∷ ds) ≡ d ∷ ds) × ((filter is_sync (d ∷ ds) ≡ []) × (flat_map (told_shown y) (d ∷ ds) ≡ d ∷ ds))
      by_kind (dispatch.ThreadCreate c) fits rest = (ap (λ (es : List Dispatch). dispatch.ThreadCreate c ∷ es) rest.0, (rest.1.0, ap (λ (es : List Dispatch). dispatch.ThreadCreate c ∷ es) rest.1.1))
      by_kind (dispatch.ThreadUpdate c) fits rest = (ap (λ (es : List Dispatch). dispatch.ThreadUpdate c ∷ es) rest.0, (rest.1.0, ap (λ (es : List Dispatch). dispatch.ThreadUpdate c ∷ es) rest.1.1))
      by_kind (dispatch.ThreadDelete c) fits rest = (ap (λ (es : List Dispatch). dispatch.ThreadDelete c ∷ es) rest.0, (rest.1.0, ap (λ (es : List Dispatch). dispatch.ThreadDelete c ∷ es) rest.1.1))
      by_kind (dispatch.ThreadMembersUpdate c) fits rest = (ap (λ (es : List Dispatch). dispatch.ThreadMembersUpdate c ∷ es) rest.0, (rest.1.0, ap (λ (es : List Dispatch). dispatch.ThreadMembersUpdate c ∷ es) rest.1.1))
      by_kind d fits rest = absurd fits

  pub threads-keep : (h : Held) (ds : List Dispatch) → HasShown private s v me h → All (IsOf t.id) ds → All (OfThreads v.intents s.id shown) ds
      → Has t v me' (fold_from v.intents s.id (whole s v me h) ds)
      → HasShown private t v me' (fold_from v.intents s.id h (withheld s t y v ds))
  threads-keep h ds has of fits kept =
      let plain = threads-plain ds fits in
      let here : All (IsOf s.id) ds = subst (λ (g : ℕ). All (IsOf g) ds) same of in
      let under : Under v.intents s.id shown (open_view s v.intents h.known me) =
      All-weaker (λ (thread : ThreadView). sees (standing s me) thread.parent ≡ true) (λ (thread : ThreadView). shown thread.parent ≡ true)
      (λ thread seen. same-sight thread.parent ∙ sees-shown private (sees (standing s me) thread.parent) seen) (open_view s v.intents h.known me).threads (parents-seen s me v.intents) in
      subst (λ (k : Held). HasShown private t v me' k)
      (sym (ap (fold_from v.intents s.id h) (withheld-plain s t y same-shown v ds plain.0 plain.1.0 ∙ plain.1.1)
      ∙ (ap (λ (k : Held). fold_from v.intents s.id k ds) (of-part h has)
      ∙ threads-follow v.intents s.id shown ds (whole s v me h) (open_view s v.intents h.known me) refl (ordered s v me well h.known) under here fits)))
      (to-part (fold_from v.intents s.id (whole s v me h) ds) kept)

  -- one voice state
  pub voice-keep : (h : Held) (u : VoiceUpdate) → HasShown private s v me h → u.guild ≡ t.id
      → Has t v me' (fold_from v.intents s.id (whole s v me h) (asked v false (dispatch.VoiceStateUpdate u)))
      → HasShown private t v me' (fold_from v.intents s.id h (withheld s t y v (asked v false (dispatch.VoiceStateUpdate u))))
  voice-keep h u has of = by_asked (has_bit v.intents guild_voice_states)
    where
      out : (user : ℕ) → y.in_voice user ≡ false → keep_if (shows_voice shown) (find_id voice_id user (open_view s v.intents h.known me).voices) ≡ None
      out user gone = by_bit (has_bit v.intents guild_voice_states)
        where
          by_bit : (b : Bool) → keep_if (shows_voice shown) (find_id voice_id user (if b then s.voices else [])) ≡ None
          by_bit true = unheard s v me well private shown user (λ id there hides. same-sight id ∙ hides) gone
          by_bit false = refl

      by_asked : (b : Bool) → Has t v me' (fold_from v.intents s.id (whole s v me h) (if b then dispatch.VoiceStateUpdate u ∷ [] else []))
          → HasShown private t v me' (fold_from v.intents s.id h (withheld s t y v (if b then dispatch.VoiceStateUpdate u ∷ [] else [])))
      by_asked true kept =
          subst (λ (k : Held). HasShown private t v me' k)
          (sym (ap (fold_from v.intents s.id h) (withheld-plain s t y same-shown v (dispatch.VoiceStateUpdate u ∷ []) refl refl ∙ append-nil (told_shown y (dispatch.VoiceStateUpdate u)))
          ∙ (ap (λ (k : Held). fold_from v.intents s.id k (told_shown y (dispatch.VoiceStateUpdate u))) (of-part h has)
          ∙ voice-follows v.intents s.id shown y (λ id. refl) (whole s v me h) (open_view s v.intents h.known me) refl (ordered s v me well h.known) (purged-open s v.intents h.known me) out u (of ∙ same))))
          (to-part (fold_from v.intents s.id (whole s v me h) (dispatch.VoiceStateUpdate u ∷ [])) kept)
      by_asked false kept =
          subst (λ (k : Held). HasShown private t v me' k)
          (sym (ap (fold_from v.intents s.id h) (withheld-plain s t y same-shown v [] refl refl) ∙ of-part h has))
          (to-part (whole s v me h) kept)

-- ---- an edit of messages is told as it is
module _ (private : Bool) (s t : Record) (v : Viewer) (me me' : Member) (well : IsWell s) (well' : IsWell t) (asks : has_bit v.intents guilds ≡ true) (same : t.id ≡ s.id) (sight : standing t me' ≡ standing s me) where
  abbrev z : Showing
  z = showing private s me private t me'

  -- each is told, and no sync
  messages-plain : (ds : List Dispatch) → All (λ d. is_message d ≡ true) ds → (filter is_no_sync ds ≡ ds) × ((filter is_sync ds ≡ []) × (flat_map (told_shown z) ds ≡ ds))
  messages-plain [] are = (refl, (refl, refl))
  messages-plain (d ∷ ds) are = by_kind d (All-head (λ d. is_message d ≡ true) d ds are) (messages-plain ds (All-tail (λ d. is_message d ≡ true) d ds are))
    where
      by_kind : (d : Dispatch) → is_message d ≡ true → (filter is_no_sync ds ≡ ds) × ((filter is_sync ds ≡ []) × (flat_map (told_shown z) ds ≡ ds))
          → (filter is_no_sync (d ∷ ds) ≡ d ∷ ds) × ((filter is_sync (d ∷ ds) ≡ []) × (flat_map (told_shown z) (d ∷ ds) ≡ d ∷ ds))
      by_kind (dispatch.ChannelCreate o) is rest = absurd (cc)
      by_kind (dispatch.ChannelUpdate o) is rest = absurd (cc)
      by_kind (dispatch.ChannelDelete o) is rest = absurd (cc)
      by_kind (dispatch.ThreadListSync sync) is rest = absurd (cc)
      by_kind (dispatch.VoiceStateUpdate u) is rest = absurd (cc)
      by_kind d is rest = (ap (λ (es : List Dispatch). d ∷ es) rest.0, (rest.1.0, ap (λ (es : List Dispatch). d ∷ es) rest.1.1))

  pub messages-keep : (h : Held) (ds : List Dispatch) → HasShown private s v me h → All (IsOf t.id) ds → All (λ d. is_message d ≡ true) ds → All (Fits v.intents s.id s t z) ds
      → Has t v me' (fold_from v.intents s.id (whole s v me h) ds)
      → HasShown private t v me' (fold_from v.intents s.id h ds)
  messages-keep h ds has of are fits kept =
      let plain = messages-plain ds are in
      subst (λ (es : List Dispatch). HasShown private t v me' (fold_from v.intents s.id h es))
      (withheld-plain s t z (same-shown private s t v me me' well same sight) v ds plain.0 plain.1.0 ∙ plain.1.1)
      (plain-keep private private s t v me me' well well' asks same h ds has of fits kept)

-- ---- a guild that withholds nothing
all-shown : (s : Record) (intents : ℕ) (known : List ℕ) (me : Member) → part_view false s intents known me ≡ open_view s intents known me
all-shown s intents known me =
    same-lists (open_view s intents known me) (filter-all (λ c. true) (λ c. refl) (open_view s intents known me).channels) (filter-all (λ x. true) (λ x. refl) (open_view s intents known me).voices)
    (filter-all (λ t. true) (λ t. refl) (open_view s intents known me).threads)

pub to-all : (s : Record) (v : Viewer) (me : Member) (h : Held) → s.private ≡ false → HasShown s.private s v me h → Has s v me h
to-all s v me h shows has = record {
  bot = has.bot;
  view = has.view ∙ (ap (λ p. Some (Open (part_view p s v.intents h.known me))) shows ∙ ap (λ (w : OpenView). Some (Open w)) (all-shown s v.intents h.known me));
}

pub from-all : (s : Record) (v : Viewer) (me : Member) (h : Held) → s.private ≡ false → Has s v me h → HasShown s.private s v me h
from-all s v me h shows has = record {
  bot = has.bot;
  view = has.view ∙ sym (ap (λ p. Some (Open (part_view p s v.intents h.known me))) shows ∙ ap (λ (w : OpenView). Some (Open w)) (all-shown s v.intents h.known me));
}

-- what a client that is served before and after an edit holds of an available guild
abbrev pub HoldsShown : Record → Viewer → Member → Held → Type 0
HoldsShown s v me h = HasShown s.private s v me h
