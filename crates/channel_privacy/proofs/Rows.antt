-- What an edit tells, dispatch by dispatch, to one from whom channels are withheld and to one from whom none are.
use Rattle.std.proofs.Common.{◌≡◌, ℕ, Bool, true, false, not, ◌&&◌, List, [], ◌∷◌, Option, Some, None, if◌then◌else◌, refl, sym, ap, subst, ◌∙◌, arith}
use Rattle.std.specs.Prelude.{◌==◌, All, filter, flat_map, option_map}
use Rattle.std.proofs.lemmas.Bool.{and_parts}
use Rattle.std.proofs.lemmas.List.Elements.{All-head, All-tail, All-filter, All-map, All-weaker}
use Rattle.collections.specs.ById.{find_id, has_id, keep_if, put_id, without_id}
use Rattle.collections.proofs.Finds.{find-filter, find-without}
use Rattle.collections.proofs.Has.{All-put}
use Rattle.intent_set.specs.Intents.{guild_members}
use Rattle.guild_model.specs.declared.member.Member.{Member}
use Rattle.guild_model.specs.declared.presence.Presence.{Presence}
use Rattle.guild_model.specs.declared.voice.Voice.{Voice}
use Rattle.guild_model.specs.Record.{Record, member_id, channel_id, voice_id}
use Rattle.dispatch_types.specs.declared.channels.ChannelObject.{ChannelObject}
use Rattle.dispatch_types.specs.declared.threads.ThreadMembersUpdate.{ThreadMembersUpdate as MembersUpdate}
use Rattle.dispatch_types.specs.declared.presences.VoiceStateUpdate.{VoiceStateUpdate as VoiceUpdate}
use Rattle.dispatch_types.specs.declared.dispatch.Dispatch.{Dispatch}
use Rattle.dispatch_types.specs.declared.dispatch.Dispatch.TheVariants.{Ready, Resumed, GuildCreate, GuildDelete, ChannelCreate, ChannelUpdate, ChannelDelete, ThreadCreate, ThreadUpdate, ThreadDelete, ThreadListSync, ThreadMembersUpdate, GuildMemberUpdate, VoiceStateUpdate, PresenceUpdate}
use Rattle.dispatch_types.specs.declared.view.GuildView.TheVariants.{Open}
use Rattle.dispatch_types.specs.declared.view.OpenView.{OpenView}
use Rattle.dispatch_types.specs.declared.view.ThreadView.{ThreadView}
use Rattle.dispatch_types.specs.Objects.{member_of, thread_member_of, voice_in, voice_of, presence_of}
use Rattle.dispatch_types.specs.Projection.{listed}
use Rattle.dispatch_types.specs.GuildOf.{guild_of}
use Rattle.dispatch_types.specs.Fold.{Held, thread_view_id, on_open, drop_channel, thread_of, members_updated, update_members, set_me, set_voice, set_presence, open_after, leaves_over, known_after, view_sees, purged, folded, fold_from}
use Rattle.event_views.proofs.Steps.{IsOf, fold-append}
use Rattle.channel_privacy.proofs.Only.{shows_voice, only, held_only}
use Rattle.channel_privacy.specs.Withheld.{Showing, told_voice, told_shown, stands, is_lost}
use Rattle.thread_sync.proofs.Lists.{filter-alike}
use Rattle.channel_privacy.proofs.Filters.{filter-both}
use Rattle.channel_privacy.proofs.Part.{IsOrdered, purged-only, purged-order}
use Rattle.channel_privacy.proofs.Tells.{TellsShown, ordered-after}
use Rattle.channel_privacy.proofs.Steps.{changes, stepped, folded-open, folded-only, unseen-created, unseen-updated, unseen-deleted, unseen-moved, IsSettled}

-- the purge of what is purged
pub purged-twice : (intents g : ℕ) (v : OpenView) → purged intents g (purged intents g v) ≡ purged intents g v
purged-twice intents g v =
    ap (λ (ts : List ThreadView). record v { threads = ts }) (filter-both (view_sees intents g v) (view_sees intents g v) v.threads ∙ filter-alike (λ t. view_sees intents g v t && view_sees intents g v t) (view_sees intents g v) (λ t. twice (view_sees intents g v t)) v.threads)
  where
    twice : (b : Bool) → (b && b) ≡ b
    twice true = refl
    twice false = refl

module _ (intents g : ℕ) (s t : Record) (x : Showing) where
  -- which channels a client of a guild with withheld channels holds before the edit, a new one among them
  abbrev pub shown_first : ℕ → Bool
  shown_first id = if has_id channel_id id s.channels then x.before id else x.after id

  abbrev pub not_lost : ℕ → Bool
  not_lost id = not (is_lost s t x id)

  abbrev pub kept_on : ℕ → Bool
  kept_on id = shown_first id && not_lost id

  -- whoever had no shown voice state has none that is held
  abbrev pub VoicesBy : OpenView → Type 0
  VoicesBy y = (user : ℕ) → x.in_voice user ≡ false → keep_if (shows_voice kept_on) (find_id voice_id user y.voices) ≡ None

  -- all threads that are held stand under channels that are held
  abbrev pub AllUnder : OpenView → Type 0
  AllUnder y = All (λ (thread : ThreadView). shown_first thread.parent ≡ true) y.threads

  -- the one holds what the other holds, but for channels that are lost or not shown
  pub record Alike (p q : Held) : Type 0 where
    pub some : OpenView
    pub all : OpenView
    pub holds_some : p.view ≡ Some (Open some)
    pub holds_all : q.view ≡ Some (Open all)
    pub some_order : IsOrdered some
    pub all_order : IsOrdered all
    pub some_settled : purged intents g some ≡ some
    pub all_settled : purged intents g all ≡ all
    pub part : held_only not_lost p ≡ held_only kept_on q
    pub voices : VoicesBy all
    pub under : AllUnder all

  -- what an edit's own dispatches are like: THREAD_UPDATE is not among them, and a voice state ends
  abbrev pub Fits : Dispatch → Type 0
  Fits (Ready ready) = ⊥
  Fits Resumed = ⊥
  Fits (GuildCreate create) = ⊥
  Fits (GuildDelete delete) = ⊥
  Fits (ChannelCreate o) = has_id channel_id o.id s.channels ≡ false
  Fits (ChannelUpdate o) = stands s t x o.id ≡ true
  Fits (ChannelDelete o) = (has_id channel_id o.id s.channels ≡ true) × (has_id channel_id o.id t.channels ≡ false)
  Fits (ThreadCreate c) = kept_on c.thread.parent ≡ true
  Fits (ThreadUpdate thread) = ⊥
  Fits (ThreadListSync sync) = ⊥
  Fits (VoiceStateUpdate u) = u.voice.channel ≡ None
  Fits d = Unit {0}

  part-settled : (shown : ℕ → Bool) (y : OpenView) → IsOrdered y → purged intents g y ≡ y → IsSettled intents g shown y
  part-settled shown y order settled = sym (purged-only intents g shown y order) ∙ ap (only shown) settled

  -- told to both
  both : (p q : Held) (d : Dispatch) (a : Alike p q) → guild_of d ≡ Some g → changes d ≡ true → leaves_over d ≡ false
      → TellsShown not_lost a.some d → TellsShown kept_on a.all d → VoicesBy (open_after intents q.bot d a.all) → AllUnder (open_after intents q.bot d a.all)
      → Alike (folded intents g p d) (folded intents g q d)
  both p q d a of is soon some all voices under = record {
    some = purged intents g (open_after intents p.bot d a.some);
    all = purged intents g (open_after intents q.bot d a.all);
    holds_some = ap (λ (h : Held). h.view) (folded-open intents g p a.some d a.holds_some of is) ∙ ap (λ b. Some (Open (if b then open_after intents p.bot d a.some else purged intents g (open_after intents p.bot d a.some)))) soon;
    holds_all = ap (λ (h : Held). h.view) (folded-open intents g q a.all d a.holds_all of is) ∙ ap (λ b. Some (Open (if b then open_after intents q.bot d a.all else purged intents g (open_after intents q.bot d a.all)))) soon;
    some_order = purged-order intents g (open_after intents p.bot d a.some) (ordered-after intents p.bot a.some a.some_order d);
    all_order = purged-order intents g (open_after intents q.bot d a.all) (ordered-after intents q.bot a.all a.all_order d);
    some_settled = purged-twice intents g (open_after intents p.bot d a.some);
    all_settled = purged-twice intents g (open_after intents q.bot d a.all);
    part = folded-only intents g not_lost p a.some d a.holds_some a.some_order some of is ∙ (ap (λ (h : Held). folded intents g h d) a.part ∙ sym (folded-only intents g kept_on q a.all d a.holds_all a.all_order all of is));
    voices = voices;
    under = All-filter (view_sees intents g (open_after intents q.bot d a.all)) (λ (thread : ThreadView). shown_first thread.parent ≡ true) (open_after intents q.bot d a.all).threads under;
  }

  -- told to neither but the one from whom nothing is withheld
  alone : (p q : Held) (d : Dispatch) (a : Alike p q) → guild_of d ≡ Some g → changes d ≡ true → leaves_over d ≡ false → known_after d q.known ≡ q.known
      → only kept_on (stepped intents g q.bot d a.all) ≡ only kept_on a.all → VoicesBy (open_after intents q.bot d a.all) → AllUnder (open_after intents q.bot d a.all)
      → Alike p (folded intents g q d)
  alone p q d a of is soon known unseen voices under = record {
    some = a.some;
    all = purged intents g (open_after intents q.bot d a.all);
    holds_some = a.holds_some;
    holds_all = ap (λ (h : Held). h.view) (folded-open intents g q a.all d a.holds_all of is) ∙ ap (λ b. Some (Open (if b then open_after intents q.bot d a.all else purged intents g (open_after intents q.bot d a.all)))) soon;
    some_order = a.some_order;
    all_order = purged-order intents g (open_after intents q.bot d a.all) (ordered-after intents q.bot a.all a.all_order d);
    some_settled = a.some_settled;
    all_settled = purged-twice intents g (open_after intents q.bot d a.all);
    part = a.part ∙ sym (ap (held_only kept_on) (folded-open intents g q a.all d a.holds_all of is)
        ∙ (ap (λ (w : OpenView). record { bot = q.bot; view = Some (Open w); known = known_after d q.known }) unseen
        ∙ (ap (λ ks. record { bot = q.bot; view = Some (Open (only kept_on a.all)); known = ks }) known
        ∙ ap (λ o. record { bot = q.bot; view = on_open (only kept_on) o; known = q.known }) (sym a.holds_all))));
    voices = voices;
    under = All-filter (view_sees intents g (open_after intents q.bot d a.all)) (λ (thread : ThreadView). shown_first thread.parent ≡ true) (open_after intents q.bot d a.all).threads under;
  }

  -- ---- the channels that an edit tells of
  new-channel : (id : ℕ) → has_id channel_id id s.channels ≡ false → kept_on id ≡ x.after id
  new-channel id new = grind (arith, new)

  same-channel : (id : ℕ) → stands s t x id ≡ true → kept_on id ≡ (x.before id && x.after id)
  same-channel id there = by_tests (has_id channel_id id s.channels) (has_id channel_id id t.channels) (x.before id) (x.after id) there
    where
      by_tests : (a b c d : Bool) → (a && b) ≡ true → ((if a then c else d) && not ((a && b) && (c && not d))) ≡ (c && d)
      by_tests true true true true e = refl
      by_tests true true true false e = refl
      by_tests true true false d e = refl
      by_tests true false c d e = absurd (cc)
      by_tests false b c d e = absurd (cc)

  old-channel : (id : ℕ) → has_id channel_id id s.channels ≡ true → has_id channel_id id t.channels ≡ false → kept_on id ≡ x.before id
  old-channel id was gone = by_tests (has_id channel_id id s.channels) (has_id channel_id id t.channels) (x.before id) (x.after id) was gone
    where
      by_tests : (a b c d : Bool) → a ≡ true → b ≡ false → ((if a then c else d) && not ((a && b) && (c && not d))) ≡ c
      by_tests true true c d e f = absurd (cc)
      by_tests true false true d e f = refl
      by_tests true false false d e f = refl
      by_tests false b c d e f = absurd (cc)

  kept-not-lost : (id : ℕ) → kept_on id ≡ true → not_lost id ≡ true
  kept-not-lost id is = (and_parts (shown_first id) (not_lost id) is).1

  -- ---- voice states that are held go on being so
  voices-dropped : (y : OpenView) (channel : ℕ) → IsOrdered y → VoicesBy y → VoicesBy (drop_channel channel y)
  voices-dropped y channel order by user out =
      let others : Voice → Bool = λ z. not (z.channel == channel) in
      ap (keep_if (shows_voice kept_on)) (find-filter voice_id others user y.voices order.voices) ∙ still (find_id voice_id user y.voices) (by user out)
    where
      still : (o : Option Voice) → keep_if (shows_voice kept_on) o ≡ None → keep_if (shows_voice kept_on) (keep_if (λ z. not (z.channel == channel)) o) ≡ None
      still None e = refl
      still (Some z) e = by_test (not (z.channel == channel))
        where
          by_test : (b : Bool) → keep_if (shows_voice kept_on) (if b then Some z else None) ≡ None
          by_test true = e
          by_test false = refl

  voices-ended : (y : OpenView) (gone : ℕ) → VoicesBy y → VoicesBy (record y { voices = without_id voice_id gone y.voices })
  voices-ended y gone by user out = ap (keep_if (shows_voice kept_on)) (find-without voice_id gone user y.voices) ∙ by_test (gone == user)
    where
      by_test : (b : Bool) → keep_if (shows_voice kept_on) (if b then None else find_id voice_id user y.voices) ≡ None
      by_test true = refl
      by_test false = by user out

  voices-kept : (y : OpenView) (xs : List Voice) → xs ≡ y.voices → VoicesBy y → VoicesBy (record y { voices = xs })
  voices-kept y xs same by = subst (λ (zs : List Voice). VoicesBy (record y { voices = zs })) (sym same) by

  -- ---- threads that are held go on standing under them
  module _ (bot : ℕ) (y : OpenView) (under : AllUnder y) where
    abbrev StandsUnder : ThreadView → Type 0
    StandsUnder thread = shown_first thread.parent ≡ true

    pub under-members : (update : MembersUpdate) → AllUnder (update_members intents bot update y)
    under-members update =
        All-map StandsUnder (λ thread. if thread.id == update.id then members_updated intents bot update thread else thread) y.threads
        (All-weaker StandsUnder (λ thread. StandsUnder (if thread.id == update.id then members_updated intents bot update thread else thread)) same y.threads under)
      where
        same : (thread : ThreadView) → StandsUnder thread → StandsUnder (if thread.id == update.id then members_updated intents bot update thread else thread)
        same thread is = by_test (thread.id == update.id)
          where
            by_test : (b : Bool) → StandsUnder (if b then members_updated intents bot update thread else thread)
            by_test true = is
            by_test false = is

    pub under-created : (thread : ThreadView) → shown_first thread.parent ≡ true → All StandsUnder (put_id thread_view_id thread y.threads)
    under-created thread is = All-put thread_view_id StandsUnder thread y.threads is under

    pub under-dropped : (p : ThreadView → Bool) → All StandsUnder (filter p y.threads)
    under-dropped p = All-filter p StandsUnder y.threads under

  me-voices : (bot : ℕ) (m : Member) (w : OpenView) → (set_me bot m w).voices ≡ w.voices
  me-voices bot m w = by_test (m.user.id == bot)
    where
      by_test : (b : Bool) → (if b then record w { me = m } else w).voices ≡ w.voices
      by_test true = refl
      by_test false = refl

  me-threads : (bot : ℕ) (m : Member) (w : OpenView) → (set_me bot m w).threads ≡ w.threads
  me-threads bot m w = by_test (m.user.id == bot)
    where
      by_test : (b : Bool) → (if b then record w { me = m } else w).threads ≡ w.threads
      by_test true = refl
      by_test false = refl

  presence-same : (user : ℕ) (o : Option Presence) (y : OpenView) → ((set_presence user o y).voices ≡ y.voices) × ((set_presence user o y).threads ≡ y.threads)
  presence-same user None y = (refl, refl)
  presence-same user (Some p) y = (refl, refl)

  -- ---- dispatch by dispatch
  row-created : (p q : Held) (o : ChannelObject) → Alike p q → o.guild ≡ g → has_id channel_id o.id s.channels ≡ false
      → Alike (fold_from intents g p (told_shown x (ChannelCreate o))) (folded intents g q (ChannelCreate o))
  row-created p q o a of new = by_test (x.after o.id) refl
    where
      here : guild_of (ChannelCreate o) ≡ Some g
      here = ap (λ id. Some id) of

      by_test : (b : Bool) → x.after o.id ≡ b → Alike (fold_from intents g p (if b then ChannelCreate o ∷ [] else [])) (folded intents g q (ChannelCreate o))
      by_test true e = let is : kept_on o.id ≡ true = new-channel o.id new ∙ e in both p q (ChannelCreate o) a here refl refl (kept-not-lost o.id is) is a.voices a.under
      by_test false e =
          alone p q (ChannelCreate o) a here refl refl refl
          (unseen-created intents g kept_on q.bot a.all a.all_order (part-settled kept_on a.all a.all_order a.all_settled) o (new-channel o.id new ∙ e)) a.voices a.under

  row-updated : (p q : Held) (o : ChannelObject) → Alike p q → o.guild ≡ g → stands s t x o.id ≡ true
      → Alike (fold_from intents g p (told_shown x (ChannelUpdate o))) (folded intents g q (ChannelUpdate o))
  row-updated p q o a of there = by_test (x.before o.id && x.after o.id) refl
    where
      here : guild_of (ChannelUpdate o) ≡ Some g
      here = ap (λ id. Some id) of

      by_test : (b : Bool) → (x.before o.id && x.after o.id) ≡ b → Alike (fold_from intents g p (if b then ChannelUpdate o ∷ [] else [])) (folded intents g q (ChannelUpdate o))
      by_test true e = let is : kept_on o.id ≡ true = same-channel o.id there ∙ e in both p q (ChannelUpdate o) a here refl refl (kept-not-lost o.id is) is a.voices a.under
      by_test false e =
          alone p q (ChannelUpdate o) a here refl refl refl
          (unseen-updated intents g kept_on q.bot a.all a.all_order (part-settled kept_on a.all a.all_order a.all_settled) o (same-channel o.id there ∙ e)) a.voices a.under

  row-deleted : (p q : Held) (o : ChannelObject) → Alike p q → o.guild ≡ g → has_id channel_id o.id s.channels ≡ true → has_id channel_id o.id t.channels ≡ false
      → Alike (fold_from intents g p (told_shown x (ChannelDelete o))) (folded intents g q (ChannelDelete o))
  row-deleted p q o a of was gone = by_test (x.before o.id) refl
    where
      here : guild_of (ChannelDelete o) ≡ Some g
      here = ap (λ id. Some id) of

      voices : VoicesBy (drop_channel o.id a.all)
      voices = voices-dropped a.all o.id a.all_order a.voices

      under : AllUnder (drop_channel o.id a.all)
      under = under-dropped q.bot a.all a.under (λ thread. not (thread.parent == o.id))

      by_test : (b : Bool) → x.before o.id ≡ b → Alike (fold_from intents g p (if b then ChannelDelete o ∷ [] else [])) (folded intents g q (ChannelDelete o))
      by_test true e = both p q (ChannelDelete o) a here refl refl tt tt voices under
      by_test false e =
          alone p q (ChannelDelete o) a here refl refl refl
          (unseen-deleted intents g kept_on q.bot a.all a.all_order (part-settled kept_on a.all a.all_order a.all_settled) o (old-channel o.id was gone ∙ e)) voices under

  row-ended : (p q : Held) (u : VoiceUpdate) → Alike p q → u.guild ≡ g → u.voice.channel ≡ None
      → Alike (fold_from intents g p (told_shown x (VoiceStateUpdate u))) (folded intents g q (VoiceStateUpdate u))
  row-ended p q u a of ends =
      subst (λ (o : Option ℕ). Alike (fold_from intents g p (told_voice x u o)) (folded intents g q (VoiceStateUpdate u))) (sym ends) (by_test (x.in_voice u.voice.user) refl)
    where
      here : guild_of (VoiceStateUpdate u) ≡ Some g
      here = ap (λ id. Some id) of

      left : set_voice u.voice.user (voice_of u.voice) a.all ≡ record a.all { voices = without_id voice_id u.voice.user a.all.voices }
      left = ap (λ (o : Option ℕ). set_voice u.voice.user (option_map (voice_in u.voice) o) a.all) ends

      voices : VoicesBy (set_voice u.voice.user (voice_of u.voice) a.all)
      voices = subst (λ (w : OpenView). VoicesBy w) (sym left) (voices-ended a.all u.voice.user a.voices)

      under : AllUnder (set_voice u.voice.user (voice_of u.voice) a.all)
      under = subst (λ (w : OpenView). AllUnder w) (sym left) a.under

      by_test : (b : Bool) → x.in_voice u.voice.user ≡ b → Alike (fold_from intents g p (if b then VoiceStateUpdate u ∷ [] else [])) (folded intents g q (VoiceStateUpdate u))
      by_test true e = both p q (VoiceStateUpdate u) a here refl refl (λ c is. absurd (cc)) (λ c is. absurd (cc)) voices under
      by_test false e =
          alone p q (VoiceStateUpdate u) a here refl refl refl
          (unseen-moved intents g kept_on q.bot a.all a.all_order (part-settled kept_on a.all a.all_order a.all_settled) u (λ c is. absurd (cc)) (a.voices u.voice.user e)) voices under

  row-step : (p q : Held) (d : Dispatch) → Alike p q → IsOf g d → Fits d → Alike (fold_from intents g p (told_shown x d)) (folded intents g q d)
  row-step p q (Ready ready) a of fits = absurd fits
  row-step p q Resumed a of fits = absurd fits
  row-step p q (GuildCreate create) a of fits = absurd fits
  row-step p q (GuildDelete delete) a of fits = absurd fits
  row-step p q (ThreadUpdate thread) a of fits = absurd fits
  row-step p q (ThreadListSync sync) a of fits = absurd fits
  row-step p q (ChannelCreate o) a of fits = row-created p q o a (cc) fits
  row-step p q (ChannelUpdate o) a of fits = row-updated p q o a (cc) fits
  row-step p q (ChannelDelete o) a of fits = row-deleted p q o a (cc) fits.0 fits.1
  row-step p q (VoiceStateUpdate u) a of fits = row-ended p q u a (cc) fits
  row-step p q (ThreadCreate c) a of fits =
      both p q (ThreadCreate c) a of refl refl (kept-not-lost c.thread.parent fits) fits a.voices
      (under-created q.bot a.all a.under (thread_of intents (option_map thread_member_of c.member) c.thread) (and_parts (shown_first c.thread.parent) (not_lost c.thread.parent) fits).0)
  row-step p q (ThreadDelete delete) a of fits = both p q (ThreadDelete delete) a of refl refl tt tt a.voices (under-dropped q.bot a.all a.under (λ thread. not (thread.id == delete.id)))
  row-step p q (ThreadMembersUpdate update) a of fits = both p q (ThreadMembersUpdate update) a of refl refl tt tt a.voices (under-members q.bot a.all a.under update)
  row-step p q (GuildMemberUpdate member) a of fits =
      let w : OpenView = record a.all { members = listed intents guild_members (put_id member_id (member_of member.member) a.all.members) } in
      both p q (GuildMemberUpdate member) a of refl refl tt tt
      (subst (λ (zs : List Voice). (user : ℕ) → x.in_voice user ≡ false → keep_if (shows_voice kept_on) (find_id voice_id user zs) ≡ None) (sym (me-voices q.bot (member_of member.member) w)) a.voices)
      (subst (λ (ts : List ThreadView). All (λ (thread : ThreadView). shown_first thread.parent ≡ true) ts) (sym (me-threads q.bot (member_of member.member) w)) a.under)
  row-step p q (PresenceUpdate presence) a of fits =
      let same = presence-same presence.user (presence_of presence) a.all in
      both p q (PresenceUpdate presence) a of refl refl tt tt
      (subst (λ (zs : List Voice). (user : ℕ) → x.in_voice user ≡ false → keep_if (shows_voice kept_on) (find_id voice_id user zs) ≡ None) (sym same.0) a.voices)
      (subst (λ (ts : List ThreadView). All (λ (thread : ThreadView). shown_first thread.parent ≡ true) ts) (sym same.1) a.under)
  row-step p q d a of fits = both p q d a of refl refl tt tt a.voices a.under

  -- and so for all of them
  pub rows : (ds : List Dispatch) (p q : Held) → Alike p q → All (IsOf g) ds → All Fits ds → Alike (fold_from intents g p (flat_map (told_shown x) ds)) (fold_from intents g q ds)
  rows [] p q a of fits = a
  rows (d ∷ ds) p q a of fits =
      subst (λ (k : Held). Alike k (fold_from intents g (folded intents g q d) ds)) (sym (fold-append intents g p (told_shown x d) (flat_map (told_shown x) ds)))
      (rows ds (fold_from intents g p (told_shown x d)) (folded intents g q d) (row-step p q d a (All-head (IsOf g) d ds of) (All-head Fits d ds fits)) (All-tail (IsOf g) d ds of) (All-tail Fits d ds fits))
