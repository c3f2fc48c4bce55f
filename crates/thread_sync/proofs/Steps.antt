-- What the steps of the code make of lists.
use Rattle.std.proofs.Common.{◌≡◌, ◌<◌, ◌+◌, ℕ, Bool, true, false, not, ◌&&◌, ◌||◌, List, [], ◌∷◌, ◌++◌, map, take, length, get_or, Option, Some, None, refl, sym, ap, ◌∙◌, arith}
use Rattle.std.specs.Prelude.{◌==◌, filter, cond, is_some}
use Rattle.std.specs.List.{list_any, filter_map, cons_option}
use Rattle.std.proofs.lemmas.List.{map-append, take_more}
use Rattle.std.proofs.lemmas.List.Elements.{filter_map-append}
use Rattle.std.proofs.lemmas.List.Folds.{list_any_more}
use Rattle.std.proofs.lemmas.Bool.Decides.{nat_tests}
use Rattle.collections.specs.ById.{put_id}
use Rattle.collections.proofs.Has.{has-put}
use Rattle.guild_model.specs.declared.member.Member.{Member}
use Rattle.guild_model.specs.declared.channel.Channel.{Channel}
use Rattle.guild_model.specs.declared.thread.Thread.{Thread}
use Rattle.guild_model.specs.Record.{Record, own_id, channel_id, thread_id}
use Rattle.guild_model.specs.Consistent.{has_threads}
use Rattle.guild_model.specs.Sight.{Standing, standing}
use Rattle.dispatch_types.specs.Projection.{seen_threads}
use Rattle.thread_sync.specs.ChannelSights.{sight_id, sights, shows_among, by_sights}
use Rattle.thread_sync.specs.Shown.{Shown, shows, by_standing, shown_to}
use Rattle.thread_sync.specs.Seen.{is_among, shows_channel, visible_to}
use Rattle.thread_sync.specs.Sync.{uncovers, is_gained, gained_parents, threads_in, listing, listing_if_any, list_sync}
use Rattle.thread_sync.proofs.Lists.{filter-alike}
use Rattle.thread_sync.proofs.ChannelSights.{in-sight, shown-among, seen-channels}
use Rattle.thread_sync.proofs.Part.{AreAlike, alike-sync}

-- there is a thread in a channel that is shown, and it is new
abbrev uncovers_new : (Thread → Bool) → (Thread → Bool) → List Thread → ℕ → Bool
uncovers_new new shown threads channel = list_any (λ (t : Thread). t.parent == channel && (shown t && new t)) threads

-- one more thread, which is uncovered or not
uncovers-more : (new shown : Thread → Bool) (xs : List Thread) (i id : ℕ) (x : Thread) → i < length xs → get_or xs i x ≡ x
    → uncovers_new new shown (take (i + 1) xs) id ≡ (uncovers_new new shown (take i xs) id || ((x.parent == id) && (shown x && new x)))
uncovers-more new shown xs i id x lt here =
    list_any_more (λ (t : Thread). t.parent == id && (shown t && new t)) xs i x lt
    ∙ ap (λ (t : Thread). uncovers_new new shown (take i xs) id || ((t.parent == id) && (shown t && new t))) here

module _ (new shown : Thread → Bool) (xs : List Thread) (i id : ℕ) (x : Thread) (lt : i < length xs) (is_x : get_or xs i x ≡ x) (parents : List ℕ) (invariant : is_among parents id ≡ uncovers_new new shown (take i xs) id) where
  pub uncovers-one : (shown x && new x) ≡ true → is_among (put_id own_id x.parent parents) id ≡ uncovers_new new shown (take (i + 1) xs) id
  uncovers-one is =
      has-put own_id x.parent id parents ∙ (ap (λ b. (x.parent == id) || b) invariant
      ∙ (adds (x.parent == id) (uncovers_new new shown (take i xs) id) (shown x) (new x) is ∙ sym (uncovers-more new shown xs i id x lt is_x)))
    where
      adds : (at some here fresh : Bool) → (here && fresh) ≡ true → (at || some) ≡ (some || (at && (here && fresh)))
      adds at some here fresh e = grind arith

  pub uncovers-none : (shown x && new x) ≡ false → is_among parents id ≡ uncovers_new new shown (take (i + 1) xs) id
  uncovers-none is = invariant ∙ (leaves (x.parent == id) (uncovers_new new shown (take i xs) id) (shown x) (new x) is ∙ sym (uncovers-more new shown xs i id x lt is_x))
    where
      leaves : (at some here fresh : Bool) → (here && fresh) ≡ false → some ≡ (some || (at && (here && fresh)))
      leaves at some here fresh e = grind arith

-- one more item that has a part, or has none
pub parts-more : {X T M : Type 0} (part : T → Option M) (f : X → T) (xs : List X) (i : ℕ) (x : X) → i < length xs → get_or xs i x ≡ x
    → filter_map part (map f (take (i + 1) xs)) ≡ filter_map part (map f (take i xs)) ++ cons_option (part (f x)) []
parts-more part f xs i x lt here =
    ap (λ ys. filter_map part (map f ys)) (take_more xs i x lt)
    ∙ (ap (filter_map part) (map-append f (take i xs) (get_or xs i x ∷ []))
    ∙ (filter_map-append part (map f (take i xs)) (f (get_or xs i x) ∷ [])
    ∙ ap (λ y. filter_map part (map f (take i xs)) ++ cons_option (part (f y)) []) here))

-- what is seen, worked out by the sights of the channels
module _ (g : Record) (me : Member) where
  abbrev pub stand : Standing
  stand = standing g me

  shown-threads : filter (shows_among (sights stand)) g.threads ≡ seen_threads g me
  shown-threads = filter-alike (shows_among (sights stand)) (shows stand) (shown-among stand) g.threads

  pub visible-parts : (channels threads : List ℕ) → channels ≡ map sight_id (sights stand) → threads ≡ map thread_id (filter (shows_among (sights stand)) g.threads)
      → record { channels = channels; threads = threads } ≡ visible_to g me
  visible-parts channels threads is_channels is_threads =
      ap (λ ids. record { channels = ids; threads = threads }) (is_channels ∙ seen-channels stand)
      ∙ ap (λ ids. record { channels = map channel_id (filter (shows_channel stand) g.channels); threads = ids }) (is_threads ∙ ap (map thread_id) shown-threads)

-- the sights of all channels that are seen show what is seen
pub sights-alike : (s : Standing) → AreAlike (by_sights (sights s)) (by_standing s)
sights-alike s = record { channel = in-sight s; thread = shown-among s }

pub sights-sync : (before : Shown) (g : Record) (me : Member) → list_sync before (by_sights (sights (standing g me))) g me.user.id ≡ list_sync before (shown_to g me) g me.user.id
sights-sync before g me = alike-sync before (shown_to g me) before (by_sights (sights (standing g me))) (record { channel = λ id. refl; thread = λ t. refl }) (sights-alike (standing g me)) g me.user.id

-- the sync from the parents that the code found
module _ (before now : Shown) (g : Record) (user : ℕ) (uncovered gained : List ℕ) (is_uncovered : (id : ℕ) → is_among uncovered id ≡ uncovers before now g.threads id)
    (is_gained_by : gained ≡ map channel_id (filter (is_gained before now (is_among uncovered)) g.channels)) where
  gained-all : gained ≡ gained_parents before now g
  gained-all =
      is_gained_by
      ∙ ap (map channel_id) (filter-alike (is_gained before now (is_among uncovered)) (is_gained before now (uncovers before now g.threads))
      (λ c. ap (λ b. has_threads c.kind && (now.channel c.id && (not (before.channel c.id) || b))) (is_uncovered c.id)) g.channels)

  pub none-listed : (length gained == 0) ≡ true → None ≡ list_sync before now g user
  none-listed none = by_parents gained none ∙ ap (listing_if_any now g user) gained-all
    where
      by_parents : (parents : List ℕ) → (length parents == 0) ≡ true → None ≡ listing_if_any now g user parents
      by_parents [] e = refl
      by_parents (p ∷ ps) e = grind (arith, nat_tests)

  pub some-listed : (length gained == 0) ≡ false → Some (listing g.id user gained (threads_in now gained g.threads)) ≡ list_sync before now g user
  some-listed some = by_parents gained some ∙ ap (listing_if_any now g user) gained-all
    where
      by_parents : (parents : List ℕ) → (length parents == 0) ≡ false → Some (listing g.id user parents (threads_in now parents g.threads)) ≡ listing_if_any now g user parents
      by_parents [] e = absurd (cc)
      by_parents (p ∷ ps) e = refl

-- there is a sync exactly if some parent is gained
pub is_some-sync : (before now : Shown) (g : Record) (user : ℕ) → is_some (list_sync before now g user) ≡ list_any (is_gained before now (uncovers before now g.threads)) g.channels
is_some-sync before now g user = by_channels g.channels
  where
    gained : Channel → Bool
    gained c = is_gained before now (uncovers before now g.threads) c

    by_test : (c : Channel) (cs : List Channel) (b : Bool) → is_some (listing_if_any now g user (map channel_id (filter gained cs))) ≡ list_any gained cs
        → is_some (listing_if_any now g user (map channel_id (cond b (c ∷ filter gained cs) (filter gained cs)))) ≡ (b || list_any gained cs)
    by_test c cs true rest = refl
    by_test c cs false rest = rest

    by_channels : (cs : List Channel) → is_some (listing_if_any now g user (map channel_id (filter gained cs))) ≡ list_any gained cs
    by_channels [] = refl
    by_channels (c ∷ cs) = by_test c cs (gained c) (by_channels cs)
