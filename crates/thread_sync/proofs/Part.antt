-- A sync that looks at a part of the channels is the sync that looks at all, where nothing is gained elsewhere.
use Rattle.std.proofs.Common.{◌≡◌, ℕ, Bool, true, false, not, ◌&&◌, ◌||◌, List, [], ◌∷◌, map, Some, None, refl, sym, ap, ◌∙◌, arith}
use Rattle.std.specs.Prelude.{◌==◌}
use Rattle.std.proofs.lemmas.Bool.{eqb-true}
use Rattle.guild_model.specs.declared.channel.Channel.{Channel}
use Rattle.guild_model.specs.declared.thread.Thread.{Thread}
use Rattle.guild_model.specs.Record.{Record, channel_id}
use Rattle.guild_model.specs.Consistent.{has_threads}
use Rattle.guild_model.specs.Sight.{is_private}
use Rattle.thread_sync.specs.Seen.{is_among}
use Rattle.thread_sync.specs.Shown.{Shown}
use Rattle.thread_sync.specs.Sync.{is_new, uncovers, is_gained, gained_parents, listing, listing_if_any, list_sync}
use Rattle.thread_sync.proofs.Lists.{filter-alike, any-alike, any-nothing, filter-nothing, among-passed}

-- in the part all is as in the whole; elsewhere the part shows nothing, and the whole nothing new
pub record IsPart (part : ℕ → Bool) (before now was is : Shown) : Type 0 where
  pub channel_was : (id : ℕ) → part id ≡ true → was.channel id ≡ before.channel id
  pub channel_is : (id : ℕ) → part id ≡ true → is.channel id ≡ now.channel id
  pub thread_was : (t : Thread) → part t.parent ≡ true → was.thread t ≡ before.thread t
  pub thread_is : (t : Thread) → part t.parent ≡ true → is.thread t ≡ now.thread t
  pub no_channel : (id : ℕ) → part id ≡ false → is.channel id ≡ false
  pub old_channel : (id : ℕ) → part id ≡ false → (now.channel id && not (before.channel id)) ≡ false
  pub old_thread : (t : Thread) → part t.parent ≡ false → (now.thread t && is_new before t) ≡ false

module _ (part : ℕ → Bool) (before now was is : Shown) (p : IsPart part before now was is) (s : Record) where
  same-uncovers : (id : ℕ) → part id ≡ true → uncovers was is s.threads id ≡ uncovers before now s.threads id
  same-uncovers id in_part =
      any-alike (λ (t : Thread). t.parent == id && (is.thread t && is_new was t)) (λ (t : Thread). t.parent == id && (now.thread t && is_new before t)) (λ t. by_test t (t.parent == id) refl) s.threads
    where
      by_test : (t : Thread) (b : Bool) → (t.parent == id) ≡ b → (b && (is.thread t && is_new was t)) ≡ (b && (now.thread t && is_new before t))
      by_test t true at =
          let here : part t.parent ≡ true = ap part (eqb-true t.parent id at) ∙ in_part in
          ap (λ b. b && is_new was t) (p.thread_is t here) ∙ ap (λ b. now.thread t && (is_private t.kind && not b)) (p.thread_was t here)
      by_test t false at = refl

  none-uncovers : (id : ℕ) → part id ≡ false → uncovers before now s.threads id ≡ false
  none-uncovers id out = any-nothing (λ (t : Thread). t.parent == id && (now.thread t && is_new before t)) (λ t. by_test t (t.parent == id) refl) s.threads
    where
      by_test : (t : Thread) (b : Bool) → (t.parent == id) ≡ b → (b && (now.thread t && is_new before t)) ≡ false
      by_test t true at = p.old_thread t (ap part (eqb-true t.parent id at) ∙ out)
      by_test t false at = refl

  same-gained : (c : Channel) → is_gained was is (uncovers was is s.threads) c ≡ is_gained before now (uncovers before now s.threads) c
  same-gained c = by_part (part c.id) refl
    where
      gains : Bool → Bool → Bool → Bool
      gains shows saw uncovered = has_threads c.kind && (shows && (not saw || uncovered))

      neither : (threads shows saw uncovered new : Bool) → (shows && not saw) ≡ false → new ≡ false → (threads && (false && uncovered)) ≡ (threads && (shows && (not saw || new)))
      neither threads shows saw uncovered new e k = grind arith

      by_part : (b : Bool) → part c.id ≡ b → is_gained was is (uncovers was is s.threads) c ≡ is_gained before now (uncovers before now s.threads) c
      by_part true here =
          ap (λ b. gains b (was.channel c.id) (uncovers was is s.threads c.id)) (p.channel_is c.id here)
          ∙ (ap (λ b. gains (now.channel c.id) b (uncovers was is s.threads c.id)) (p.channel_was c.id here)
          ∙ ap (λ b. gains (now.channel c.id) (before.channel c.id) b) (same-uncovers c.id here))
      by_part false out =
          ap (λ b. gains b (was.channel c.id) (uncovers was is s.threads c.id)) (p.no_channel c.id out)
          ∙ neither (has_threads c.kind) (now.channel c.id) (before.channel c.id) (not (was.channel c.id) || uncovers was is s.threads c.id) (uncovers before now s.threads c.id)
          (p.old_channel c.id out) (none-uncovers c.id out)

  pub gained-same : gained_parents was is s ≡ gained_parents before now s
  gained-same =
      ap (map channel_id)
      (filter-alike (is_gained was is (uncovers was is s.threads)) (is_gained before now (uncovers before now s.threads)) same-gained s.channels)

  -- a parent that is gained lies in the part
  in-part : (id : ℕ) → is_among (gained_parents was is s) id ≡ true → part id ≡ true
  in-part id among = by_part (part id) refl
    where
      gained : (c : Channel) × (channel_id c ≡ id) × (is_gained was is (uncovers was is s.threads) c ≡ true)
      gained = among-passed channel_id (is_gained was is (uncovers was is s.threads)) id s.channels among

      is-shown : (threads shows old : Bool) → (threads && (shows && old)) ≡ true → shows ≡ true
      is-shown threads shows old e = grind arith

      shown : is.channel id ≡ true
      shown =
          ap is.channel (sym gained.1)
          ∙ is-shown (has_threads gained.0.kind) (is.channel gained.0.id) (not (was.channel gained.0.id) || uncovers was is s.threads gained.0.id) gained.2

      by_part : (b : Bool) → part id ≡ b → b ≡ true
      by_part true here = refl
      by_part false out = sym (p.no_channel id out) ∙ shown

  listing-same : (user : ℕ) (ps : List ℕ) → gained_parents was is s ≡ ps → listing_if_any is s user ps ≡ listing_if_any now s user ps
  listing-same user [] e = refl
  listing-same user (q ∷ qs) e =
      ap (λ (ts : List Thread). Some (listing s.id user (q ∷ qs) ts))
      (filter-alike (λ (t : Thread). is_among (q ∷ qs) t.parent && is.thread t) (λ (t : Thread). is_among (q ∷ qs) t.parent && now.thread t) (λ t. by_test t (is_among (q ∷ qs) t.parent) refl) s.threads)
    where
      by_test : (t : Thread) (b : Bool) → is_among (q ∷ qs) t.parent ≡ b → (b && is.thread t) ≡ (b && now.thread t)
      by_test t true among = p.thread_is t (in-part t.parent (ap (λ ps. is_among ps t.parent) e ∙ among))
      by_test t false among = refl

  pub part-sync : (user : ℕ) → list_sync was is s user ≡ list_sync before now s user
  part-sync user = listing-same user (gained_parents was is s) refl ∙ ap (listing_if_any now s user) gained-same

-- what shows the same channels and threads
pub record AreAlike (a b : Shown) : Type 0 where
  pub channel : (id : ℕ) → a.channel id ≡ b.channel id
  pub thread : (t : Thread) → a.thread t ≡ b.thread t

pub alike-sync : (before now was is : Shown) → AreAlike was before → AreAlike is now → (s : Record) (user : ℕ) → list_sync was is s user ≡ list_sync before now s user
alike-sync before now was is a b =
    part-sync (λ id. true) before now was is
    (record {
      channel_was = λ id here. a.channel id;
      channel_is = λ id here. b.channel id;
      thread_was = λ t here. a.thread t;
      thread_is = λ t here. b.thread t;
      no_channel = λ id out. absurd (cc);
      old_channel = λ id out. absurd (cc);
      old_thread = λ t out. absurd (cc);
    })

-- nothing is gained where all that is shown was shown before
module _ (before now : Shown) (channels : (id : ℕ) → (now.channel id && not (before.channel id)) ≡ false) (threads : (t : Thread) → (now.thread t && is_new before t) ≡ false) (s : Record) where
  nothing-new : (id : ℕ) → uncovers before now s.threads id ≡ false
  nothing-new id = any-nothing (λ (t : Thread). t.parent == id && (now.thread t && is_new before t)) (λ t. by_test t (t.parent == id)) s.threads
    where
      by_test : (t : Thread) (b : Bool) → (b && (now.thread t && is_new before t)) ≡ false
      by_test t true = threads t
      by_test t false = refl

  nothing-gained : (c : Channel) → is_gained before now (uncovers before now s.threads) c ≡ false
  nothing-gained c = out (has_threads c.kind) (now.channel c.id) (before.channel c.id) (uncovers before now s.threads c.id) (channels c.id) (nothing-new c.id)
    where
      out : (threads shows saw new : Bool) → (shows && not saw) ≡ false → new ≡ false → (threads && (shows && (not saw || new))) ≡ false
      out threads shows saw new e k = grind arith

  pub none-gained : (user : ℕ) → list_sync before now s user ≡ None
  none-gained user = ap (listing_if_any now s user) (ap (map channel_id) (filter-nothing (is_gained before now (uncovers before now s.threads)) nothing-gained s.channels))
