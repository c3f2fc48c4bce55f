-- What is kept of the record before a change is enough for the sync after it.
use Rattle.std.proofs.Common.{◌≡◌, ℕ, Bool, true, false, not, ◌&&◌, ◌||◌, map, Some, refl, sym, ap, subst, ◌∙◌, arith, eq-eqb}
use Rattle.std.specs.Prelude.{◌==◌, option_map}
use Rattle.std.proofs.lemmas.Bool.{eqb-true}
use Rattle.std.proofs.lemmas.Bool.Decides.{nat_tests}
use Rattle.collections.specs.ById.{find_id, IsById}
use Rattle.collections.proofs.Finds.{key-found}
use Rattle.perm_bits.specs.Permissions.{view_channel}
use Rattle.guild_model.specs.declared.member.Member.{Member}
use Rattle.guild_model.specs.declared.thread.Thread.{Thread}
use Rattle.guild_model.specs.Record.{Record, channel_id, thread_id}
use Rattle.guild_model.specs.Consistent.{has_threads}
use Rattle.guild_model.specs.Ascending.{IsAscending}
use Rattle.guild_model.specs.Sight.{Standing, standing, granted, sees, is_private, is_in}
use Rattle.dispatch_types.specs.Projection.{is_active}
use Rattle.thread_sync.specs.ChannelSights.{sight_in, sight_of, sights, by_sight, by_sights}
use Rattle.thread_sync.specs.Shown.{Shown, shows, shown_to}
use Rattle.thread_sync.specs.Seen.{is_among, by_lists, visible_to}
use Rattle.thread_sync.specs.Sync.{is_new, uncovers, is_gained, gained_parents, listing_if_any}
use Rattle.thread_sync.specs.Law.{ListsAreEnough, SightsAreEnough, ChangesChannel, OneSightIsEnough}
use Rattle.thread_sync.proofs.Lists.{filter-alike, any-same}
use Rattle.thread_sync.proofs.ChannelSights.{under}
use Rattle.thread_sync.proofs.Grants.{overwrites_in, granted-channels}
use Rattle.thread_sync.proofs.Sights.{same-sees_in}
use Rattle.thread_sync.proofs.Saw.{among-seen, saw-thread}
use Rattle.thread_sync.proofs.Part.{IsPart, part-sync, alike-sync}
use Rattle.thread_sync.proofs.Steps.{sights-alike}

-- the sights of the channels
pub sights_are_enough : SightsAreEnough
sights_are_enough s t me me' =
    alike-sync (shown_to s me) (shown_to t me') (by_sights (sights (standing s me))) (shown_to t me') (sights-alike (standing s me)) (record { channel = λ id. refl; thread = λ t. refl }) t me'.user.id

-- the lists of what was seen
module _ (s t : Record) (me me' : Member) (before : IsAscending s) (threads : t.threads ≡ s.threads) where
  abbrev pub was : Shown
  was = by_lists (visible_to s me)

  abbrev pub past : Shown
  past = shown_to s me

  abbrev pub present : Shown
  present = shown_to t me'

  ascends : IsById thread_id t.threads
  ascends = subst (IsById thread_id) (sym threads) before.threads

  same-channel : (channel : ℕ) → was.channel channel ≡ past.channel channel
  same-channel channel = among-seen (standing s me) channel before.channels

  same-new : (id : ℕ) (x : Thread) → find_id thread_id id t.threads ≡ Some x → is_new was x ≡ is_new past x
  same-new id x found =
      let there : find_id thread_id id s.threads ≡ Some x = subst (λ ts. find_id thread_id id ts ≡ Some x) threads found in
      ap (λ b. is_private x.kind && not b) (ap (is_among (visible_to s me).threads) (key-found thread_id id s.threads x there) ∙ saw-thread s me id x before.threads there)

  same-uncovers : (channel : ℕ) → uncovers was present t.threads channel ≡ uncovers past present t.threads channel
  same-uncovers channel =
      any-same thread_id (λ (x : Thread). x.parent == channel && (present.thread x && is_new was x)) (λ (x : Thread). x.parent == channel && (present.thread x && is_new past x)) t.threads
      ascends (λ id x found. ap (λ b. x.parent == channel && (present.thread x && b)) (same-new id x found))

  gained-same : gained_parents was present t ≡ gained_parents past present t
  gained-same =
      ap (map channel_id)
      (filter-alike (is_gained was present (uncovers was present t.threads)) (is_gained past present (uncovers past present t.threads))
      (λ c. ap (λ b. has_threads c.kind && (present.channel c.id && (not b || uncovers was present t.threads c.id))) (same-channel c.id)
      ∙ ap (λ b. has_threads c.kind && (present.channel c.id && (not (past.channel c.id) || b))) (same-uncovers c.id)) t.channels)

pub lists_are_enough : ListsAreEnough
lists_are_enough s t me me' before threads = ap (listing_if_any (shown_to t me') t me'.user.id) (gained-same s t me me' before threads)

-- the sight of the one channel that changed
module _ (s t : Record) (me : Member) (channel : ℕ) (changes : ChangesChannel s t channel) where
  abbrev pub old : Standing
  old = standing s me

  abbrev pub new : Standing
  new = standing t me

  new-is : new ≡ record old { channels = t.channels }
  new-is = cc (changes.id, changes.owner, changes.roles)

  flip : (a b : ℕ) → (a == b) ≡ false → (b == a) ≡ false
  flip a b e = grind (arith, nat_tests)

  grants-elsewhere : (other b : ℕ) → (channel == other) ≡ false → granted new other b ≡ granted old other b
  grants-elsewhere other b apart = ap (λ u. granted u other b) new-is ∙ granted-channels old t.channels other b (ap (option_map overwrites_in) (changes.others other (flip channel other apart)))

  -- by its sight the channel is shown where it is seen, and so is a thread in it
  one-channel : (u : Standing) (id : ℕ) → (channel == id) ≡ true → (sees u channel && (channel == id)) ≡ sees u id
  one-channel u id here = and-true (sees u channel) (channel == id) here ∙ ap (sees u) (eqb-true channel id here)
    where
      and-true : (a b : Bool) → b ≡ true → (a && b) ≡ a
      and-true a b e = grind arith

  one-thread : (u : Standing) (x : Thread) → (channel == x.parent) ≡ true → (by_sight (sight_in u u.me.user.id channel)).thread x ≡ shows u x
  one-thread u x here = under u channel x ∙ ap (λ b. b && shows u x) (eq-eqb x.parent channel (sym (eqb-true channel x.parent here)))

  is-part : IsPart (λ (id : ℕ). channel == id) (shown_to s me) (shown_to t me) (by_sight (sight_of s me channel)) (by_sight (sight_of t me channel))
  is-part = record {
    channel_was = one-channel old;
    channel_is = one-channel new;
    thread_was = one-thread old;
    thread_is = one-thread new;
    no_channel = λ id out. and-false (sees new channel) (channel == id) out;
    old_channel = λ id out. stays (sees new id) (sees old id) (grants-elsewhere id view_channel out);
    old_thread = λ x out. stays-new (shows new x) (shows old x) (is_private x.kind)
        (ap (λ b. is_active x && b) (same-sees_in old new x.parent (λ b. grants-elsewhere x.parent b out) x.kind (is_in me.user.id x)));
  }
    where
      and-false : (a b : Bool) → b ≡ false → (a && b) ≡ false
      and-false a b e = grind arith

      stays : (a b : Bool) → a ≡ b → (a && not b) ≡ false
      stays a b e = grind arith

      stays-new : (a b private : Bool) → a ≡ b → (a && (private && not b)) ≡ false
      stays-new a b private e = grind arith

pub one_sight_is_enough : OneSightIsEnough
one_sight_is_enough s t me channel changes =
    part-sync (λ (id : ℕ). channel == id) (shown_to s me) (shown_to t me) (by_sight (sight_of s me channel)) (by_sight (sight_of t me channel)) (is-part s t me channel changes) t me.user.id
