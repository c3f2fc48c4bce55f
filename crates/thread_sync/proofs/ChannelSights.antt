-- What is worked out once a channel is what is seen.
use Rattle.std.proofs.Common.{◌≡◌, ℕ, Bool, true, false, not, ◌&&◌, ◌||◌, map, Option, Some, None, if◌then◌else◌, refl, sym, ap, ◌∙◌, arith, eq-eqb}
use Rattle.std.specs.Prelude.{◌==◌, filter, is_some, option_map}
use Rattle.std.specs.Option.{option_map_or}
use Rattle.std.proofs.lemmas.Bool.{eqb-true}
use Rattle.collections.specs.ById.{find_id, IsById, keep_if}
use Rattle.collections.proofs.Finds.{key-found, find-map, IsById-filter, IsById-map}
use Rattle.collections.proofs.Mapped.{map-after}
use Rattle.perm_bits.specs.Permissions.{view_channel, manage_threads}
use Rattle.guild_model.specs.declared.channel.Channel.{Channel}
use Rattle.guild_model.specs.declared.thread.Thread.{Thread}
use Rattle.guild_model.specs.Record.{channel_id}
use Rattle.guild_model.specs.Sight.{Standing, granted, sees, is_private, is_in}
use Rattle.overwrite_eval.proofs.Grants.{granted_missing}
use Rattle.dispatch_types.specs.Projection.{is_active}
use Rattle.thread_sync.specs.declared.channel_sight.ChannelSight.{ChannelSight}
use Rattle.thread_sync.specs.Shown.{shows}
use Rattle.thread_sync.specs.Seen.{shows_channel}
use Rattle.thread_sync.specs.ChannelSights.{sight_in, sight_id, is_seen, shows_under, sights, is_in_sight, shows_among}
use Rattle.thread_sync.proofs.Lists.{filter-map, find-kept}

module _ (s : Standing) where
  abbrev pub sight_at : Channel → ChannelSight
  sight_at c = sight_in s s.me.user.id c.id

  -- a thread is shown under a channel where it stands in it, is active and is seen
  pub under : (channel : ℕ) (t : Thread) → shows_under (sight_in s s.me.user.id channel) t ≡ (t.parent == channel && shows s t)
  under channel t = by_test (t.parent == channel) refl
    where
      elsewhere : (views active rest : Bool) → (views && (false && (active && rest))) ≡ false
      elsewhere views active rest = grind arith

      there : (views active private manages joined : Bool) → (views && (active && (not private || manages || joined))) ≡ (active && (views && (not private || joined || manages)))
      there views active private manages joined = grind arith

      by_test : (b : Bool) → (t.parent == channel) ≡ b
          → (sees s channel && (b && (is_active t && (not (is_private t.kind) || granted s channel manage_threads || is_in s.me.user.id t)))) ≡ (b && shows s t)
      by_test true is =
          there (sees s channel) (is_active t) (is_private t.kind) (granted s channel manage_threads) (is_in s.me.user.id t)
          ∙ ap (λ p. is_active t && (sees s p && (not (is_private t.kind) || is_in s.me.user.id t || granted s p manage_threads))) (sym (eqb-true t.parent channel is))
      by_test false is = elsewhere (sees s channel) (is_active t) (not (is_private t.kind) || granted s channel manage_threads || is_in s.me.user.id t)

  pub sights-ascend : IsById channel_id s.channels → IsById sight_id (sights s)
  sights-ascend ascends = IsById-filter sight_id is_seen (map sight_at s.channels) (IsById-map channel_id sight_id sight_at (λ c. refl) s.channels ascends)

  -- whether a channel is seen goes by its id
  found-sight : (id : ℕ) → find_id sight_id id (sights s) ≡ keep_if is_seen (option_map sight_at (find_id channel_id id s.channels))
  found-sight id =
      ap (find_id sight_id id) (filter-map sight_at is_seen s.channels)
      ∙ (find-map channel_id sight_id sight_at (λ c. refl) id (filter (λ (c : Channel). is_seen (sight_at c)) s.channels)
      ∙ (ap (option_map sight_at) (find-kept channel_id (λ (c : Channel). is_seen (sight_at c)) (sees s) (λ c. refl) id s.channels)
      ∙ by_case (find_id channel_id id s.channels)))
    where
      by_test : (c : Channel) (b : Bool) → option_map sight_at (if b then Some c else None) ≡ (if b then Some (sight_at c) else None)
      by_test c true = refl
      by_test c false = refl

      by_case : (o : Option Channel) → option_map sight_at (keep_if (λ (c : Channel). is_seen (sight_at c)) o) ≡ keep_if is_seen (option_map sight_at o)
      by_case None = refl
      by_case (Some c) = by_test c (sees s c.id)

  pub in-sight : (id : ℕ) → is_in_sight (sights s) id ≡ sees s id
  in-sight id = ap (λ o. is_some o) (found-sight id) ∙ by_case (find_id channel_id id s.channels) refl
    where
      by_test : (c : Channel) (b : Bool) → is_some (if b then Some (sight_at c) else None) ≡ b
      by_test c true = refl
      by_test c false = refl

      by_case : (o : Option Channel) → find_id channel_id id s.channels ≡ o → is_some (keep_if is_seen (option_map sight_at o)) ≡ sees s id
      by_case None none = sym (granted_missing s id view_channel none)
      by_case (Some c) there = by_test c (sees s c.id) ∙ ap (sees s) (key-found channel_id id s.channels c there)

  pub shown-among : (t : Thread) → shows_among (sights s) t ≡ shows s t
  shown-among t =
      ap (λ (o : Option ChannelSight). is_active t && option_map_or (λ (l : ChannelSight). shows_under l t) o false) (found-sight t.parent)
      ∙ by_case (find_id channel_id t.parent s.channels) refl
    where
      hidden : (active views rest : Bool) → views ≡ false → (active && false) ≡ (active && (views && rest))
      hidden active views rest e = grind arith

      twice : (active rest : Bool) → (active && (true && (active && rest))) ≡ (active && rest)
      twice active rest = grind arith

      by_sight : (c : Channel) (b : Bool) → c.id ≡ t.parent → sees s c.id ≡ b
          → (is_active t && option_map_or (λ (l : ChannelSight). shows_under l t) (if b then Some (sight_at c) else None) false) ≡ shows s t
      by_sight c true at is =
          ap (λ b. is_active t && b) (under c.id t ∙ ap (λ b. b && shows s t) (eq-eqb t.parent c.id (sym at)))
          ∙ twice (is_active t) (sees s t.parent && (not (is_private t.kind) || is_in s.me.user.id t || granted s t.parent manage_threads))
      by_sight c false at is =
          hidden (is_active t) (sees s t.parent) (not (is_private t.kind) || is_in s.me.user.id t || granted s t.parent manage_threads) (ap (sees s) (sym at) ∙ is)

      by_case : (o : Option Channel) → find_id channel_id t.parent s.channels ≡ o
          → (is_active t && option_map_or (λ (l : ChannelSight). shows_under l t) (keep_if is_seen (option_map sight_at o)) false) ≡ shows s t
      by_case None none =
          hidden (is_active t) (sees s t.parent) (not (is_private t.kind) || is_in s.me.user.id t || granted s t.parent manage_threads) (granted_missing s t.parent view_channel none)
      by_case (Some c) there = by_sight c (sees s c.id) (key-found channel_id t.parent s.channels c there) refl

  pub seen-channels : map sight_id (sights s) ≡ map channel_id (filter (shows_channel s) s.channels)
  seen-channels =
      ap (map sight_id) (filter-map sight_at is_seen s.channels)
      ∙ map-after sight_at sight_id channel_id (λ c. refl) (filter (shows_channel s) s.channels)
