-- The purge of the part that stands in some channels is that part of the purge.
use Rattle.std.proofs.Common.{◌≡◌, ℕ, Bool, true, not, ◌&&◌, ◌||◌, List, Option, Some, None, if◌then◌else◌, refl, sym, ap, ◌∙◌}
use Rattle.std.specs.Prelude.{filter, is_some}
use Rattle.collections.specs.ById.{find_id, keep_if, IsById}
use Rattle.collections.proofs.Finds.{key-found, find-filter, IsById-filter}
use Rattle.perm_bits.specs.Permissions.{view_channel, manage_threads}
use Rattle.guild_model.specs.declared.channel.Channel.{Channel}
use Rattle.guild_model.specs.Record.{channel_id, voice_id}
use Rattle.guild_model.specs.Sight.{Standing, granted, granted_in, is_private}
use Rattle.dispatch_types.specs.declared.view.OpenView.{OpenView}
use Rattle.dispatch_types.specs.declared.view.ThreadView.{ThreadView}
use Rattle.dispatch_types.specs.Fold.{thread_view_id, view_standing, view_sees, purged}
use Rattle.channel_privacy.proofs.Only.{shows_channel, shows_thread, only}
use Rattle.channel_privacy.proofs.Filters.{filter-either}

-- the lists of an open view ascend
pub record IsOrdered (v : OpenView) : Type 0 where
  pub channels : IsById channel_id v.channels
  pub voices : IsById voice_id v.voices
  pub threads : IsById thread_view_id v.threads

pub purged-order : (intents g : ℕ) (v : OpenView) → IsOrdered v → IsOrdered (purged intents g v)
purged-order intents g v order = record { channels = order.channels; voices = order.voices; threads = IsById-filter thread_view_id (view_sees intents g v) v.threads order.threads }

-- what is granted in a channel that is shown does not rest on those that are not
pub granted-shown : (shown : ℕ → Bool) (s : Standing) (channel b : ℕ) → IsById channel_id s.channels → shown channel ≡ true
    → granted (record s { channels = filter (shows_channel shown) s.channels }) channel b ≡ granted s channel b
unfolding granted
granted-shown shown s channel b order is =
    ap (granted_in s b) (find-filter channel_id (shows_channel shown) channel s.channels order ∙ kept (find_id channel_id channel s.channels) (λ c e. key-found channel_id channel s.channels c e))
  where
    kept : (o : Option Channel) → ((c : Channel) → o ≡ Some c → c.id ≡ channel) → keep_if (shows_channel shown) o ≡ o
    kept None at = refl
    kept (Some c) at = ap (λ b. if b then Some c else None) (ap shown (at c refl) ∙ is)

module _ (intents g : ℕ) (shown : ℕ → Bool) where
  sees-shown : (v : OpenView) (t : ThreadView) → IsById channel_id v.channels → shown t.parent ≡ true
      → view_sees intents g v t ≡ view_sees intents g (only shown v) t
  sees-shown v t order is =
      let views = granted-shown shown (view_standing intents g v) t.parent view_channel order is in
      let manages = granted-shown shown (view_standing intents g v) t.parent manage_threads order is in
      sym (ap (λ b. b && (not (is_private t.kind) || is_some t.mine || granted (view_standing intents g (only shown v)) t.parent manage_threads)) views
      ∙ ap (λ b. granted (view_standing intents g v) t.parent view_channel && (not (is_private t.kind) || is_some t.mine || b)) manages)

  pub purged-only : (v : OpenView) → IsOrdered v → only shown (purged intents g v) ≡ purged intents g (only shown v)
  purged-only v order =
      ap (λ (ts : List ThreadView). record (only shown v) { threads = ts })
      (filter-either (shows_thread shown) (view_sees intents g v) (view_sees intents g (only shown v)) (λ t is. sees-shown v t order.channels is) v.threads)
