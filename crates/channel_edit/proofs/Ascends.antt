-- The lists of a record still ascend after each edit of channels.
use Rattle.std.proofs.Common.{◌≡◌, ℕ, Bool, true, false, not, Option, Some, None, refl}
use Rattle.std.specs.Prelude.{◌==◌, filter}
use Rattle.std.proofs.lemmas.List.Elements.{All-filter, All-map, All-weaker}
use Rattle.collections.specs.ById.{find_id, IsById}
use Rattle.collections.proofs.Ids.{IsById-put, IsById-changed}
use Rattle.collections.proofs.Finds.{IsById-filter, IsById-map, IsById-without}
use Rattle.collections.proofs.Has.{All-found, All-put, All-changed}
use Rattle.guild_model.specs.declared.channel.Channel.{Channel}
use Rattle.guild_model.specs.declared.channel.Overwrite.{Overwrite}
use Rattle.guild_model.specs.declared.channel.Overwrites.{Overwrites}
use Rattle.guild_model.specs.declared.channel.OverwriteKind.{OverwriteKind}
use Rattle.guild_model.specs.declared.channel.OverwriteKind.TheVariants.{Role, Member}
use Rattle.guild_model.specs.Record.{Record, overwrite_id, channel_id, thread_id, voice_id}
use Rattle.guild_model.specs.Ascending.{IsAscending, HasOrderedOverwrites, HasInOrder}
use Rattle.guild_model.proofs.Recent.{recent_left}
use Rattle.channel_edit.specs.declared.channel_create.ChannelCreate.{ChannelCreate}
use Rattle.channel_edit.specs.declared.channel_update.ChannelUpdate.{ChannelUpdate}
use Rattle.channel_edit.specs.declared.overwrite_set.OverwriteSet.{OverwriteSet}
use Rattle.channel_edit.specs.declared.overwrite_delete.OverwriteDelete.{OverwriteDelete}
use Rattle.channel_edit.specs.Channels.{first_overwrites, overwrites_there, new_channel, channel_created, with_settings, with_channel_changed, channel_updated}
use Rattle.channel_edit.specs.ChannelEnd.{orphaned, is_outside, speaks_outside, stands_outside, channel_deleted}
use Rattle.channel_edit.specs.OverwriteEdits.{with_overwrite, overwrite_of, overwrite_was_set, without_overwrite, overwrite_deleted}

-- overwrites in the order of their ids
record InOrder (os : Overwrites) : Type 0 where
  roles : IsById overwrite_id os.roles
  members : IsById overwrite_id os.members

module _ (g : Record) (a : IsAscending g) where
  ordered_there : (o : Option Channel) → ((c : Channel) → o ≡ Some c → HasOrderedOverwrites c) → InOrder (overwrites_there o)
  ordered_there None h = record { roles = tt; members = tt }
  ordered_there (Some c) h = let o = h c refl in record { roles = o.roles; members = o.members }

  ordered_first : (parent : Option ℕ) (sync : Bool) → InOrder (first_overwrites g parent sync)
  ordered_first None sync = record { roles = tt; members = tt }
  ordered_first (Some parent) false = record { roles = tt; members = tt }
  ordered_first (Some parent) true =
      ordered_there (find_id channel_id parent g.channels) (λ c found. All-found channel_id HasOrderedOverwrites parent g.channels c a.overwrites found)

  pub channel_came : (edit : ChannelCreate) → IsAscending (channel_created g edit)
  channel_came edit =
      let n : Channel = new_channel g edit in
      let first : InOrder (first_overwrites g edit.parent edit.sync) = ordered_first edit.parent edit.sync in
      let ordered : HasOrderedOverwrites n = record { roles = first.roles; members = first.members } in
      record {
        roles = a.roles;
        members = a.members;
        channels = IsById-put channel_id n g.channels a.channels;
        threads = a.threads;
        voices = a.voices;
        presences = a.presences;
        held = a.held;
        overwrites = All-put channel_id HasOrderedOverwrites n g.channels ordered a.overwrites;
        joined = a.joined;
        messages = a.messages;
      }

  pub channel_changed : (at : ℕ) (f : Channel → Channel) → ((c : Channel) → channel_id (f c) ≡ channel_id c) → ((c : Channel) → HasOrderedOverwrites c → HasOrderedOverwrites (f c)) → IsAscending (with_channel_changed g at f)
  channel_changed at f same keeps = record {
    roles = a.roles;
    members = a.members;
    channels = IsById-changed channel_id at f g.channels same a.channels;
    threads = a.threads;
    voices = a.voices;
    presences = a.presences;
    held = a.held;
    overwrites = All-changed channel_id HasOrderedOverwrites at f g.channels keeps a.overwrites;
    joined = a.joined;
    messages = a.messages;
  }

  pub updated : (edit : ChannelUpdate) → IsAscending (channel_updated g edit)
  updated edit =
      channel_changed edit.channel (with_settings edit) (λ c. refl) (λ c o. record { roles = o.roles; members = o.members })

  ordered_put : (kind : OverwriteKind) (w : Overwrite) (c : Channel) → HasOrderedOverwrites c → HasOrderedOverwrites (with_overwrite kind w c)
  ordered_put Role w c o = record { roles = IsById-put overwrite_id w c.overwrites.roles o.roles; members = o.members }
  ordered_put Member w c o = record { roles = o.roles; members = IsById-put overwrite_id w c.overwrites.members o.members }

  pub overwrite_set : (edit : OverwriteSet) → IsAscending (overwrite_was_set g edit)
  overwrite_set edit =
      channel_changed edit.channel (with_overwrite edit.kind (overwrite_of edit)) (λ c. refl) (ordered_put edit.kind (overwrite_of edit))

  ordered_left : (kind : OverwriteKind) (id : ℕ) (c : Channel) → HasOrderedOverwrites c → HasOrderedOverwrites (without_overwrite kind id c)
  ordered_left Role id c o = record { roles = IsById-without overwrite_id id c.overwrites.roles o.roles; members = o.members }
  ordered_left Member id c o = record { roles = o.roles; members = IsById-without overwrite_id id c.overwrites.members o.members }

  pub overwrite_gone : (edit : OverwriteDelete) → IsAscending (overwrite_deleted g edit)
  overwrite_gone edit = channel_changed edit.channel (without_overwrite edit.kind edit.id) (λ c. refl) (ordered_left edit.kind edit.id)

  pub channel_gone : (channel : ℕ) → IsAscending (channel_deleted g channel)
  channel_gone channel =
      let others : Channel → Bool = λ c. not (channel_id c == channel) in
      record {
        roles = a.roles;
        members = a.members;
        channels = IsById-map channel_id channel_id (orphaned channel) (λ c. refl) (filter others g.channels) (IsById-filter channel_id others g.channels a.channels);
        threads = IsById-filter thread_id (is_outside channel) g.threads a.threads;
        voices = IsById-filter voice_id (speaks_outside channel) g.voices a.voices;
        presences = a.presences;
        held = a.held;
        overwrites = All-map HasOrderedOverwrites (orphaned channel) (filter others g.channels)
            (All-weaker HasOrderedOverwrites (λ c. HasOrderedOverwrites (orphaned channel c)) (λ c o. record { roles = o.roles; members = o.members }) (filter others g.channels)
            (All-filter others HasOrderedOverwrites g.channels a.overwrites));
        joined = All-filter (is_outside channel) HasInOrder g.threads a.joined;
        messages = recent_left (stands_outside g.threads channel) g.messages a.messages;
      }
