-- A channel that is created or changed, and what a client then holds.
use Rattle.std.proofs.Common.{◌≡◌, ℕ, true, false, List, map, refl, sym, ap, ◌∙◌}
use Rattle.collections.specs.ById.{put_id, IsById}
use Rattle.perm_bits.specs.Bits.{has_bit}
use Rattle.intent_set.specs.Intents.{guilds}
use Rattle.guild_model.specs.declared.member.Member.{Member}
use Rattle.guild_model.specs.declared.channel.Channel.{Channel}
use Rattle.guild_model.specs.Record.{Record, channel_id, thread_id}
use Rattle.guild_model.specs.Ascending.{HasOrderedOverwrites}
use Rattle.dispatch_types.specs.declared.viewer.Viewer.{Viewer}
use Rattle.dispatch_types.specs.declared.view.ThreadView.{ThreadView}
use Rattle.dispatch_types.specs.declared.dispatch.Dispatch.TheVariants.{ChannelCreate, ChannelUpdate}
use Rattle.dispatch_types.specs.Objects.{channel_object}
use Rattle.dispatch_types.specs.Projection.{thread_view, open_view}
use Rattle.dispatch_types.specs.Fold.{Held, set_channel, fold_from}
use Rattle.dispatch_types.proofs.Objects.{channel-back}
use Rattle.dispatch_types.proofs.Folds.{folded-here}
use Rattle.thread_sync.specs.Sight.{KeepsGrants}
use Rattle.thread_sync.proofs.Sights.{same-sight}
use Rattle.event_views.specs.Asked.{asked}
use Rattle.event_views.specs.Has.{Has}
use Rattle.event_views.proofs.Steps.{same, whole, by_guilds}

-- the record with these channels
abbrev pub with_channels : Record → List Channel → Record
with_channels s cs = record s { channels = cs }

module _ (s : Record) (v : Viewer) (h : Held) (me : Member) (c : Channel) (cs : List Channel) (put : cs ≡ put_id channel_id c s.channels) (ordered : HasOrderedOverwrites c) where
  -- the channel as it is sent brings all of the view after it but the threads
  pub puts-channel : (known : List ℕ) → set_channel (channel_object s.id c) (open_view s v.intents known me) ≡ record (open_view (with_channels s cs) v.intents known me) { threads = (open_view s v.intents known me).threads }
  puts-channel known =
      ap (λ (x : Channel). record (open_view s v.intents known me) { channels = put_id channel_id x s.channels }) (channel-back s.id c ordered)
      ∙ ap (λ (xs : List Channel). record (open_view s v.intents known me) { channels = xs }) (sym put)

  -- where the bot is granted what it was, so are the threads that it sees
  module _ (ascends : IsById thread_id s.threads) (keeps : KeepsGrants s me (with_channels s cs) me) (asks : has_bit v.intents guilds ≡ true) where
    turns : set_channel (channel_object s.id c) (open_view s v.intents h.known me) ≡ open_view (with_channels s cs) v.intents h.known me
    turns =
        puts-channel h.known
        ∙ ap (λ (threads : List ThreadView). record (open_view (with_channels s cs) v.intents h.known me) { threads = threads })
        (ap (map (thread_view v.intents me.user.id)) (sym (same-sight s (with_channels s cs) me me ascends refl refl keeps)))

    pub follows-channel_put : Has s v me h → Has (with_channels s cs) v me (fold_from v.intents s.id h (asked v false (ChannelCreate (channel_object s.id c))))
    follows-channel_put has =
        by_guilds (with_channels s cs) v s.id h me false (ChannelCreate (channel_object s.id c)) asks refl
        (whole s (with_channels s cs) v h me me (ChannelCreate (channel_object s.id c)) (set_channel (channel_object s.id c)) same refl (folded-here v.intents s.id h (ChannelCreate (channel_object s.id c)) refl refl) turns has)

    pub follows-channel_changed : Has s v me h → Has (with_channels s cs) v me (fold_from v.intents s.id h (asked v false (ChannelUpdate (channel_object s.id c))))
    follows-channel_changed has =
        by_guilds (with_channels s cs) v s.id h me false (ChannelUpdate (channel_object s.id c)) asks refl
        (whole s (with_channels s cs) v h me me (ChannelUpdate (channel_object s.id c)) (set_channel (channel_object s.id c)) same refl (folded-here v.intents s.id h (ChannelUpdate (channel_object s.id c)) refl refl) turns has)
