-- What a client holds of the threads of a guild after a change of permissions.
use Rattle.std.specs.Prelude.{◌≡◌, ℕ, List, ◌==◌, false, Some, option_map, option_to_list}
use Rattle.collections.specs.ById.{find_id}
use Rattle.guild_model.specs.declared.member.Member.{Member}
use Rattle.guild_model.specs.declared.channel.Channel.{Channel}
use Rattle.guild_model.specs.declared.channel.ChannelKind.{ChannelKind}
use Rattle.guild_model.specs.Record.{Record, channel_id}
use Rattle.guild_model.specs.Ascending.{IsAscending, IsWell}
use Rattle.guild_model.specs.Sight.{standing}
use Rattle.dispatch_types.specs.declared.view.GuildView.TheVariants.{Open}
use Rattle.dispatch_types.specs.declared.view.OpenView.{OpenView}
use Rattle.dispatch_types.specs.Projection.{open_view}
use Rattle.dispatch_types.specs.Fold.{Held, purged, fold_from}
use Rattle.thread_sync.specs.Sight.{KeepsGrants}
use Rattle.thread_sync.specs.Shown.{shown_to}
use Rattle.thread_sync.specs.Seen.{by_lists, visible_to}
use Rattle.thread_sync.specs.Sync.{list_sync, uncovered_to}
use Rattle.thread_sync.specs.ChannelSights.{sight_of, sights, by_sight, by_sights}

-- one that is granted what it was, wherever threads stand, holds the threads that it held
abbrev pub ThreadsStay : Type 0
ThreadsStay = (s t : Record) (me me' : Member) (intents : ℕ) (known known' : List ℕ) → IsAscending s
    → t.threads ≡ s.threads → me'.user.id ≡ me.user.id
    → KeepsGrants s me t me' → (open_view t intents known' me').threads ≡ (open_view s intents known me).threads

abbrev pub kind_in : Channel → ChannelKind
kind_in c = c.kind

-- the same channels, of the same types, with the same threads: owner, roles, members and overwrites may be others
pub record ChangesRights (s t : Record) : Type 0 where
  pub id : t.id ≡ s.id
  pub channels : (channel : ℕ) → option_map kind_in (find_id channel_id channel t.channels)
      ≡ option_map kind_in (find_id channel_id channel s.channels)
  pub threads : t.threads ≡ s.threads

-- what a client has made of the plain event: all is as it is after the change, but the threads
abbrev pub told_plainly : Record → Member → Record → Member → ℕ → List ℕ → OpenView
told_plainly s me t me' intents known =
    record (open_view t intents known me') { threads = (open_view s intents known me).threads }

-- THE LAW OF PERMISSION CHANGES: the client's own losses and the gains of the sync, where there is one,
-- make up the whole difference. It holds what the bot then sees.
abbrev pub SyncRestores : Type 0
SyncRestores = (s t : Record) (me me' : Member) (intents : ℕ) (h : Held) → IsWell s → ChangesRights s t
    → me'.user.id ≡ me.user.id
    → h.view ≡ Some (Open (purged intents t.id (told_plainly s me t me' intents h.known)))
    → fold_from intents t.id h (option_to_list (uncovered_to (shown_to s me) t me'))
    ≡ record h { view = Some (Open (open_view t intents h.known me')) }

-- ---- what has to be kept of the record before a change, for the sync after it

-- the lists of what was seen are enough, where the threads are as they were
abbrev pub ListsAreEnough : Type 0
ListsAreEnough = (s t : Record) (me me' : Member) → IsAscending s → t.threads ≡ s.threads
    → uncovered_to (by_lists (visible_to s me)) t me' ≡ uncovered_to (shown_to s me) t me'

-- the sights of the channels are enough after any change
abbrev pub SightsAreEnough : Type 0
SightsAreEnough = (s t : Record) (me me' : Member)
    → uncovered_to (by_sights (sights (standing s me))) t me' ≡ uncovered_to (shown_to s me) t me'

-- records in which a member's sight may differ in one channel alone, as after an edit of its overwrites
pub record ChangesChannel (s t : Record) (channel : ℕ) : Type 0 where
  pub id : t.id ≡ s.id
  pub owner : t.owner ≡ s.owner
  pub roles : t.roles ≡ s.roles
  pub others : (other : ℕ) → (other == channel) ≡ false
      → find_id channel_id other t.channels ≡ find_id channel_id other s.channels

-- then the sight of that channel before, and the one after, are enough
abbrev pub OneSightIsEnough : Type 0
OneSightIsEnough = (s t : Record) (me : Member) (channel : ℕ) → ChangesChannel s t channel
    → list_sync (by_sight (sight_of s me channel)) (by_sight (sight_of t me channel)) t me.user.id
    ≡ uncovered_to (shown_to s me) t me
