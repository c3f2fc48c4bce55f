-- Whom a dispatch about a channel or a thread is shown (Gateway, Gateway Intents; Permissions,
-- VIEW_CHANNEL; Threads, Private Threads).
use Rattle.std.specs.Prelude.{ℕ, Bool, false, ◌&&◌, ◌||◌}
use Rattle.intent_set.specs.declared.kind.Kind.{Kind}
use Rattle.intent_set.specs.Asks.{asks}
use Rattle.guild_model.specs.Record.{Record}
use Rattle.guild_model.specs.Sight.{sees_channel, sees_thread}
use Rattle.dispatch_types.specs.declared.viewer.Viewer.{Viewer}
use Rattle.dispatch_types.specs.Serves.{serves}

-- a channel, or a thread by its own sight
abbrev pub sees_channel_or_thread : Record → ℕ → ℕ → Bool
sees_channel_or_thread s user channel = sees_channel s user channel || sees_thread s user channel

-- the viewer is served, asks for the kind, and sees the channel, all by this record
unfoldable pub shows : Record → Viewer → ℕ → Kind → Bool
shows s v channel kind = serves v s && (asks v.intents kind false && sees_channel_or_thread s v.user channel)
