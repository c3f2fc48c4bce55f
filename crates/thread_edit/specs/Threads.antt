-- Threads that are created, changed and deleted (Channels Resource, Start Thread without Message; Threads,
-- Active & Archived Threads).
use Rattle.std.specs.Prelude.{ℕ, ◌==◌, length, List, [], ◌∷◌, filter, Bool, true, false, not, ◌||◌, Option, Some, None}
use Rattle.std.specs.List.{count_by}
use Rattle.std.specs.Option.{option_map_or}
use Rattle.collections.specs.ById.{find_id, has_id, put_id, without_id, changed_id}
use Rattle.guild_model.specs.declared.channel.Channel.{Channel}
use Rattle.guild_model.specs.declared.channel.ChannelKind.{ChannelKind}
use Rattle.guild_model.specs.declared.channel.ChannelKind.TheVariants as channel
use Rattle.guild_model.specs.declared.thread.Thread.{Thread}
use Rattle.guild_model.specs.declared.thread.ThreadMember.{ThreadMember}
use Rattle.guild_model.specs.declared.thread.ThreadKind.{ThreadKind}
use Rattle.guild_model.specs.declared.thread.ThreadKind.TheVariants as thread
use Rattle.guild_model.specs.declared.message.MessageHead.{MessageHead}
use Rattle.guild_model.specs.declared.verdict.Verdict.{Verdict}
use Rattle.guild_model.specs.declared.verdict.Verdict.TheVariants.{UnknownThread, IdTaken, WrongType, Archived}
use Rattle.guild_model.specs.Record.{Record, channel_id, thread_id}
use Rattle.guild_model.specs.Consistent.{is_channel_or_thread}
use Rattle.guild_model.specs.Sight.{is_private}
use Rattle.guild_model.specs.Tests.{refused_if, first_of, too_long, too_many, unknown_member, unknown_channel}
use Rattle.thread_edit.specs.declared.thread_create.ThreadCreate.{ThreadCreate}
use Rattle.thread_edit.specs.declared.thread_rename.ThreadRename.{ThreadRename}

abbrev pub is_public : ThreadKind → Bool
is_public thread.Public = true
is_public thread.Announcement = false
is_public thread.Private = false

abbrev pub is_announcement : ThreadKind → Bool
is_announcement thread.Announcement = true
is_announcement thread.Public = false
is_announcement thread.Private = false

-- the types of threads that a channel of each type may have (Threads, Thread Types)
abbrev pub takes_thread : ChannelKind → ThreadKind → Bool
takes_thread channel.Text kind = is_public kind || is_private kind
takes_thread channel.Announcement kind = is_announcement kind
takes_thread channel.Forum kind = is_public kind
takes_thread channel.Voice kind = false
takes_thread channel.Category kind = false
takes_thread channel.Stage kind = false

abbrev pub takes_there : ThreadKind → Option Channel → Bool
takes_there kind None = false
takes_there kind (Some c) = takes_thread c.kind kind

abbrev pub is_active : Thread → Bool
is_active t = not t.archived

abbrev pub active_threads : Record → ℕ
active_threads g = count_by is_active g.threads

-- whether the thread exists and is archived
abbrev pub is_archived : Record → ℕ → Bool
is_archived g thread = option_map_or (λ (t : Thread). t.archived) (find_id thread_id thread g.threads) false

-- the tests of threads
abbrev pub unknown_thread : Record → ℕ → Option Verdict
unknown_thread g thread = refused_if (not (has_id thread_id thread g.threads)) UnknownThread

abbrev pub not_active : Record → ℕ → Option Verdict
not_active g thread = refused_if (is_archived g thread) Archived

abbrev pub wrong_kind : Record → ℕ → ThreadKind → Option Verdict
wrong_kind g parent kind = refused_if (not (takes_there kind (find_id channel_id parent g.channels))) WrongType

abbrev pub too_many_active : Record → Option Verdict
too_many_active g = too_many 1000 (active_threads g)

-- thread_create: an active thread with its owner in it
abbrev pub thread_create_verdict : Record → ThreadCreate → Option Verdict
thread_create_verdict g edit = first_of (
    refused_if (is_channel_or_thread g edit.thread) IdTaken
    ∷ unknown_channel g edit.parent
    ∷ wrong_kind g edit.parent edit.kind
    ∷ unknown_member g edit.owner
    ∷ too_many_active g
    ∷ too_many 4096 (length g.threads)
    ∷ too_long 100 edit.name
    ∷ [])

abbrev pub new_thread_member : ℕ → ℕ → ThreadMember
new_thread_member user at = record { user = user; joined = at }

abbrev pub new_thread : ThreadCreate → Thread
new_thread edit = record {
  id = edit.thread;
  kind = edit.kind;
  name = edit.name;
  parent = edit.parent;
  owner = edit.owner;
  archived = false;
  members = new_thread_member edit.owner edit.at ∷ [];
}

abbrev pub thread_created : Record → ThreadCreate → Record
thread_created g edit = record g { threads = put_id thread_id (new_thread edit) g.threads }

abbrev pub thread_changed : Record → ℕ → (Thread → Thread) → Record
thread_changed g thread change = record g { threads = changed_id thread_id thread change g.threads }

-- thread_rename
abbrev pub thread_rename_verdict : Record → ThreadRename → Option Verdict
thread_rename_verdict g edit = first_of (unknown_thread g edit.thread ∷ not_active g edit.thread ∷ too_long 100 edit.name ∷ [])

abbrev pub with_thread_name : List ℕ → Thread → Thread
with_thread_name name t = record t { name = name }

abbrev pub thread_renamed : Record → ThreadRename → Record
thread_renamed g edit = thread_changed g edit.thread (with_thread_name edit.name)

-- thread_delete: the messages in the thread are deleted with it
abbrev pub thread_delete_verdict : Record → ℕ → Option Verdict
thread_delete_verdict g thread = unknown_thread g thread

abbrev pub stands_elsewhere : ℕ → MessageHead → Bool
stands_elsewhere thread m = not (m.channel == thread)

abbrev pub thread_deleted : Record → ℕ → Record
thread_deleted g thread = record g {
  threads = without_id thread_id thread g.threads;
  messages = filter (stands_elsewhere thread) g.messages;
}
