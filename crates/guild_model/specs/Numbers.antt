-- The numbers by which types of channels and threads and kinds of overwrites are written.
use Rattle.std.specs.Prelude.{ℕ, ◌==◌, Option, Some, None, if◌then◌else◌}
use Rattle.guild_model.specs.declared.channel.ChannelKind.{ChannelKind}
use Rattle.guild_model.specs.declared.channel.ChannelKind.TheVariants as channel
use Rattle.guild_model.specs.declared.channel.OverwriteKind.{OverwriteKind}
use Rattle.guild_model.specs.declared.channel.OverwriteKind.TheVariants as overwrite
use Rattle.guild_model.specs.declared.thread.ThreadKind.{ThreadKind}
use Rattle.guild_model.specs.declared.thread.ThreadKind.TheVariants as thread

-- Channels Resource, Channel Types
abbrev pub channel_kind_number : ChannelKind → ℕ
channel_kind_number channel.Text = 0
channel_kind_number channel.Voice = 2
channel_kind_number channel.Category = 4
channel_kind_number channel.Announcement = 5
channel_kind_number channel.Stage = 13
channel_kind_number channel.Forum = 15

unfoldable pub channel_kind_numbered : ℕ → Option ChannelKind
channel_kind_numbered n =
    if n == 0 then Some channel.Text
    else (if n == 2 then Some channel.Voice
    else (if n == 4 then Some channel.Category
    else (if n == 5 then Some channel.Announcement
    else (if n == 13 then Some channel.Stage
    else (if n == 15 then Some channel.Forum
    else None)))))

-- Channels Resource, Channel Types
abbrev pub thread_kind_number : ThreadKind → ℕ
thread_kind_number thread.Announcement = 10
thread_kind_number thread.Public = 11
thread_kind_number thread.Private = 12

unfoldable pub thread_kind_numbered : ℕ → Option ThreadKind
thread_kind_numbered n =
    if n == 10 then Some thread.Announcement
    else (if n == 11 then Some thread.Public
    else (if n == 12 then Some thread.Private
    else None))

-- Channels Resource, Overwrite Object
abbrev pub overwrite_kind_number : OverwriteKind → ℕ
overwrite_kind_number overwrite.Role = 0
overwrite_kind_number overwrite.Member = 1

unfoldable pub overwrite_kind_numbered : ℕ → Option OverwriteKind
overwrite_kind_numbered n =
    if n == 0 then Some overwrite.Role
    else (if n == 1 then Some overwrite.Member
    else None)
