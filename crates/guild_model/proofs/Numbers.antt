-- The number of a type reads back as the type.
use Rattle.std.proofs.Common.{◌≡◌, Some, refl}
use Rattle.guild_model.specs.declared.channel.ChannelKind.{ChannelKind}
use Rattle.guild_model.specs.declared.channel.ChannelKind.TheVariants as channel
use Rattle.guild_model.specs.declared.channel.OverwriteKind.{OverwriteKind}
use Rattle.guild_model.specs.declared.channel.OverwriteKind.TheVariants as overwrite
use Rattle.guild_model.specs.declared.thread.ThreadKind.{ThreadKind}
use Rattle.guild_model.specs.declared.thread.ThreadKind.TheVariants as thread
use Rattle.guild_model.specs.Numbers.{channel_kind_number, channel_kind_numbered, thread_kind_number, thread_kind_numbered, overwrite_kind_number, overwrite_kind_numbered}

pub channel_kind_back : (kind : ChannelKind) → channel_kind_numbered (channel_kind_number kind) ≡ Some kind
unfolding channel_kind_numbered
channel_kind_back channel.Text = refl
channel_kind_back channel.Voice = refl
channel_kind_back channel.Category = refl
channel_kind_back channel.Announcement = refl
channel_kind_back channel.Stage = refl
channel_kind_back channel.Forum = refl

pub thread_kind_back : (kind : ThreadKind) → thread_kind_numbered (thread_kind_number kind) ≡ Some kind
unfolding thread_kind_numbered
thread_kind_back thread.Announcement = refl
thread_kind_back thread.Public = refl
thread_kind_back thread.Private = refl

pub overwrite_kind_back : (kind : OverwriteKind) → overwrite_kind_numbered (overwrite_kind_number kind) ≡ Some kind
unfolding overwrite_kind_numbered
overwrite_kind_back overwrite.Role = refl
overwrite_kind_back overwrite.Member = refl
