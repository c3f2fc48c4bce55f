-- Where messages stand, and whom they mention (Message Resource, Message Object).
use Rattle.std.specs.Prelude.{ℕ, List, [], ◌∷◌, Bool, true, false, not, Option, Some, None}
use Rattle.std.specs.List.{list_all}
use Rattle.collections.specs.ById.{find_id, has_id}
use Rattle.guild_model.specs.declared.channel.Channel.{Channel}
use Rattle.guild_model.specs.declared.channel.ChannelKind.{ChannelKind}
use Rattle.guild_model.specs.declared.channel.ChannelKind.TheVariants as kind
use Rattle.guild_model.specs.declared.thread.Thread.{Thread}
use Rattle.guild_model.specs.declared.verdict.Verdict.{Verdict}
use Rattle.guild_model.specs.declared.verdict.Verdict.TheVariants.{UnknownMember, UnknownChannel, WrongType, Archived}
use Rattle.guild_model.specs.Record.{Record, member_id, channel_id, thread_id}
use Rattle.guild_model.specs.Consistent.{is_channel_or_thread}
use Rattle.guild_model.specs.Tests.{refused_if, first_of}

-- messages stand in channels of these types; in a forum they stand in its threads (Channels Resource, Channel Types)
abbrev pub takes_messages : ChannelKind → Bool
takes_messages kind.Text = true
takes_messages kind.Voice = true
takes_messages kind.Announcement = true
takes_messages kind.Stage = true
takes_messages kind.Category = false
takes_messages kind.Forum = false

-- a channel in which no message stands
abbrev pub is_wordless : Option Channel → Bool
is_wordless None = false
is_wordless (Some c) = not (takes_messages c.kind)

abbrev pub is_archived : Option Thread → Bool
is_archived None = false
is_archived (Some t) = t.archived

-- it is a channel or a thread
abbrev pub unknown_channel_or_thread : Record → ℕ → Option Verdict
unknown_channel_or_thread g channel = refused_if (not (is_channel_or_thread g channel)) UnknownChannel

abbrev pub wordless_channel : Record → ℕ → Option Verdict
wordless_channel g channel = refused_if (is_wordless (find_id channel_id channel g.channels)) WrongType

abbrev pub archived_thread : Record → ℕ → Option Verdict
archived_thread g channel = refused_if (is_archived (find_id thread_id channel g.threads)) Archived

abbrev pub takes_no_words : Record → ℕ → Option Verdict
takes_no_words g channel = first_of (unknown_channel_or_thread g channel ∷ wordless_channel g channel ∷ archived_thread g channel ∷ [])

-- each mentioned user is a member
abbrev pub unknown_mention : Record → List ℕ → Option Verdict
unknown_mention g mentions = refused_if (not (list_all (λ user. has_id member_id user g.members) mentions)) UnknownMember
