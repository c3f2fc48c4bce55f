-- Whom the content of a message is for (Gateway, Message Content Intent).
use Rattle.std.specs.Prelude.{ℕ, List, [], Bool, ◌||◌, ◌==◌, if◌then◌else◌}
use Rattle.std.specs.List.{list_any}
use Rattle.perm_bits.specs.Bits.{has_bit}
use Rattle.intent_set.specs.Intents.{message_content}
use Rattle.guild_model.specs.declared.user.User.{User}
use Rattle.dispatch_types.specs.declared.viewer.Viewer.{Viewer}
use Rattle.dispatch_types.specs.declared.messages.MessageObject.{MessageObject}

abbrev pub mentions : List User → ℕ → Bool
mentions users user = list_any (λ (mentioned : User). mentioned.id == user) users

-- for a viewer with MESSAGE_CONTENT, for the author, and for those that the message mentions
abbrev pub reads : Viewer → ℕ → Bool → Bool
reads v author is_mentioned = has_bit v.intents message_content || ((author == v.user) || is_mentioned)

abbrev pub is_for : MessageObject → Viewer → Bool
is_for m v = reads v m.author.id (mentions m.mentions v.user)

abbrev pub emptied : MessageObject → MessageObject
emptied m = record m { content = []; embeds = 0; attachments = 0; components = 0 }

-- the message as it is sent to a viewer
abbrev pub redacted : MessageObject → Viewer → MessageObject
redacted m v = if is_for m v then m else emptied m
