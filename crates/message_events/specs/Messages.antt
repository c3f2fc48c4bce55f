-- The dispatches about messages, reactions and typing (Gateway Events, Messages; Typing Start).
use Rattle.std.specs.Prelude.{Bool, true, false}
use Rattle.dispatch_types.specs.declared.dispatch.Dispatch.{Dispatch}
use Rattle.dispatch_types.specs.declared.dispatch.Dispatch.TheVariants.{MessageCreate, MessageUpdate, MessageDelete, MessageReactionAdd, MessageReactionRemove, TypingStart}

abbrev pub is_message : Dispatch → Bool
is_message (MessageCreate message) = true
is_message (MessageUpdate message) = true
is_message (MessageDelete delete) = true
is_message (MessageReactionAdd reaction) = true
is_message (MessageReactionRemove reaction) = true
is_message (TypingStart typing) = true
is_message _ = false
