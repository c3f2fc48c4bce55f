-- What the hooks of this program answer.
use Rattle.std.specs.Prelude.{ℕ}
use Rattle.dispatch_types.specs.declared.dispatch.Dispatch.{Dispatch}
use Rattle.dispatch_types.specs.declared.dispatch.Dispatch.TheVariants.{MessageCreate}

-- the id of the message that is created, and 0 of every other dispatch
abbrev pub message_id : Dispatch → ℕ
message_id (MessageCreate message) = message.id
message_id other = 0
