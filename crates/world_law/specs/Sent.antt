-- What the model keeps of a session: each dispatch that was made for it, why, and how far its worker had looked
-- at each log before and after.
use Rattle.std.specs.Prelude.{ℕ, ◌+◌, List, [], ◌∷◌, Option, Some, map}
use Rattle.dispatch_types.specs.declared.dispatch.Dispatch.{Dispatch}
use Rattle.session_core.specs.declared.reply.Mark.{Mark}
use Rattle.session_core.specs.declared.reply.Mark.TheVariants.{Chunk}
use Rattle.session_core.specs.State.{Session, Ended}
use Rattle.world_law.specs.Keeping.{Cursors}

-- a dispatch as it was made, with the cursors before the entry or frame that made it, and just after
pub record SentDispatch : Type 0 where
  pub mark : Mark
  pub dispatch : Dispatch
  pub before : Cursors
  pub after : Cursors

-- dispatches under one mark
abbrev pub told : Mark → Cursors → Cursors → List Dispatch → List SentDispatch
told mark before after ds = map (λ d. record { mark = mark; dispatch = d; before = before; after = after }) ds

-- chunks of members, each under a mark of its own (Gateway Events, Guild Members Chunk)
abbrev pub chunks_told : ℕ → Cursors → List Dispatch → List SentDispatch
chunks_told made now [] = []
chunks_told made now (d ∷ ds) = record { mark = Chunk (made + 1); dispatch = d; before = now; after = now } ∷ chunks_told (made + 1) now ds

abbrev pub dispatch_of : SentDispatch → Dispatch
dispatch_of t = t.dispatch

-- all dispatches of a session, in order, the most of them and the most bytes that its bot may have held for a
-- resume, and the cursors of its worker as it ended
pub record Sent : Type 0 where
  pub told : List SentDispatch
  pub ring_items : ℕ
  pub ring_bytes : ℕ
  pub end : Option Cursors

abbrev pub dispatches : Sent → List Dispatch
dispatches sent = map dispatch_of sent.told

-- a session as it ends, with the cursors of its worker then
abbrev pub ended_at : Cursors → Session Sent → List (Session Sent)
ended_at now x = record x { condition = Ended; sent = record x.sent { end = Some now } } ∷ []
