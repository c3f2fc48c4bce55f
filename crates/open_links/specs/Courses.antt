-- What happens to the connections of a worker, and the course of each (Gateway, Connection Lifecycle).
use Rattle.std.specs.Prelude.{◌≡◌, ℕ, List, [], ◌∷◌, ◌++◌, Bool, true, false, not, ◌==◌, if◌then◌else◌}
use Rattle.std.specs.List.{list_all}
use Rattle.gate_outside.specs.declared.sending.Sending.{Sending}
use Rattle.gate_outside.specs.declared.sending.Sending.TheVariants as sending

-- what happens to a connection
pub data Event : Type 0 where
  Opens : Event
  -- its link gave this
  Comes : (x : Sending) → Event
  -- its link failed
  Loses : Event
  -- the worker gave this out for it
  Gives : (x : Sending) → Event

abbrev pub is_giving : Event → Bool
is_giving Opens = false
is_giving (Comes x) = false
is_giving Loses = false
is_giving (Gives x) = true

-- what happens to connections, in order, each with the number of its connection
abbrev pub Events : Type 0
Events = List (ℕ × Event)

-- whether all that happens is what the worker gives out
abbrev pub only_gives : Events → Bool
only_gives es = list_all (λ (e : ℕ × Event). is_giving e.1) es

-- how a connection ended: by the worker's close, by its client's close, or as its link failed
pub data End : Type 0 where
  ByWorker : End
  ByClient : End
  ByLoss : End

-- a connection, with what came over it and what was given out for it while it was open
pub data Course : Type 0 where
  Unopened : Course
  Open : (came given : List Sending) → Course
  Over : (came given : List Sending) (end : End) → Course

abbrev pub came : Course → List Sending
came Unopened = []
came (Open cs gs) = cs
came (Over cs gs end) = cs

abbrev pub given : Course → List Sending
given Unopened = []
given (Open cs gs) = gs
given (Over cs gs end) = gs

abbrev pub is_opened : Course → Bool
is_opened Unopened = false
is_opened (Open cs gs) = true
is_opened (Over cs gs end) = true

abbrev pub is_open : Course → Bool
is_open Unopened = false
is_open (Open cs gs) = true
is_open (Over cs gs end) = false

abbrev pub is_over : Course → Bool
is_over Unopened = false
is_over (Open cs gs) = false
is_over (Over cs gs end) = true

abbrev pub is_lost : Course → Bool
is_lost Unopened = false
is_lost (Open cs gs) = false
is_lost (Over cs gs ByWorker) = false
is_lost (Over cs gs ByClient) = false
is_lost (Over cs gs ByLoss) = true

-- a close that comes over a connection ends it
abbrev pub after_coming : List Sending → List Sending → Sending → Course
after_coming cs gs (sending.Text text) = Open (cs ++ sending.Text text ∷ []) gs
after_coming cs gs (sending.Close code) = Over (cs ++ sending.Close code ∷ []) gs ByClient

-- and so does one that the worker gives out
abbrev pub after_giving : List Sending → List Sending → Sending → Course
after_giving cs gs (sending.Text text) = Open cs (gs ++ sending.Text text ∷ [])
after_giving cs gs (sending.Close code) = Over cs (gs ++ sending.Close code ∷ []) ByWorker

-- nothing happens to a connection before it opens and after it has ended
abbrev pub moved : Course → Event → Course
moved Unopened Opens = Open [] []
moved Unopened (Comes x) = Unopened
moved Unopened Loses = Unopened
moved Unopened (Gives x) = Unopened
moved (Open cs gs) Opens = Open cs gs
moved (Open cs gs) (Comes x) = after_coming cs gs x
moved (Open cs gs) Loses = Over cs gs ByLoss
moved (Open cs gs) (Gives x) = after_giving cs gs x
moved (Over cs gs end) event = Over cs gs end

abbrev pub moved_by : ℕ → Course → ℕ × Event → Course
moved_by conn c e = if e.0 == conn then moved c e.1 else c

abbrev pub moved_all : ℕ → Course → Events → Course
moved_all conn c [] = c
moved_all conn c (e ∷ es) = moved_all conn (moved_by conn c e) es

-- the course of the connection with this number
abbrev pub course : ℕ → Events → Course
course conn es = moved_all conn Unopened es

-- ---- events in place

-- whether an event may follow here: a connection opens only while it has not opened before, and something comes
-- over it only while it is open. What is given out for it, and that its link fails, may come at any time
abbrev pub is_in_place : Course → Event → Bool
is_in_place c Opens = not (is_opened c)
is_in_place c (Comes x) = is_open c
is_in_place c Loses = true
is_in_place c (Gives x) = true

-- each of these events passes a test of the course of its connection as it was then, after what happened before
abbrev pub EachPasses : (Course → Event → Bool) → Events → Events → Type 0
EachPasses test before [] = Unit {0}
EachPasses test before (e ∷ es) = (test (course e.0 before) e.1 ≡ true) × EachPasses test (before ++ e ∷ []) es

-- each event is in place
abbrev pub AreInPlace : Events → Type 0
AreInPlace es = EachPasses is_in_place [] es
