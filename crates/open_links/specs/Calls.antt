-- What the calls on open links do, and what happens to connections by them.
use Rattle.std.specs.Prelude.{◌≡◌, ℕ, ◌+◌, ◌<◌, ◌≤◌, List, [], ◌∷◌, ◌++◌, Bool, true, false, ◌==◌, if◌then◌else◌, Option, Some, None, Result, Ok, Err, All}
use Rattle.gate_outside.specs.declared.sending.Sending.TheVariants as sending
use Rattle.gate_outside.specs.declared.faults.Fault.{Fault}
use Rattle.gate_outside.specs.declared.accepted.Accepted.{Accepted}
use Rattle.gate_outside.specs.declared.accepted.Accepted.TheVariants as accepted
use Rattle.gate_outside.specs.Links.{ReturnedLink}
use Rattle.gate_outside.specs.Doors.{DoorTale}
use Rattle.open_links.specs.declared.heard.Heard.{Heard}
use Rattle.open_links.specs.declared.heard.Word.{Word}
use Rattle.open_links.specs.declared.heard.Word.TheVariants as word
use Rattle.open_links.specs.Courses.{Events, Opens, Comes, course, is_over}
use Rattle.open_links.specs.Links.{Held, Holding, has_conn, Meets}

-- where the links met the connections before these events, they meet them after them
abbrev pub GoesBy : Events → Holding → Option (List ReturnedLink) → Holding → Option (List ReturnedLink) → Type 0
GoesBy more old old_back new new_back =
    (es : Events) (before : Option (List ReturnedLink)) → Meets es old before old_back → Meets (es ++ more) new before new_back

-- the same of a call that takes no link back
abbrev pub MovesBy : Events → Holding → Holding → Type 0
MovesBy more old new = (es : Events) (before now : Option (List ReturnedLink)) → Meets es old before now → Meets (es ++ more) new before now

-- what the door answers: a link that it gives is the latest of the open links
abbrev pub Admits : Holding → Holding → DoorTale → Result (Accepted ℕ) Fault → Type 0
Admits old new door (Ok (accepted.Link conn)) = (conn ≡ old.count) × ((new.count ≡ old.count + 1) × MovesBy ((conn, Opens) ∷ []) old new)
Admits old new door (Ok accepted.NotYet) = new ≡ old
Admits old new door (Ok accepted.Ended) = (new ≡ old) × (door.ended ≡ true)
Admits old new door (Err fault) = new ≡ old

-- whether the door has ended, after an answer: it had not if it gave a link or said that nobody waits
abbrev pub TellsEnd : Result (Accepted ℕ) Fault → Bool → Bool → Type 0
TellsEnd (Ok (accepted.Link conn)) old new = (old ≡ false) × (new ≡ false)
TellsEnd (Ok accepted.NotYet) old new = (old ≡ false) × (new ≡ false)
TellsEnd (Ok accepted.Ended) old new = new ≡ true
TellsEnd (Err fault) old new = new ≡ old

-- whether a connection of this number has a link that is done with
abbrev pub is_done : ℕ → List Held → Bool
is_done conn [] = false
is_done conn (l ∷ links) = if l.conn == conn then l.done else is_done conn links

-- what a link says that is asked. One that has failed or has closed is done with
abbrev pub Says : ℕ → Word → Holding → Holding → Type 0
Says conn (word.Text text) old new = MovesBy ((conn, Comes (sending.Text text)) ∷ []) old new
Says conn (word.Closed code) old new = MovesBy ((conn, Comes (sending.Close code)) ∷ []) old new × (is_done conn new.links ≡ true)
Says conn word.Nothing old new = MovesBy [] old new
Says conn word.Lost old new = MovesBy [] old new × (is_done conn new.links ≡ true)

-- the first open link from this number on is asked
pub record HearsFirst (from : ℕ) (heard : Heard) (old new : Holding) : Type 0 where
  pub least : from ≤ heard.conn
  pub is_open : has_conn heard.conn old.links ≡ true
  pub first : (conn : ℕ) → from ≤ conn → conn < heard.conn → has_conn conn old.links ≡ false
  pub below : heard.conn < old.count
  pub count : new.count ≡ old.count
  pub says : Says heard.conn heard.word old new

-- there is such a link, or none
abbrev pub HearsFrom : ℕ → Option Heard → Holding → Holding → Type 0
HearsFrom from None old new = (new ≡ old) × ((conn : ℕ) → from ≤ conn → has_conn conn old.links ≡ false)
HearsFrom from (Some heard) old new = HearsFirst from heard old new

-- if the connection of this number has an open link, the link has failed
abbrev pub IsGoneOrFailed : ℕ → List Held → Type 0
IsGoneOrFailed conn links = All (λ (l : Held). l.conn ≡ conn → 0 < l.faults) links

-- the link of a connection that has ended is taken back
abbrev pub EndsBy : ℕ → Holding → Option (List ReturnedLink) → Holding → Option (List ReturnedLink) → Type 0
EndsBy conn old old_back new new_back =
    (es : Events) (before : Option (List ReturnedLink)) → Meets es old before old_back → is_over (course conn es) ≡ true → Meets es new before new_back

-- a door that takes links back tells nothing else anew
pub record IsSameDoor (old new : DoorTale) : Type 0 where
  pub given : new.given ≡ old.given
  pub ended : new.ended ≡ old.ended
  pub accepts : new.accepts ≡ old.accepts
  pub waits : new.waits ≡ old.waits
