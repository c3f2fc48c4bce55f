-- internal: cited by private functions only
-- What becomes of one open link by a call of it, and of the list that it stands in.
use Rattle.std.specs.Prelude.{◌≡◌, ℕ, ◌<◌, List, [], ◌∷◌, ◌++◌, true, All, length, map, slice_index_or}
use Rattle.gate_outside.specs.declared.sending.Sending.TheVariants as sending
use Rattle.open_links.specs.declared.heard.Heard.{Heard}
use Rattle.open_links.specs.declared.heard.Word.{Word}
use Rattle.open_links.specs.declared.heard.Word.TheVariants as word
use Rattle.open_links.specs.Courses.{Event, Events, Comes, Course, moved, course, is_in_place, EachPasses}
use Rattle.open_links.specs.Links.{Held, held_conn, MeetsHeld}
use Rattle.open_links.specs.Calls.{is_done}

-- a course after more has happened
abbrev pub moved_on : Course → List Event → Course
moved_on c [] = c
moved_on c (e ∷ more) = moved_on (moved c e) more

-- each of these events is in place, from this course on
abbrev pub AreInPlaceFrom : Course → List Event → Type 0
AreInPlaceFrom c [] = Unit {0}
AreInPlaceFrom c (e ∷ more) = (is_in_place c e ≡ true) × AreInPlaceFrom (moved c e) more

-- where a link met the course of its connection, what happens more is in place, and it meets the course after it
pub record Follows (more : List Event) (old new : Held) : Type 0 where
  pub conn : new.conn ≡ old.conn
  pub in_place : (c : Course) → MeetsHeld c old → AreInPlaceFrom c more
  pub meets : (c : Course) → MeetsHeld c old → MeetsHeld (moved_on c more) new

-- what a link says that is asked
abbrev pub Hears : Word → Held → Held → Type 0
Hears (word.Text text) old new = Follows (Comes (sending.Text text) ∷ []) old new
Hears (word.Closed code) old new = Follows (Comes (sending.Close code) ∷ []) old new × (new.done ≡ true)
Hears word.Nothing old new = Follows [] old new
Hears word.Lost old new = Follows [] old new × (new.done ≡ true)

abbrev pub AllMeetHeld : Events → List Held → Type 0
AllMeetHeld es links = All (λ (l : Held). MeetsHeld (course l.conn es) l) links

-- the same of a list of links, which stay in their places
pub record AllFollow (more : Events) (old new : List Held) : Type 0 where
  pub conns : map held_conn new ≡ map held_conn old
  pub in_place : (es : Events) → AllMeetHeld es old → EachPasses is_in_place es more
  pub meet : (es : Events) → AllMeetHeld es old → AllMeetHeld (es ++ more) new

-- the link of this connection stands at that place
pub record StandsAt (place conn : ℕ) (links : List Held) : Type 0 where
  pub within : place < length links
  pub numbered : (d : Held) → (slice_index_or links place d).conn ≡ conn

-- what the link of a connection says
abbrev pub AllHear : ℕ → Word → List Held → List Held → Type 0
AllHear conn (word.Text text) old new = AllFollow ((conn, Comes (sending.Text text)) ∷ []) old new
AllHear conn (word.Closed code) old new = AllFollow ((conn, Comes (sending.Close code)) ∷ []) old new × (is_done conn new ≡ true)
AllHear conn word.Nothing old new = AllFollow [] old new
AllHear conn word.Lost old new = AllFollow [] old new × (is_done conn new ≡ true)

-- the link at a place is asked
pub record HearsAt (place : ℕ) (heard : Heard) (old new : List Held) : Type 0 where
  pub stands : StandsAt place heard.conn old
  pub hears : AllHear heard.conn heard.word old new
