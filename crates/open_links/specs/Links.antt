-- Open links, and what they have to do with the courses of their connections.
use Rattle.std.specs.Prelude.{◌≡◌, ℕ, ◌+◌, ◌<◌, ◌≤◌, List, [], ◌++◌, Bool, true, false, ◌==◌, ◌||◌, Option, Some, None, All, length, map}
use Rattle.std.specs.List.{list_any, AllZip}
use mathlib.Core.List.{IsPrefix}
use Rattle.collections.specs.ById.{IsById}
use Rattle.gate_outside.specs.Links.{LinkTale, ReturnedLink, returned_link}
use Rattle.open_links.specs.Courses.{Course, Events, AreInPlace, course, came, given, is_opened, is_open, is_over, is_lost, Unopened}

-- an open link: the number of its connection, what it tells, its count of faults, and whether it is done with
pub record Held : Type 0 where
  pub conn : ℕ
  pub tale : LinkTale
  pub faults : ℕ
  pub done : Bool

abbrev pub held_conn : Held → ℕ
held_conn l = l.conn

-- what a door is told of a link that is given back
abbrev pub as_returned : Held → ReturnedLink
as_returned l = returned_link l.tale l.faults

-- what is read past the end of a list
abbrev pub no_held : Held
no_held = record { conn = 0; tale = record { own_code = None; gave_text = false; waits = None; gave = None; sent = None }; faults = 0; done = false }

-- the open links in order of arrival, and how many were given in all
pub record Holding : Type 0 where
  pub links : List Held
  pub count : ℕ

abbrev pub no_links : Holding
no_links = record { links = []; count = 0 }

-- each has a number of its own, below the count, in order of arrival
pub record AreNumbered (links : List Held) (count : ℕ) : Type 0 where
  pub ascend : IsById held_conn links
  pub below : All (λ (l : Held). l.conn < count) links

abbrev pub is_among : ℕ → List ℕ → Bool
is_among conn conns = list_any (λ c. c == conn) conns

-- whether a connection of this number has an open link
abbrev pub has_conn : ℕ → List Held → Bool
has_conn conn links = is_among conn (map held_conn links)

-- a list that is told is this one
abbrev pub IsIfTold : {A : Type 0} → List A → Option (List A) → Type 0
IsIfTold xs None = Unit {0}
IsIfTold xs (Some told) = told ≡ xs

-- a list that is told is a front of this one
abbrev pub IsFrontIfTold : {A : Type 0} → List A → Option (List A) → Type 0
IsFrontIfTold xs None = Unit {0}
IsFrontIfTold xs (Some told) = IsPrefix told xs

-- a list that is told, with these behind it
abbrev pub with_more : {A : Type 0} → Option (List A) → List A → Option (List A)
with_more None more = None
with_more (Some told) more = Some (told ++ more)

-- a link that gave what came over its connection, which was opened, and was sent a front of what was given out for
-- it, and all of it if it never failed; if the connection was lost, the link has failed
pub record MeetsReturned (c : Course) (r : ReturnedLink) : Type 0 where
  pub opened : is_opened c ≡ true
  pub gave : IsIfTold (came c) r.gave
  pub front : IsFrontIfTold (given c) r.sent
  pub whole : r.faults ≡ 0 → IsIfTold (given c) r.sent
  pub lost : is_lost c ≡ true → 0 < r.faults

-- a link that is not done with has an open connection and never failed; one that is done with has failed, or its
-- connection has ended
pub record MeetsHeld (c : Course) (l : Held) : Type 0 where
  pub meets : MeetsReturned c (as_returned l)
  pub in_use : l.done ≡ false → (is_open c ≡ true) × ((l.faults ≡ 0) × (l.tale.own_code ≡ None))
  pub done : l.done ≡ true → is_open c ≡ true → 0 < l.faults

-- these links came back one after another, each of the connection at its place
pub record HaveComeBack (es : Events) (conns : List ℕ) (before now : Option (List ReturnedLink)) : Type 0 where
  pub links : List ReturnedLink
  pub told : now ≡ with_more before links
  pub meet : AllZip (λ conn link. MeetsReturned (course conn es) link) conns links

-- each event is in place, and each link meets its connection: those that are held, and those that came back, whose
-- connections have ended; no other connection was opened
pub record Meets (es : Events) (h : Holding) (before now : Option (List ReturnedLink)) : Type 0 where
  pub in_place : AreInPlace es
  pub held : All (λ (l : Held). MeetsHeld (course l.conn es) l) h.links
  pub ascend : IsById held_conn h.links
  -- the connections of the links that came back
  pub conns : List ℕ
  pub back : HaveComeBack es conns before now
  pub over : All (λ conn. is_over (course conn es) ≡ true) conns
  pub each : (conn : ℕ) → conn < h.count → (is_among conn conns || has_conn conn h.links) ≡ true
  pub once : length conns + length h.links ≡ h.count
  pub later : (conn : ℕ) → h.count ≤ conn → course conn es ≡ Unopened

-- each event is in place, all links came back, each once, and each meets its connection; no other connection was
-- opened
pub record AllMeet (es : Events) (count : ℕ) (before now : Option (List ReturnedLink)) : Type 0 where
  pub in_place : AreInPlace es
  pub conns : List ℕ
  pub back : HaveComeBack es conns before now
  pub each : (conn : ℕ) → conn < count → is_among conn conns ≡ true
  pub once : length conns ≡ count
  pub later : (conn : ℕ) → count ≤ conn → course conn es ≡ Unopened
