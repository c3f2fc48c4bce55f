-- internal: cited by private functions only
-- What the parts of a turn do.
use Rattle.std.specs.Prelude.{◌≡◌, ◌⊎◌, ℕ, ◌+◌, ◌≤◌, ◌<◌, List, [], ◌∷◌, ◌++◌, Bool, true, Option, Some, Result, MatchResult, All, map, length}
use Rattle.std.specs.List.{list_all, list_any}
use Rattle.gate_outside.specs.Links.{ReturnedLink}
use Rattle.gate_outside.specs.Clocks.{ClockTale}
use Rattle.gate_outside.specs.Doors.{DoorTale}
use Rattle.open_links.specs.Courses.{Events, course, is_over}
use Rattle.open_links.specs.Links.{Holding, Meets}
use Rattle.open_links.specs.Calls.{GoesBy}
use Rattle.guild_hub.specs.Sights.{Seeing, has_quit}
use Rattle.edit_post.specs.Post.{PostId, Sender}
use Rattle.world_law.specs.Inputs.{Input, Tick}
use Rattle.worker_core.specs.declared.io.Input.{Input as Given}
use Rattle.worker_core.specs.declared.io.Output.{Output as Written}
use Rattle.worker_core.specs.InCode.{KeptWorker}
use Rattle.worker_run.specs.Histories.{History, Took, given_out, inputs, events, ticks, wishes}
use Rattle.worker_run.specs.Workers.{FollowsAll, IsFront}
use Rattle.worker_run.specs.Hubs.{AllRead, IsReader}
use Rattle.guild_places.specs.Places.{AreDistinct, guilds_of}
use Rattle.worker_run.specs.Notes.{AreNoted, AreNotedButLast}
use Rattle.worker_run.specs.Faults.{IsRefused}
use Rattle.guild_posts.specs.Posts.{AreSent, ArePasses}
use Rattle.worker_run.specs.Faults.{SpentOnlyIf}
use Rattle.worker_run.specs.Works.{Ticked, IsSpent}
use Rattle.worker_run.specs.Turns.{is_loss, looked_at, comes_over, but_losses, IsAtMostOneOpen, CameFrom, IsTurn, IsTurnCut, AreTurns, AreWholeTurns}
use Rattle.worker_run.specs.declared.fault.WorkFault.{WorkFault}
use Rattle.worker_run.specs.declared.fault.WorkFault.TheVariants as fault

-- what a worker holds while it serves, and whether its door has ended
pub record Serving : Type 0 where
  pub worker : KeptWorker
  pub links : Holding
  pub readers : List (ℕ × Seeing)
  pub passes : List Sender
  pub ended : Bool

-- the same with what came back to the door, what was noted, and what the clock tells
pub record Now : Type 0 where
  pub serving : Serving
  pub returned : Option (List ReturnedLink)
  pub noted : Option (List Given)
  pub clock : ClockTale

abbrev pub now : Serving → Option (List ReturnedLink) → Option (List Given) → ClockTale → Now
now serving returned noted clock = record { serving = serving; returned = returned; noted = noted; clock = clock }

-- what holds before and after each part of a turn: each pass is of its post and has not ended, the readers are of
-- their guilds' hubs, of which none stands there twice, and the door gave each link
pub record IsReady (posts : List PostId) (s : Serving) (door : DoorTale) : Type 0 where
  pub some : 0 < length posts
  pub passes : ArePasses posts s.passes
  pub readers : All IsReader s.readers
  pub distinct : AreDistinct (guilds_of s.readers)
  pub within : s.links.count ≤ door.given
  pub ended : s.ended ≡ true → door.ended ≡ true

-- the door has given as many links more as were numbered
abbrev pub CountsLinks : Serving → Serving → DoorTale → DoorTale → Type 0
CountsLinks old new old_door new_door = new_door.given + old.links.count ≡ old_door.given + new.links.count

-- ---- outputs

-- these outputs went out: to the links, and to the posts
pub record Gives (h : History) (old new : Serving) (old_back new_back : Option (List ReturnedLink)) : Type 0 where
  pub worker : new.worker ≡ old.worker
  pub readers : new.readers ≡ old.readers
  pub ended : new.ended ≡ old.ended
  pub count : new.links.count ≡ old.links.count
  pub links : GoesBy (events h) old.links old_back new.links new_back
  pub passes : AreSent (guilds_of old.readers) (wishes h) old.passes new.passes

-- one of them did not go out, and why
pub record GivesNot (fault : WorkFault) (old new : Serving) (old_back new_back : Option (List ReturnedLink)) : Type 0 where
  pub gives : Gives [] old new old_back new_back
  pub why : IsRefused new.passes fault

-- a front of them went out
pub record GivesFront (outputs : List Written) (fault : WorkFault) (old new : Serving) (old_back new_back : Option (List ReturnedLink)) : Type 0 where
  pub front : List Written
  pub rest : List Written
  pub parts : outputs ≡ front ++ rest
  pub gives : Gives (given_out front) old new old_back new_back
  pub why : IsRefused new.passes fault

-- ---- an input of which the outside has told

-- what it leaves outside: what went out for it, and the connections that were lost after it
pub record LeavesOutside (h : History) (old new : Now) : Type 0 where
  pub links : GoesBy (events h) old.serving.links old.returned new.serving.links new.returned
  pub count : new.serving.links.count ≡ old.serving.links.count
  pub readers : new.serving.readers ≡ old.serving.readers
  pub passes : AreSent (guilds_of old.serving.readers) (wishes h) old.serving.passes new.serving.passes
  pub ended : new.serving.ended ≡ old.serving.ended
  pub clock : new.clock ≡ old.clock
  pub losses : list_all is_loss (inputs h) ≡ true

-- the worker took it, gave out all that it owes for it, and lost the connections whose links failed
pub record Handles (i : Input) (h : History) (old new : Now) : Type 0 where
  pub outside : LeavesOutside h old new
  pub worker : FollowsAll old.serving.worker (Took i ∷ h) [] new.serving.worker
  pub notes : AreNoted (i ∷ inputs h) old.noted new.noted

-- the fault of an input
abbrev pub MayStop : History → KeptWorker → List Sender → WorkFault → Type 0
MayStop h worker passes f = SpentOnlyIf (IsSpent h worker passes) f

-- memory ran out or a count was spent while it was handled
pub record HandlesNot (i : Input) (h : History) (fault : WorkFault) (old new : Now) : Type 0 where
  pub outside : LeavesOutside h old new
  pub worker : IsFront old.serving.worker (Took i ∷ h)
  pub notes : AreNotedButLast (i ∷ inputs h) old.noted new.noted
  pub why : MayStop (Took i ∷ h) old.serving.worker new.serving.passes fault

-- ---- connections that end

-- where the links met the connections before these events and this one had ended, they meet them after them
abbrev pub GoesOver : ℕ → Events → Holding → Option (List ReturnedLink) → Holding → Option (List ReturnedLink) → Type 0
GoesOver conn more old old_back new new_back =
    (es : Events) (before : Option (List ReturnedLink)) → Meets es old before old_back → is_over (course conn es) ≡ true → Meets (es ++ more) new before new_back

-- what an input leaves by which a connection has ended, of which the outside has told
pub record EndsOutside (conn : ℕ) (h : History) (old new : Now) : Type 0 where
  pub links : GoesOver conn (events h) old.serving.links old.returned new.serving.links new.returned
  pub count : new.serving.links.count ≡ old.serving.links.count
  pub readers : new.serving.readers ≡ old.serving.readers
  pub passes : AreSent (guilds_of old.serving.readers) (wishes h) old.serving.passes new.serving.passes
  pub ended : new.serving.ended ≡ old.serving.ended
  pub clock : new.clock ≡ old.clock
  pub outputs : inputs h ≡ []

pub record EndsBy (conn : ℕ) (i : Input) (h : History) (old new : Now) : Type 0 where
  pub outside : EndsOutside conn h old new
  pub worker : FollowsAll old.serving.worker (Took i ∷ h) [] new.serving.worker
  pub notes : AreNoted (i ∷ []) old.noted new.noted

pub record EndsNot (conn : ℕ) (i : Input) (h : History) (fault : WorkFault) (old new : Now) : Type 0 where
  pub outside : EndsOutside conn h old new
  pub worker : IsFront old.serving.worker (Took i ∷ h)
  pub notes : AreNotedButLast (i ∷ []) old.noted new.noted
  pub why : MayStop (Took i ∷ h) old.serving.worker new.serving.passes fault

-- connections are lost, each whose link has failed
pub record Loses (h : History) (old new : Now) : Type 0 where
  pub outside : LeavesOutside h old new
  pub worker : FollowsAll old.serving.worker h [] new.serving.worker
  pub notes : AreNoted (inputs h) old.noted new.noted

pub record LosesNot (h : History) (fault : WorkFault) (old new : Now) : Type 0 where
  pub outside : LeavesOutside h old new
  pub worker : IsFront old.serving.worker h
  pub notes : AreNotedButLast (inputs h) old.noted new.noted
  pub why : MayStop h old.serving.worker new.serving.passes fault

-- ---- a part of a turn

-- all but the worker and the notes
pub record GoesOutside (h : History) (old new : Now) : Type 0 where
  pub links : GoesBy (events h) old.serving.links old.returned new.serving.links new.returned
  pub readers : AllRead (inputs h) old.serving.readers new.serving.readers
  pub passes : AreSent (guilds_of old.serving.readers) (wishes h) old.serving.passes new.serving.passes
  pub clock : Ticked old.clock (ticks h) new.clock

-- by this history, whole
pub record Goes (h : History) (old new : Now) : Type 0 where
  pub outside : GoesOutside h old new
  pub worker : FollowsAll old.serving.worker h [] new.serving.worker
  pub notes : AreNoted (inputs h) old.noted new.noted

-- by this history, until memory ran out or a count was spent
pub record Halts (h : History) (old new : Now) : Type 0 where
  pub outside : GoesOutside h old new
  pub worker : IsFront old.serving.worker h
  pub notes : AreNotedButLast (inputs h) old.noted new.noted

-- what a fault leaves, and when it comes
abbrev pub Stops : History → WorkFault → Now → Now → Type 0
Stops h fault.Door old new = Goes h old new
Stops h fault.Quit old new = Goes h old new × (list_any (λ (r : ℕ × Seeing). has_quit r.1) new.serving.readers ≡ true)
Stops h fault.Spent old new = Halts h old new × IsSpent h old.serving.worker new.serving.passes
Stops h fault.Memory old new = Halts h old new

-- a part of a turn goes whole, by a history of one shape, or stops by one of another
abbrev pub GoesOrStops : {T : Type 0} → (History → Type 0) → (History → Type 0) → Result T WorkFault → Now → Now → Type 0
GoesOrStops IsWhole IsCut result old new = MatchResult result (λ _. (h : History) × (Goes h old new × IsWhole h)) (λ f. (h : History) × (Stops h f old new × IsCut h))

-- ---- parts of turns, by the inputs that are not losses

-- the inputs of a history that are not losses
abbrev pub kept : History → List Input
kept h = but_losses (inputs h)

-- the looks at the hubs of these guilds
abbrev pub AreLooks : List ℕ → History → Type 0
AreLooks guilds h = map looked_at (kept h) ≡ map Some guilds

-- the looks at the hubs of a front of these guilds
abbrev pub AreFirstLooks : List ℕ → History → Type 0
AreFirstLooks guilds h = (rest : List ℕ) × ((front : List ℕ) × ((guilds ≡ front ++ rest) × AreLooks front h))

-- the look at the hub of this guild
abbrev pub IsLookOf : Option ℕ → History → Type 0
IsLookOf guild h = map looked_at (kept h) ≡ guild ∷ []

-- that look, or none
abbrev pub IsLookOfOrNone : Option ℕ → History → Type 0
IsLookOfOrNone guild h = IsLookOf guild h ⊎ (kept h ≡ [])

-- the time
abbrev pub IsOneTick : History → Type 0
IsOneTick h = (moment : ℕ) × (kept h ≡ Tick moment ∷ [])

-- at most one new connection
abbrev pub OpensOne : History → Type 0
OpensOne h = IsAtMostOneOpen (kept h)

-- at most one input that came over this connection
abbrev pub IsOneOver : ℕ → List Input → Type 0
IsOneOver conn [] = Unit {0}
IsOneOver conn (i ∷ []) = comes_over i ≡ Some conn
IsOneOver conn _ = ⊥

abbrev pub IsHeard : ℕ → History → Type 0
IsHeard conn h = IsOneOver conn (kept h)

-- what came over connections, in order of arrival of these
abbrev pub AreHeard : History → Type 0
AreHeard h = CameFrom 0 (kept h)

abbrev pub IsOneTurn : List ℕ → History → Type 0
IsOneTurn guilds h = IsTurn guilds (kept h)

abbrev pub IsOneTurnCut : List ℕ → History → Type 0
IsOneTurnCut guilds h = IsTurnCut guilds (kept h)

abbrev pub AreAllTurns : List ℕ → History → Type 0
AreAllTurns guilds h = AreWholeTurns guilds (inputs h)

abbrev pub AreAllTurnsCut : List ℕ → History → Type 0
AreAllTurnsCut guilds h = AreTurns guilds (inputs h)
