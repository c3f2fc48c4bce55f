-- internal: cited by private functions only
-- What a worker does from its first turn to its last.
use Rattle.std.specs.Prelude.{◌≡◌, ℕ, ◌-◌, ◌^◌, min, List, [], ◌∷◌, Bool, true, false, Option, Result, Ok, Err, map}
use Rattle.std.specs.List.{list_any}
use Rattle.open_links.specs.Courses.{only_gives}
use Rattle.open_links.specs.Links.{Holding}
use Rattle.open_links.specs.Calls.{GoesBy}
use Rattle.guild_hub.specs.Sights.{Seeing, has_quit}
use Rattle.edit_post.specs.Post.{Sender, after_end}
use Rattle.world_law.specs.Model.{Worker}
use Rattle.world_law.specs.Inputs.{Input, Look, Rebase, Tick}
use Rattle.worker_core.specs.declared.io.Input.{Input as Given}
use Rattle.worker_core.specs.InCode.{KeptWorker}
use Rattle.worker_core.specs.Represents.{Represents}
use Rattle.worker_core.specs.Made.{all_dispatches}
use Rattle.worker_run.specs.Histories.{History, Took, inputs, events, ticks, wishes}
use Rattle.worker_run.specs.Workers.{FollowsAll, IsFront}
use Rattle.worker_run.specs.Hubs.{AllRead}
use Rattle.guild_places.specs.Places.{guilds_of}
use Rattle.worker_run.specs.Notes.{AreNoted, AreNotedButLast}
use Rattle.guild_posts.specs.Posts.{AreSent}
use Rattle.worker_run.specs.Turns.{AreTurns}
use Rattle.worker_run.specs.Works.{Ticked, IsSpent}
use Rattle.worker_run.specs.Moves.{Serving, Now}
use Rattle.worker_run.specs.declared.fault.WorkFault.{WorkFault}
use Rattle.worker_run.specs.declared.fault.WorkFault.TheVariants as fault
use Rattle.worker_run.specs.declared.report.WorkReport.{WorkReport}

-- ---- after the last connection

-- an input that comes over no connection and opens none
abbrev pub is_silent : Input → Bool
is_silent (Look g es) = true
is_silent (Rebase g log) = true
is_silent (Tick now) = true
is_silent _ = false

abbrev pub IsSilent : Input → Type 0
IsSilent i = is_silent i ≡ true

-- nothing happens to connections but what is given out for them, and no client asks for an edit
pub record IsQuiet (h : History) : Type 0 where
  pub gives : only_gives (events h) ≡ true
  pub wishes : wishes h ≡ []

-- a history of a shape in which this is so
abbrev pub Quietly : (History → Type 0) → History → Type 0
Quietly P h = IsQuiet h × P h

-- the worker has taken an input, and h is what it owes for it
pub record TakesQuietly (i : Input) (h : History) (old new : KeptWorker) (before now : Option (List Given)) : Type 0 where
  pub worker : FollowsAll old (Took i ∷ h) [] new
  pub quiet : IsQuiet (Took i ∷ h)
  pub outputs : inputs h ≡ []
  pub notes : AreNoted (i ∷ []) before now

-- ---- from the first turn to the last

abbrev pub serving : KeptWorker → Holding → List (ℕ × Seeing) → List Sender → Bool → Serving
serving worker links readers passes ended = record { worker = worker; links = links; readers = readers; passes = passes; ended = ended }

-- what it leaves of the worker and of the notes
abbrev pub Leaves : History → Result (Unit {0}) WorkFault → Now → Now → Type 0
Leaves h (Ok u) old new = FollowsAll old.serving.worker h [] new.serving.worker × AreNoted (inputs h) old.noted new.noted
Leaves h (Err fault.Door) old new = FollowsAll old.serving.worker h [] new.serving.worker × AreNoted (inputs h) old.noted new.noted
Leaves h (Err fault.Quit) old new = FollowsAll old.serving.worker h [] new.serving.worker × (AreNoted (inputs h) old.noted new.noted × (list_any (λ (r : ℕ × Seeing). has_quit r.1) new.serving.readers ≡ true))
Leaves h (Err fault.Spent) old new = IsFront old.serving.worker h × (AreNotedButLast (inputs h) old.noted new.noted × IsSpent h old.serving.worker new.serving.passes)
Leaves h (Err fault.Memory) old new = IsFront old.serving.worker h × AreNotedButLast (inputs h) old.noted new.noted

-- by this history, from the first turn to the last, and the passes have ended
pub record Runs (h : History) (result : Result (Unit {0}) WorkFault) (old new : Now) : Type 0 where
  pub turns : AreTurns (guilds_of old.serving.readers) (inputs h)
  pub links : GoesBy (events h) old.serving.links old.returned new.serving.links new.returned
  pub readers : AllRead (inputs h) old.serving.readers new.serving.readers
  pub clock : Ticked old.clock (ticks h) new.clock
  pub sent : List Sender
  pub wishes : AreSent (guilds_of old.serving.readers) (wishes h) old.serving.passes sent
  pub passes : new.serving.passes ≡ map after_end sent
  pub leaves : Leaves h result old new

-- what a worker has made, and how many links were given
pub record Reports (k : KeptWorker) (count : ℕ) (report : WorkReport) : Type 0 where
  pub connections : report.connections ≡ count
  pub sessions : (w : Worker) → Represents k w → report.sessions ≡ w.core.made
  pub dispatches : (w : Worker) → Represents k w → report.dispatches ≡ min (all_dispatches w.core.sessions) (2 ^ 64 - 1)
