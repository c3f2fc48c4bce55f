-- What a worker does in its loop.
use Rattle.std.specs.Prelude.{◌≡◌, ◌⊎◌, ℕ, ◌+◌, ◌-◌, ◌^◌, ◌<◌, List, [], ◌∷◌, Bool, true, Option, Result, Ok, Err, All, map, min, false}
use Rattle.std.specs.List.{list_any}
use mathlib.Core.List.{IsPrefix}
use Rattle.gate_outside.specs.Causes.{Rose}
use Rattle.gate_outside.specs.Clocks.{ClockTale, Ticks}
use Rattle.gate_outside.specs.Doors.{DoorTale}
use Rattle.open_links.specs.Courses.{Event, Opens, Comes, Loses, Gives, Course, course, is_open, is_over, EachPasses}
use Rattle.open_links.specs.Links.{AllMeet}
use Rattle.guild_hub.specs.Sights.{Seeing, has_quit}
use Rattle.edit_post.specs.Post.{Sender, after_end}
use Rattle.session_core.specs.declared.bot.Bot.{Bot}
use Rattle.world_law.specs.Model.{Worker, first_worker}
use Rattle.world_law.specs.TheLaw.{all_taken, WorkerHolds}
pub use Rattle.worker_core.specs.declared.io.Input.{Input as Given}
use Rattle.worker_core.specs.InCode.{wire_text}
pub use Rattle.worker_core.specs.InCode.{KeptWorker}
use Rattle.worker_core.specs.Represents.{Represents}
use Rattle.worker_core.specs.Made.{all_dispatches}
use Rattle.worker_run.specs.Histories.{History, inputs, events, ticks, wishes, transcript}
use Rattle.worker_run.specs.Workers.{any_spends}
use Rattle.worker_run.specs.Hubs.{AllRead, IsUnread, IsAmong, HasSeenAll, logs_of}
use Rattle.guild_places.specs.Places.{guilds_of}
use Rattle.worker_run.specs.Faults.{DoorFails}
use Rattle.worker_run.specs.Notes.{AreNoted, AreNotedButLast}
use Rattle.guild_posts.specs.Posts.{AreSent, has_sent_all}
use Rattle.worker_run.specs.Turns.{AreTurns}
use Rattle.worker_run.specs.declared.fault.WorkFault.{WorkFault}
use Rattle.worker_run.specs.declared.fault.WorkFault.TheVariants as fault
use Rattle.worker_run.specs.declared.report.WorkReport.{WorkReport}

-- the moments that a clock answered, one after another
abbrev pub Ticked : ClockTale → List ℕ → ClockTale → Type 0
Ticked old [] new = new ≡ old
Ticked old (moment ∷ moments) new = (mid : ClockTale) × (Ticks old mid moment × Ticked mid moments new)

-- why a count is spent: one of the worker's, or that of the requests of a pass
abbrev pub IsSpent : History → KeptWorker → List Sender → Type 0
IsSpent h worker passes = ((w : Worker) → Represents worker w → any_spends w (inputs h) ≡ true) ⊎ (list_any has_sent_all passes ≡ true)

-- what is outside the worker, as it tells
pub record Outside : Type 0 where
  pub door : DoorTale
  pub door_faults : ℕ
  pub clock : ClockTale
  pub readers : List (ℕ × Seeing)
  pub passes : List Sender
  pub noted : Option (List Given)

abbrev pub outside : DoorTale → ℕ → ClockTale → List (ℕ × Seeing) → List Sender → Option (List Given) → Outside
outside door door_faults clock readers passes noted = record { door = door; door_faults = door_faults; clock = clock; readers = readers; passes = passes; noted = noted }

-- of the model: it gave out all that it owes for its inputs, and no count was spent
pub record IsWhole (h : History) (w : Worker) : Type 0 where
  pub given : h ≡ transcript w (inputs h)
  pub unspent : any_spends w (inputs h) ≡ false

-- whichever worker of the model it represents
abbrev pub OfEach : KeptWorker → (Worker → Type 0) → Type 0
OfEach k P = (w : Worker) → Represents k w → P w

-- the law holds of its sessions, by the logs as its readers know them, if it was new, and its readers were new and
-- of its guilds
abbrev pub MeetsLaw : History → List (ℕ × Seeing) → List (ℕ × Seeing) → Worker → Type 0
MeetsLaw h old new w = (bots : List Bot) (guilds : List ℕ) (number : ℕ) (url : List ℕ) → w ≡ first_worker bots guilds number url
    → All IsUnread old → All (IsAmong guilds) (guilds_of old) → WorkerHolds (logs_of new) (all_taken wire_text w (inputs h))

-- whether an event that goes out is for an open connection
abbrev pub is_for_open : Course → Event → Bool
is_for_open c Opens = true
is_for_open c (Comes x) = true
is_for_open c Loses = true
is_for_open c (Gives x) = is_open c

-- nothing went out for a connection that had not opened or had ended, if the worker was new
abbrev pub GoesToOpen : History → Worker → Type 0
GoesToOpen h w = (bots : List Bot) (guilds : List ℕ) (number : ℕ) (url : List ℕ) → w ≡ first_worker bots guilds number url → EachPasses is_for_open [] (events h)

-- all logs were seen to their seals, the door has ended, and so has each connection
pub record HasEnded (h : History) (count : ℕ) (new : Outside) : Type 0 where
  pub logs : All HasSeenAll new.readers
  pub door : new.door.ended ≡ true
  pub connections : (conn : ℕ) → conn < count → is_over (course conn (events h)) ≡ true

-- what it reports
pub record IsReport (h : History) (count : ℕ) (report : WorkReport) (w : Worker) : Type 0 where
  pub connections : report.connections ≡ count
  pub sessions : report.sessions ≡ (all_taken wire_text w (inputs h)).core.made
  pub dispatches : report.dispatches ≡ min (all_dispatches (all_taken wire_text w (inputs h)).core.sessions) (2 ^ 64 - 1)

abbrev pub Answers : KeptWorker → History → ℕ → Outside → Outside → Result WorkReport WorkFault → Type 0
Answers k h count old new (Ok report) = HasEnded h count new × (OfEach k (IsWhole h) × (AreNoted (inputs h) old.noted new.noted × OfEach k (IsReport h count report)))
Answers k h count old new (Err fault.Door) = Rose old.door_faults new.door_faults × (OfEach k (IsWhole h) × AreNoted (inputs h) old.noted new.noted)
Answers k h count old new (Err fault.Quit) = (list_any (λ (r : ℕ × Seeing). has_quit r.1) new.readers ≡ true) × (OfEach k (IsWhole h) × AreNoted (inputs h) old.noted new.noted)
Answers k h count old new (Err fault.Spent) = IsSpent h k new.passes × AreNotedButLast (inputs h) old.noted new.noted
Answers k h count old new (Err fault.Memory) = AreNotedButLast (inputs h) old.noted new.noted

-- what a worker has done, by the history of its inputs and outputs
pub record Works (k : KeptWorker) (h : History) (old new : Outside) (result : Result WorkReport WorkFault) : Type 0 where
  pub turns : AreTurns (guilds_of old.readers) (inputs h)
  pub readers : AllRead (inputs h) old.readers new.readers
  pub ticks : Ticked old.clock (ticks h) new.clock
  -- how many links the door gave
  pub count : ℕ
  pub given : new.door.given ≡ old.door.given + count
  pub links : AllMeet (events h) count old.door.returned new.door.returned
  pub sent : List Sender
  pub wishes : AreSent (guilds_of old.readers) (wishes h) old.passes sent
  pub passes : new.passes ≡ map after_end sent
  pub gives : OfEach k (λ w. IsPrefix h (transcript w (inputs h)))
  pub to_open : OfEach k (GoesToOpen h)
  pub law : OfEach k (MeetsLaw h old.readers new.readers)
  pub answers : Answers k h count old new result
  -- the door's count rose exactly if it failed
  pub failed : DoorFails old.door_faults new.door_faults result
