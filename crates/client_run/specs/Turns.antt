-- internal: cited by private functions only
-- What the parts of a visit do.
use Rattle.std.specs.Prelude.{◌≡◌, ◌⊎◌, ℕ, ◌<◌, ◌==◌, nat_le, List, [], ◌∷◌, ◌++◌, Bool, true, false, not, ◌&&◌, if◌then◌else◌, Option, Some, None, Result, Ok, Err}
use Rattle.std.specs.List.{list_all}
use Rattle.gate_outside.specs.declared.sending.Sending.{Sending}
use Rattle.gate_outside.specs.declared.faults.Fault.{Fault}
use Rattle.gate_outside.specs.declared.faults.Fault.TheVariants as outside
use Rattle.gate_outside.specs.Clocks.{ClockTale}
use Rattle.gate_outside.specs.Links.{LinkTale, returned_link}
use Rattle.open_links.specs.Links.{IsIfTold, IsFrontIfTold}
use Rattle.client_cache.specs.Cached.{Cached}
use Rattle.client_session.specs.declared.act.Act.{Act}
use Rattle.client_session.specs.declared.act.Act.TheVariants.{Send, Hang, DialFirst, DialResume}
use Rattle.client_session.specs.declared.fault.ClientFault.{ClientFault}
use Rattle.client_session.specs.declared.fault.ClientFault.TheVariants as client
use Rattle.client_session.specs.Received.{IsUnread}
use Rattle.client_session.specs.State.{ClientState}
use Rattle.client_session.specs.Step.{Event, Receives, Loses, Asks}
use Rattle.client_session.specs.Table.{is_final}
use Rattle.client_run.specs.declared.target.Target.{Target}
use Rattle.client_run.specs.declared.ending.Ending.{Ending}
use Rattle.client_run.specs.declared.ending.Ending.TheVariants as ending
use Rattle.client_run.specs.declared.driven.Driven.{Driven}
use Rattle.client_run.specs.declared.driven.Driven.TheVariants as driven
use Rattle.client_run.specs.declared.fault.DriveFault.{DriveFault}
use Rattle.client_run.specs.declared.fault.DriveFault.TheVariants as fault
use Rattle.client_run.specs.Histories.{Told, told, is_loss, End, Left, Dropped, Finished, Stopped, Unread, Cut, events, lines, sendings, given, dial_in, left_to, StepsAll, Visit, is_left}
use Rattle.client_run.specs.Links.{Gave, MeetsReturned}
use Rattle.client_run.specs.Watched.{WatchTale, HasTold, HasToldFront}
use Rattle.client_run.specs.Drives.{Seen, Sees, Timed, Outside, Goes, Drives, Tells}

-- the fault of the client's own machine
abbrev pub by_client : ClientFault → DriveFault
by_client (client.Out code) = fault.Out code
by_client client.BadText = fault.BadText
by_client client.Memory = fault.Memory

-- ---- a link in use

-- what it tells, and its count of faults
pub record Line : Type 0 where
  pub tale : LinkTale
  pub faults : ℕ

abbrev pub has_failed : ℕ → Bool
has_failed faults = not (faults == 0)

-- whether nothing is sent after a close
abbrev pub is_orderly : Bool → List Act → Bool
is_orderly closed [] = true
is_orderly closed (Send text ∷ acts) = not closed && is_orderly closed acts
is_orderly closed (Hang code ∷ acts) = not closed && is_orderly true acts
is_orderly closed (DialFirst ∷ acts) = is_orderly closed acts
is_orderly closed (DialResume ∷ acts) = is_orderly closed acts

-- whether there was a close
abbrev pub closed_by : Bool → List Act → Bool
closed_by closed [] = closed
closed_by closed (Send text ∷ acts) = closed_by closed acts
closed_by closed (Hang code ∷ acts) = closed_by true acts
closed_by closed (DialFirst ∷ acts) = closed_by closed acts
closed_by closed (DialResume ∷ acts) = closed_by closed acts

-- a link was sent these, or a front of them if it failed; without a close it is in use
pub record IsSent (closed : Bool) (xs : List Sending) (l : Line) : Type 0 where
  pub front : IsFrontIfTold xs l.tale.sent
  pub whole : l.faults ≡ 0 → IsIfTold xs l.tale.sent
  pub in_use : closed ≡ false → (l.faults ≡ 0) × (l.tale.own_code ≡ None)

-- it was sent a front of these, and if it failed, its count has risen
abbrev pub FailsAt : List Sending → Line → Fault → Type 0
FailsAt xs l outside.Failed = IsFrontIfTold xs l.tale.sent × (0 < l.faults)
FailsAt xs l outside.Memory = IsFrontIfTold xs l.tale.sent

-- ---- a connection by what the client was told

-- whether these are turns of a connection that goes on
abbrev pub go_on : Bool → List Event → Bool
go_on may_hear [] = true
go_on may_hear (Asks now ∷ es) = go_on true es
go_on may_hear (Receives payload now ∷ es) = may_hear && go_on false es
go_on may_hear (Loses code ∷ es) = false

-- whether a text may be told after these
abbrev pub may_hear : Bool → List Event → Bool
may_hear may [] = may
may_hear may (Asks now ∷ es) = may_hear true es
may_hear may (Receives payload now ∷ es) = may_hear false es
may_hear may (Loses code ∷ es) = may_hear false es

-- while it lasts; what is left was given and is not told yet
pub record Meets (ts : List Told) (left : List Sending) (l : Line) : Type 0 where
  pub turns : go_on false (events ts) ≡ true
  pub gave : Gave (events ts) left l.tale.gave
  pub sent : IsSent false (given ts) l

-- when the client was told an event and what it said is not done yet
pub record IsAnswered (before : List Told) (event : Event) (acts : List Act) (l : Line) : Type 0 where
  pub turns : go_on false (events (before ++ told event acts ∷ [])) ≡ true
  pub other : is_loss event ≡ false
  pub gave : Gave (events (before ++ told event acts ∷ [])) [] l.tale.gave
  pub sent : IsSent false (given before) l

-- once it has ended
abbrev pub Ends : List Told → End → Line → Type 0
Ends ts end l = MeetsReturned ts end (returned_link l.tale l.faults)

-- when it is lost, before the client is told
pub record IsLost (code : Option ℕ) (ts : List Told) (l : Line) : Type 0 where
  pub turns : go_on false (events ts) ≡ true
  pub failed : code ≡ None → 0 < l.faults
  pub gave : Gave (events ts ++ Loses code ∷ []) [] l.tale.gave
  pub sent : IsSent true (given ts) l

-- the last event is the loss of the connection with a code after which there is no other
abbrev pub IsOutBy : ℕ → List Told → Type 0
IsOutBy code ts = (is_final code ≡ true) × ((before : List Told) × (ts ≡ before ++ told (Loses (Some code)) [] ∷ []))

-- after a part of a turn: it goes on, has ended, or the client stops
abbrev pub Stands : List Told → Result (Option Ending) DriveFault → Line → Type 0
Stands ts (Ok None) l = Meets ts [] l
Stands ts (Ok (Some (ending.Left target))) l = Ends ts Left l × (left_to ts ≡ Some target)
Stands ts (Ok (Some (ending.Dropped target))) l = Ends ts Dropped l × (left_to ts ≡ Some target)
Stands ts (Ok (Some ending.Finished)) l = Ends ts Finished l
Stands ts (Ok (Some ending.Stopped)) l = Ends ts Stopped l
Stands ts (Err (fault.Out code)) l = Ends ts Left l × IsOutBy code ts
Stands ts (Err fault.BadText) l = (text : List ℕ) × (Ends ts (Unread text) l × IsUnread text)
Stands ts (Err fault.Dials) l = ⊥
Stands ts (Err fault.Memory) l = (text : Option (List ℕ)) × Ends ts (Cut text) l

-- ---- parts of a turn

-- the moment of these events is this one
abbrev pub AreAt : ℕ → List Event → Type 0
AreAt now es = (clock : ClockTale) → clock.latest ≡ now → Timed clock es clock

-- the watcher tells these lines more; where memory ran out, a front of them
abbrev pub IsToldOf : {A : Type 0} → WatchTale → List (List ℕ) → WatchTale → Result A DriveFault → Type 0
IsToldOf old ls new result = ((result ≡ Err fault.Memory) × HasToldFront old ls new) ⊎ HasTold old ls new

-- the client is told more, at this moment. The watcher owes the lines of what it was told just before
abbrev pub Moves : ℕ → List Told → List (List ℕ) → ClientState Cached → ClientState Cached → WatchTale → WatchTale → Result (Option Ending) DriveFault → Line → Type 0
Moves now before owed old new known later result l =
    (ts : List Told) × (StepsAll old ts new × (AreAt now (events ts) × (IsToldOf known (owed ++ lines (events ts)) later result × Stands (before ++ ts) result l)))

-- the moments are the clock's, and the watcher tells the lines; where memory ran out, a front of them
abbrev pub TimedBut : {A : Type 0} → Seen → List Event → Seen → Result A DriveFault → Type 0
TimedBut old es new result = (mid : Seen) × (Sees old es mid × (((result ≡ Err fault.Memory) × HasToldFront old.told (lines es) new.told) ⊎ (new ≡ mid)))

-- a turn
abbrev pub Turns : List Told → ClientState Cached → ClientState Cached → Seen → Seen → Result (Option Ending) DriveFault → Line → Type 0
Turns before old new time later result l =
    (ts : List Told) × (StepsAll old ts new × (TimedBut time (events ts) later result × Stands (before ++ ts) result l))

-- all turns
abbrev pub Visited : List Told → Result Ending DriveFault → Line → Type 0
Visited ts (Ok e) l = Stands ts (Ok (Some e)) l
Visited ts (Err f) l = Stands ts (Err f) l

abbrev pub Visits : ClientState Cached → ClientState Cached → Seen → Seen → Result Ending DriveFault → Line → Type 0
Visits old new time later result l =
    (ts : List Told) × (StepsAll old ts new × (TimedBut time (events ts) later result × Visited ts result l))

-- what a heartbeat leaves of a link
abbrev pub Beats : List Told → Result (Unit {0}) Fault → Line → Type 0
Beats ts (Ok u) l = Meets ts [] l
Beats ts (Err outside.Failed) l = IsLost None ts l
Beats ts (Err outside.Memory) l = Ends ts (Cut None) l

-- the client is asked for one, or memory ran out before
abbrev pub IsAsked : ℕ → List Told → Result (Unit {0}) Fault → Type 0
IsAsked now ts (Ok u) = events ts ≡ Asks now ∷ []
IsAsked now ts (Err outside.Failed) = events ts ≡ Asks now ∷ []
IsAsked now ts (Err outside.Memory) = (events ts ≡ []) ⊎ (events ts ≡ Asks now ∷ [])

-- what the client says to the loss of its connection
abbrev pub IsLoss : Option ℕ → List Act → Result (Option Ending) DriveFault → Type 0
IsLoss code acts (Ok (Some (ending.Left target))) = (dial_in acts ≡ Some target) × (sendings acts ≡ [])
IsLoss code acts (Ok (Some (ending.Dropped target))) = ⊥
IsLoss code acts (Ok (Some ending.Finished)) = ⊥
IsLoss code acts (Ok (Some ending.Stopped)) = ⊥
IsLoss code acts (Ok None) = ⊥
IsLoss code acts (Err (fault.Out c)) = (code ≡ Some c) × ((is_final c ≡ true) × (acts ≡ []))
IsLoss code acts (Err fault.BadText) = ⊥
IsLoss code acts (Err fault.Dials) = ⊥
IsLoss code acts (Err fault.Memory) = ⊥

-- where it connects next
abbrev pub IsNext : Option ℕ → List Act → Result Target DriveFault → Type 0
IsNext code acts (Ok target) = (dial_in acts ≡ Some target) × (sendings acts ≡ [])
IsNext code acts (Err f) = IsLoss code acts (Err f)

-- what the client says where its link was dropped
abbrev pub IsDrop : List Act → Result (Option Ending) DriveFault → Type 0
IsDrop acts (Ok (Some (ending.Dropped target))) = (dial_in acts ≡ Some target) × (sendings acts ≡ [])
IsDrop acts (Ok (Some (ending.Left target))) = ⊥
IsDrop acts (Ok (Some ending.Finished)) = ⊥
IsDrop acts (Ok (Some ending.Stopped)) = ⊥
IsDrop acts (Ok None) = ⊥
IsDrop acts (Err f) = ⊥

-- how often a connection was dropped
abbrev pub dropped_part : Result (Option Ending) DriveFault → ℕ
dropped_part (Ok (Some (ending.Dropped target))) = 1
dropped_part (Ok (Some (ending.Left target))) = 0
dropped_part (Ok (Some ending.Finished)) = 0
dropped_part (Ok (Some ending.Stopped)) = 0
dropped_part (Ok None) = 0
dropped_part (Err f) = 0

abbrev pub dropped_end : Result Ending DriveFault → ℕ
dropped_end (Ok e) = dropped_part (Ok (Some e))
dropped_end (Err f) = 0

abbrev pub TellsPart : Type 0 → Type 0 → Result (Option Ending) DriveFault → Type 0
TellsPart finished stopped (Ok None) = Unit {0}
TellsPart finished stopped (Ok (Some (ending.Left target))) = Unit {0}
TellsPart finished stopped (Ok (Some (ending.Dropped target))) = Unit {0}
TellsPart finished stopped (Ok (Some ending.Finished)) = finished
TellsPart finished stopped (Ok (Some ending.Stopped)) = stopped
TellsPart finished stopped (Err f) = Unit {0}

-- nothing that a watcher wants
abbrev pub IsUnasked : Result (Option Ending) DriveFault → Type 0
IsUnasked (Ok None) = Unit {0}
IsUnasked (Ok (Some (ending.Left target))) = Unit {0}
IsUnasked (Ok (Some (ending.Dropped target))) = ⊥
IsUnasked (Ok (Some ending.Finished)) = ⊥
IsUnasked (Ok (Some ending.Stopped)) = ⊥
IsUnasked (Err f) = Unit {0}

abbrev pub TellsEnd : Type 0 → Type 0 → Result Ending DriveFault → Type 0
TellsEnd finished stopped (Ok e) = TellsPart finished stopped (Ok (Some e))
TellsEnd finished stopped (Err f) = Unit {0}

-- ---- visits

-- where the client connects next, and how often one after another its dial has failed
pub record Way : Type 0 where
  pub first : List ℕ
  pub target : Target
  pub dry_run : ℕ

-- what a visit answers: `Dials` where the dry run has reached nine
abbrev pub settled : Result Ending DriveFault → Result (Option Driven) DriveFault
settled (Ok (ending.Left target)) = Ok None
settled (Ok (ending.Dropped target)) = Ok None
settled (Ok ending.Finished) = Ok (Some driven.Finished)
settled (Ok ending.Stopped) = Ok (Some driven.Stopped)
settled (Err f) = Err f

abbrev pub answer_by : ℕ → Result Ending DriveFault → Result (Option Driven) DriveFault
answer_by dry (Err fault.Memory) = Err fault.Memory
answer_by dry (Err fault.Dials) = if nat_le 9 dry then Err fault.Dials else settled (Err fault.Dials)
answer_by dry (Err fault.BadText) = if nat_le 9 dry then Err fault.Dials else settled (Err fault.BadText)
answer_by dry (Err (fault.Out code)) = if nat_le 9 dry then Err fault.Dials else settled (Err (fault.Out code))
answer_by dry (Ok e) = if nat_le 9 dry then Err fault.Dials else settled (Ok e)

-- where the client connects after it
abbrev pub heads_to : Result Ending DriveFault → Option Target
heads_to (Ok (ending.Left target)) = Some target
heads_to (Ok (ending.Dropped target)) = Some target
heads_to (Ok ending.Finished) = None
heads_to (Ok ending.Stopped) = None
heads_to (Err f) = None

abbrev pub Heads : Way → Way → Result Ending DriveFault → Result (Option Driven) DriveFault → Type 0
Heads old new ended result = (new.first ≡ old.first) × ((new.dry_run ≡ old.dry_run) × ((target : Target) → heads_to ended ≡ Some target → result ≡ Ok None → new.target ≡ target))

-- at most one visit: the client goes on, or has ended
abbrev pub Attempts : Way → Way → List Visit → Outside → Outside → Result (Option Driven) DriveFault → Type 0
Attempts way later vs old new (Ok None) = Goes way.first way.target vs later.target old new × ((list_all is_left vs ≡ true) × ((later.first ≡ way.first) × ((later.dry_run ≡ new.dial.dry_run) × (later.dry_run < 9))))
Attempts way later vs old new (Ok (Some d)) = Drives way.first way.target vs old new (Ok d)
Attempts way later vs old new (Err f) = Drives way.first way.target vs old new (Err f)

abbrev pub TellsDriven : Type 0 → Type 0 → Result (Option Driven) DriveFault → Type 0
TellsDriven finished stopped (Ok None) = Unit {0}
TellsDriven finished stopped (Ok (Some d)) = Tells finished stopped (Ok d)
TellsDriven finished stopped (Err f) = Unit {0}
