-- What a client has done once it ends.
use Rattle.std.specs.Prelude.{◌≡◌, ◌⊎◌, ℕ, ◌<◌, List, [], ◌∷◌, ◌++◌, map, true, Option, Some, None, Result, Ok, Err}
use Rattle.std.specs.List.{list_all}
use Rattle.dispatch_types.specs.Fold.{fold}
use Rattle.gate_outside.specs.Clocks.{ClockTale, Ticks}
use Rattle.gate_outside.specs.Dials.{DialTale}
use Rattle.open_links.specs.Links.{with_more}
use Rattle.client_cache.specs.Cached.{Cached, held_of}
use Rattle.client_session.specs.declared.session.Session.{Session}
use Rattle.client_session.specs.Received.{IsUnread}
use Rattle.client_session.specs.State.{ClientState, new_client, empty_cache}
use Rattle.client_session.specs.Step.{Event, Receives, Loses, Asks}
use Rattle.client_session.specs.Table.{is_final}
use Rattle.client_run.specs.declared.target.Target.{Target}
use Rattle.client_run.specs.declared.target.Target.TheVariants.{First, Resume}
use Rattle.client_run.specs.declared.driven.Driven.{Driven}
use Rattle.client_run.specs.declared.driven.Driven.TheVariants as driven
use Rattle.client_run.specs.declared.fault.DriveFault.{DriveFault}
use Rattle.client_run.specs.declared.fault.DriveFault.TheVariants as fault
use Rattle.client_run.specs.declared.watch.Wants.{Wants}
use Rattle.client_run.specs.declared.watch.Wants.TheVariants as wants
use Rattle.std.specs.declared.alloc.AllocError.{AllocError}
use Rattle.client_run.specs.Histories.{Told, told, Left, Finished, Stopped, Unread, Visit, Missed, Opened, events, lines, dispatches, left_to, url_of, all_told, is_left, StepsAll}
use Rattle.client_run.specs.Links.{HaveComeBack}
use Rattle.client_run.specs.Watched.{WatchTale, HasTold, HasToldFront}

-- ---- where it connects

-- to the first URL, or to the one that READY gave
abbrev pub url_by : List ℕ → Target → Option Session → List ℕ
url_by first First session = first
url_by first Resume None = first
url_by first Resume (Some s) = s.url

-- where it connects after a connection
abbrev pub after_visit : Option Target → Target
after_visit None = First
after_visit (Some target) = target

-- from visit to visit: each URL, and what the client was told there
abbrev pub Leads : List ℕ → Target → ClientState Cached → List Visit → Target → ClientState Cached → Type 0
Leads first target old [] last new = (last ≡ target) × (new ≡ old)
Leads first target old (Missed url ∷ vs) last new =
    (url ≡ url_by first target old.session) × Leads first target old vs last new
Leads first target old (Opened url ts end ∷ vs) last new =
    (url ≡ url_by first target old.session) × ((mid : ClientState Cached)
    × (StepsAll old ts mid × Leads first (after_visit (left_to ts)) mid vs last new))

-- ---- when

-- each turn asks the clock once, and the client is told that moment
abbrev pub Timed : ClockTale → List Event → ClockTale → Type 0
Timed old [] new = new ≡ old
Timed old (Asks now ∷ es) new = (mid : ClockTale) × (Ticks old mid now × Timed mid es new)
Timed old (Receives payload now ∷ es) new = (now ≡ old.latest) × Timed old es new
Timed old (Loses code ∷ es) new = Timed old es new

-- ---- what the watcher tells

-- what the clock and the watcher tell
pub record Seen : Type 0 where
  pub clock : ClockTale
  pub told : WatchTale

abbrev pub seen : ClockTale → WatchTale → Seen
seen clock told = record { clock = clock; told = told }

-- the client is told the clock's moments, and the watcher is asked after each dispatch, in order
pub record Sees (old : Seen) (es : List Event) (new : Seen) : Type 0 where
  pub times : Timed old.clock es new.clock
  pub told : HasTold old.told (lines es) new.told

-- ---- the whole

-- the client, and what is outside it, as it tells
pub record Outside : Type 0 where
  pub client : ClientState Cached
  pub dial : DialTale
  pub seen : Seen

abbrev pub outside : ClientState Cached → DialTale → Seen → Outside
outside client dial told = record { client = client; dial = dial; seen = told }

-- these visits were made one after another
pub record Goes (first : List ℕ) (target : Target) (vs : List Visit) (last : Target) (old new : Outside) : Type 0 where
  pub leads : Leads first target old.client vs last new.client
  pub urls : new.dial.urls ≡ with_more old.dial.urls (map url_of vs)
  pub links : HaveComeBack vs old.dial.returned new.dial.returned
  pub sees : Sees old.seen (events (all_told vs)) new.seen

-- the last visit is such a one, and each before it failed or was left
pub record EndsWith (P : Visit → Type 0) (vs : List Visit) : Type 0 where
  pub front : List Visit
  pub last : Visit
  pub parts : vs ≡ front ++ last ∷ []
  pub left : list_all is_left front ≡ true
  pub ends : P last

abbrev pub IsFinished : Visit → Type 0
IsFinished (Missed url) = ⊥
IsFinished (Opened url ts end) = end ≡ Finished

abbrev pub IsStopped : Visit → Type 0
IsStopped (Missed url) = ⊥
IsStopped (Opened url ts end) = end ≡ Stopped

-- the link gave a code after which the client may not connect again
abbrev pub IsOut : ℕ → Visit → Type 0
IsOut code (Missed url) = ⊥
IsOut code (Opened url ts end) =
    (end ≡ Left) × ((is_final code ≡ true)
    × ((before : List Told) × (ts ≡ before ++ told (Loses (Some code)) [] ∷ [])))

-- the link gave a text that is no payload
abbrev pub IsBadText : Visit → Type 0
IsBadText (Missed url) = ⊥
IsBadText (Opened url ts end) = (text : List ℕ) × ((end ≡ Unread text) × IsUnread text)

-- why it ended, by the last visit
abbrev pub Answers : List Visit → Result Driven DriveFault → Type 0
Answers vs (Ok driven.Finished) = EndsWith IsFinished vs
Answers vs (Ok driven.Stopped) = (list_all is_left vs ≡ true) ⊎ EndsWith IsStopped vs
Answers vs (Err (fault.Out code)) = EndsWith (IsOut code) vs
Answers vs (Err fault.BadText) = EndsWith IsBadText vs
Answers vs (Err fault.Dials) = Unit {0}
Answers vs (Err fault.Memory) = Unit {0}

-- `Dials` exactly if the dry run has reached nine
abbrev pub DryRun : {A : Type 0} → ℕ → Result A DriveFault → Type 0
DryRun dry (Ok x) = dry < 9
DryRun dry (Err (fault.Out code)) = dry < 9
DryRun dry (Err fault.BadText) = dry < 9
DryRun dry (Err fault.Dials) = dry ≡ 9
DryRun dry (Err fault.Memory) = Unit {0}

-- what a client has done: its visits, and why it ended. Where memory ran out, the clock may have
-- answered once more, and the watcher tells a front of the lines
pub record Drives (first : List ℕ) (target : Target) (vs : List Visit) (old new : Outside) (result : Result Driven DriveFault) : Type 0 where
  pub last : Target
  pub seen : Seen
  pub goes : Goes first target vs last old (record new { seen = seen })
  pub time : ((result ≡ Err fault.Memory) × HasToldFront old.seen.told (lines (events (all_told vs))) new.seen.told) ⊎ (new.seen ≡ seen)
  pub dry_run : DryRun new.dial.dry_run result
  pub answers : Answers vs result

-- of each guild a client that was new holds the fold of all dispatches that it was told
abbrev pub Folds : ClientState Cached → List Visit → ClientState Cached → Type 0
Folds old vs new = (token : List ℕ) (intents g : ℕ) → old ≡ new_client token intents (empty_cache intents)
    → held_of new.kept g ≡ fold intents g (dispatches (all_told vs))

-- ---- what the watcher says

-- what it wants holds where it says so
abbrev pub Warrants : Type 0 → Type 0 → Result Wants AllocError → Type 0
Warrants finished stopped (Ok wants.GoOn) = Unit {0}
Warrants finished stopped (Ok wants.Reconnect) = Unit {0}
Warrants finished stopped (Ok wants.Finish) = finished
Warrants finished stopped (Ok wants.Stop) = stopped
Warrants finished stopped (Err e) = Unit {0}

-- how often it wants its client to connect again
abbrev pub wanted_again : Result Wants AllocError → ℕ
wanted_again (Ok wants.GoOn) = 0
wanted_again (Ok wants.Reconnect) = 1
wanted_again (Ok wants.Finish) = 0
wanted_again (Ok wants.Stop) = 0
wanted_again (Err e) = 0

-- and so the answer tells it
abbrev pub Tells : Type 0 → Type 0 → Result Driven DriveFault → Type 0
Tells finished stopped (Ok driven.Finished) = finished
Tells finished stopped (Ok driven.Stopped) = stopped
Tells finished stopped (Err e) = Unit {0}
