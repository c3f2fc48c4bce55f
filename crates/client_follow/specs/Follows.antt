-- What a client that follows a gateway has done.
use Rattle.std.specs.Prelude.{◌≡◌, ◌⊎◌, ℕ, List, [], ◌++◌, length, false, Option, Some, Result, Ok, Err}
use Rattle.std.specs.Io.KnownBytes.{Appends}
use Rattle.gate_outside.specs.Causes.{Rose}
use Rattle.gate_outside.specs.Clocks.{ClockTale}
use Rattle.gate_outside.specs.Dials.{DialTale}
use Rattle.gate_outside.specs.Streams.{AppendsFront}
use Rattle.dispatch_types.specs.Fold.{fold}
use Rattle.client_cache.specs.Cached.{Cached, held_of}
use Rattle.client_session.specs.State.{ClientState, new_client, empty_cache}
use Rattle.client_run.specs.declared.driven.Driven.{Driven}
use Rattle.client_run.specs.declared.driven.Driven.TheVariants as driven
use Rattle.client_run.specs.declared.fault.DriveFault.{DriveFault}
use Rattle.client_run.specs.declared.fault.DriveFault.TheVariants as drive
use Rattle.client_run.specs.declared.target.Target.TheVariants.{First}
use Rattle.client_run.specs.Histories.{Visit, all_told, dispatches, events, lines}
use Rattle.client_run.specs.Drives.{Drives, outside, seen}
use Rattle.client_run.specs.Watched.{WatchTale, text_of}
use Rattle.client_follow.specs.declared.fault.FollowFault.{FollowFault}
use Rattle.client_follow.specs.declared.fault.FollowFault.TheVariants.{Write, Dials, Closed, BadText, Memory}
use Rattle.client_follow.specs.declared.following.Following.{Following}
use Rattle.client_follow.specs.Lines.{AreGuildLines, closed_line, bad_text_line}

-- what a sink tells
pub record SinkTale : Type 0 where
  pub got : Option (List ℕ)
  pub waits : List ℕ
  pub faults : ℕ

abbrev pub sink_tale : Option (List ℕ) → List ℕ → ℕ → SinkTale
sink_tale got waits faults = record { got = got; waits = waits; faults = faults }

-- the lines of all dispatches that the client was told, in order
abbrev pub lines_of : List Visit → List (List ℕ)
lines_of vs = lines (events (all_told vs))

-- what the watcher tells before the first dispatch
abbrev pub before_all : ℕ → SinkTale → WatchTale
before_all count sink = record { count = Some 0; goal = Some count; got = sink.got; waits = sink.waits; faults = sink.faults; failed = false }

-- what is said of a fault
abbrev pub fault_line : DriveFault → List ℕ
fault_line drive.Dials = []
fault_line (drive.Out code) = closed_line code
fault_line drive.BadText = bad_text_line
fault_line drive.Memory = []

-- what is written after the lines, by how the client ended and what it then holds
abbrev pub Says : Cached → Result Driven DriveFault → List ℕ → Type 0
Says c (Ok driven.Finished) text = AreGuildLines c text
Says c (Ok driven.Stopped) text = text ≡ []
Says c (Err f) text = text ≡ fault_line f

-- the answer by how the client ended: it is stopped only where its sink has failed
abbrev pub answer_of : Result Driven DriveFault → Result (Unit {0}) FollowFault
answer_of (Ok driven.Finished) = Ok tt
answer_of (Ok driven.Stopped) = Err Write
answer_of (Err drive.Dials) = Err Dials
answer_of (Err (drive.Out code)) = Err (Closed code)
answer_of (Err drive.BadText) = Err BadText
answer_of (Err drive.Memory) = Err Memory

-- that answer; or memory ran out at the end, or the sink failed there and nothing else was wrong
abbrev pub IsAnswer : Result Driven DriveFault → Result (Unit {0}) FollowFault → Type 0
IsAnswer ended result = (result ≡ answer_of ended) ⊎ ((result ≡ Err Memory) ⊎ ((ended ≡ Ok driven.Finished) × (result ≡ Err Write)))

-- the whole text went out after what waited, or if the sink failed a front of both
abbrev pub GoesOut : List ℕ → SinkTale → SinkTale → Type 0
GoesOut text old new = Appends old.got new.got (old.waits ++ text) ⊎ (AppendsFront old.got new.got (old.waits ++ text) × Rose old.faults new.faults)

-- how it went out, by the answer
abbrev pub Writes : List ℕ → SinkTale → SinkTale → Result (Unit {0}) FollowFault → Type 0
Writes text old new (Ok u) = Appends old.got new.got (old.waits ++ text) × (new.waits ≡ [])
Writes text old new (Err Write) = AppendsFront old.got new.got (old.waits ++ text) × Rose old.faults new.faults
Writes text old new (Err Dials) = GoesOut text old new
Writes text old new (Err (Closed code)) = GoesOut text old new
Writes text old new (Err BadText) = GoesOut text old new
Writes text old new (Err Memory) = AppendsFront old.got new.got (old.waits ++ text)

-- the client that it begins as
abbrev pub client_of : Following → ClientState Cached
client_of f = new_client f.token f.intents (empty_cache f.intents)

-- what is outside the client
pub record Around : Type 0 where
  pub dial : DialTale
  pub clock : ClockTale
  pub sink : SinkTale

abbrev pub around : DialTale → ClockTale → SinkTale → Around
around dial clock sink = record { dial = dial; clock = clock; sink = sink }

-- a client followed its gateway in these visits: it was driven so, and of each guild it holds the fold of
-- all dispatches that it was told; the line of each went out, and then what is said at the end; with no
-- fault there are as many as were asked for
pub record Follows (f : Following) (vs : List Visit) (old new : Around) (result : Result (Unit {0}) FollowFault) : Type 0 where
  pub client : ClientState Cached
  pub ended : Result Driven DriveFault
  pub told : WatchTale
  pub said : List ℕ
  pub drives : Drives f.url First vs (outside (client_of f) old.dial (seen old.clock (before_all f.count old.sink))) (outside client new.dial (seen new.clock told)) ended
  pub holds : (g : ℕ) → held_of client.kept g ≡ fold f.intents g (dispatches (all_told vs))
  pub count : ended ≡ Ok driven.Finished → length (lines_of vs) ≡ f.count
  pub says : Says client.kept ended said
  pub answer : IsAnswer ended result
  pub writes : Writes (text_of (lines_of vs) ++ said) old.sink new.sink result
