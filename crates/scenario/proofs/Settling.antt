-- What waits goes out.
use Rattle.std.proofs.Common.{◌≡◌, ℕ, List, [], ◌++◌, Result, Ok, Err, MatchResult, OnOk, OnErr, refl, ◌∙◌, append-nil}
use Rattle.std.specs.declared.option.Option.{Option}
use Rattle.std.specs.Io.KnownBytes.{Appends}
use Rattle.gate_outside.specs.Causes.{FaultHasCause}
use Rattle.gate_outside.specs.declared.faults.Fault.{Fault}
use Rattle.gate_outside.specs.declared.faults.Fault.TheVariants as outside
use Rattle.scenario.specs.declared.fault.PlayFault.{PlayFault}
use Rattle.scenario.specs.declared.fault.PlayFault.TheVariants.{Read, Write, Line, Spent, Memory}
use Rattle.scenario.specs.declared.file_runner.FileRunner.{FileRunner}
use Rattle.file_lines.specs.Lines.{whole_lines}
use Rattle.scenario.specs.Transcript.{Ending, Whole, text_of, transcript, ending}
use Rattle.gate_outside.specs.Streams.{AppendsFront, Carries, CarriesFront}
use Rattle.scenario.specs.Played.{fault_of, FaultCause, AtFault, Ends, Leaves, Playing, Written, StopsAt, LeavesAt, Anything, Nothing}
use Rattle.gate_outside.proofs.Fronts.{all_sent, front_sent, carries_front}
use Rattle.scenario.proofs.Bytes.{front_so_far}

-- ---- at a fault

leaves_front : (fault : PlayFault) (got got0 : Option (List ℕ)) (waits text : List ℕ) (end : Ending) → Leaves got got0 waits text end fault → CarriesFront got got0 waits text
leaves_front Read got got0 waits text end h = absurd h
leaves_front Write got got0 waits text end h = h
leaves_front (Line line f) got got0 waits text end h = carries_front got got0 waits text h.0
leaves_front Spent got got0 waits text end h = h.0
leaves_front Memory got got0 waits text end h = h

-- what waits was refused
pub front_ends : (refused : Fault) (got got0 got1 : Option (List ℕ)) (waits text : List ℕ) (end : Ending) → AppendsFront got0 got1 waits → CarriesFront got got0 waits text → Ends got got1 text end (fault_of refused)
front_ends outside.Failed got got0 got1 waits text end front h = front_sent got got0 got1 waits text h front
front_ends outside.Memory got got0 got1 waits text end front h = front_sent got got0 got1 waits text h front

pub ends_refused : (fault : PlayFault) (refused : Fault) (got got0 got1 : Option (List ℕ)) (waits text : List ℕ) (end : Ending) → AppendsFront got0 got1 waits → Leaves got got0 waits text end fault → Ends got got1 text end (fault_of refused)
ends_refused fault refused got got0 got1 waits text end front h = front_ends refused got got0 got1 waits text end front (leaves_front fault got got0 waits text end h)

pub refused_cause : (refused : Fault) (before mid now : ℕ) → FaultHasCause {T = Unit {0}} mid now (Err refused) → mid ≡ before → FaultCause before now (fault_of refused)
refused_cause outside.Failed before mid now h same = rw same at (h.failed refl)
refused_cause outside.Memory before mid now h same = h.memory refl ∙ same

-- the fault is no failed write, so the count is as before
pub not_risen : (fault : PlayFault) (before now : ℕ) → ¬ (fault ≡ Write) → FaultCause before now fault → now ≡ before
not_risen Read before now other h = absurd h
not_risen Write before now other h = absurd (other refl)
not_risen (Line line f) before now other h = h
not_risen Spent before now other h = h
not_risen Memory before now other h = h

-- ---- after bytes were played

-- all of it did
written : (got got0 got1 : Option (List ℕ)) (waits0 waits1 : List ℕ) (k : FileRunner) (bytes : List ℕ) → waits1 ≡ [] → Appends got0 got1 waits0 → Playing got got0 waits0 k bytes → Written got got1 waits1 k bytes
written got got0 got1 waits0 waits1 k bytes none wrote playing =
    let text : List ℕ = text_of (whole_lines bytes) in
    let all : Carries got got1 [] text = record { sent = text; is = append-nil text; wrote = all_sent got got0 got1 waits0 text playing.wrote wrote } in
    record {
      playing = record {
        reader = playing.reader;
        part = playing.part;
        represents = playing.represents;
        wrote = rw none all;
        goes_on = playing.goes_on;
      };
      sent = none;
    }

-- after bytes were played, or the last line was, what waits was written
abbrev WrittenAfter : (got got0 got1 : Option (List ℕ)) (waits : List ℕ) (played result : Result (Unit {0}) PlayFault) → Type 0
WrittenAfter got got0 got1 waits played result =
    (text : List ℕ) (end : Ending) → MatchResult played (λ _. CarriesFront got got0 waits text) (Leaves got got0 waits text end) → AtFault result (Ends got got1 text end)

pub feeds : (played result : Result (Unit {0}) PlayFault) (got got0 got1 : Option (List ℕ)) (waits0 waits1 : List ℕ) (k : FileRunner) (bytes : List ℕ)
    → OnErr played (OnOk result ⊥) → OnOk result (Appends got0 got1 waits0 × (waits1 ≡ [])) → WrittenAfter got got0 got1 waits0 played result
    → MatchResult played (λ _. Playing got got0 waits0 k bytes) (LeavesAt got got0 waits0 bytes Anything)
    → MatchResult result (λ _. Written got got1 waits1 k bytes) (StopsAt got got1 bytes Anything)
feeds (Ok x) (Ok y) got got0 got1 waits0 waits1 k bytes fails ok ends playing = written got got0 got1 waits0 waits1 k bytes ok.1 ok.0 playing
feeds (Ok x) (Err fault) got got0 got1 waits0 waits1 k bytes fails ok ends playing =
    λ rest any. ends (transcript (bytes ++ rest)) (ending (bytes ++ rest)) (front_so_far got got0 got1 waits0 waits1 k bytes playing rest)
feeds (Err first) (Ok y) got got0 got1 waits0 waits1 k bytes fails ok ends leaves = absurd fails
feeds (Err first) (Err fault) got got0 got1 waits0 waits1 k bytes fails ok ends leaves =
    λ rest any. ends (transcript (bytes ++ rest)) (ending (bytes ++ rest)) (leaves rest any)

pub finishes : (played result : Result (Unit {0}) PlayFault) (got got0 got1 : Option (List ℕ)) (waits none bytes : List ℕ)
    → OnErr played (OnOk result ⊥) → OnOk result (Appends got0 got1 waits × (none ≡ [])) → WrittenAfter got got0 got1 waits played result
    → MatchResult played (λ _. Carries got got0 waits (transcript bytes) × (ending bytes ≡ Whole)) (LeavesAt got got0 waits bytes Nothing)
    → MatchResult result (λ _. Appends got got1 (transcript bytes) × (ending bytes ≡ Whole)) (StopsAt got got1 bytes Nothing)
finishes (Ok x) (Ok y) got got0 got1 waits none bytes fails ok ends h = (all_sent got got0 got1 waits (transcript bytes) h.0 ok.0, h.1)
finishes (Ok x) (Err fault) got got0 got1 waits none bytes fails ok ends h =
    λ rest end. ends (transcript (bytes ++ rest)) (ending (bytes ++ rest)) (rw end (rw (append-nil bytes) (carries_front got got0 waits (transcript bytes) h.0)))
finishes (Err first) (Ok y) got got0 got1 waits none bytes fails ok ends leaves = absurd fails
finishes (Err first) (Err fault) got got0 got1 waits none bytes fails ok ends leaves =
    λ rest end. ends (transcript (bytes ++ rest)) (ending (bytes ++ rest)) (leaves rest end)

pub ok_after : (played result : Result (Unit {0}) PlayFault) (P : Type 0) → OnErr played (OnOk result ⊥) → OnOk played P → OnOk result P
ok_after (Ok x) (Ok y) P fails p = p
ok_after (Ok x) (Err fault) P fails p = tt
ok_after (Err first) (Ok y) P fails p = absurd fails
ok_after (Err first) (Err fault) P fails p = tt
