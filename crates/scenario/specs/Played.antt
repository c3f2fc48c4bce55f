-- What playing leaves in a source and a sink.
use Rattle.std.specs.Prelude.{◌≡◌, ℕ, ◌+◌, ◌<◌, ◌≤◌, ◌-◌, ◌*◌, List, [], ◌++◌, length, Result, Ok, Err}
use Rattle.std.specs.declared.option.Option.{Option}
use Rattle.std.specs.declared.option.Option.TheVariants.{Some}
use Rattle.std.specs.Io.KnownBytes.{Appends, Consumes, IsAtEnd}
use Rattle.gate_outside.specs.Causes.{Rose}
use Rattle.gate_outside.specs.Streams.{AppendsFront, Carries, CarriesFront}
use Rattle.gate_outside.specs.declared.faults.Fault.{Fault}
use Rattle.gate_outside.specs.declared.faults.Fault.TheVariants as outside
use Rattle.edit_text.specs.declared.reader_state.ReaderState.{ReaderState}
use Rattle.worker_core.specs.declared.io.StepFault.{StepFault}
use Rattle.worker_core.specs.declared.io.StepFault.TheVariants as step
use Rattle.scenario.specs.declared.fault.PlayFault.{PlayFault}
use Rattle.scenario.specs.declared.fault.PlayFault.TheVariants.{Read, Write, Line, Spent, Memory}
use Rattle.scenario.specs.declared.server.Server.{Server as KeptServer}
use Rattle.scenario.specs.declared.server.Answer.{Answer}
use Rattle.scenario.specs.declared.file_runner.FileRunner.{FileRunner}
use Rattle.file_lines.specs.Lines.{whole_lines, tail}
use Rattle.scenario.specs.Server.{Server}
use Rattle.scenario.specs.Transcript.{head_text, outputs_text, Ending, Whole, Stops, Spends, after_run, run_text, run_ending, text_of, ending_of, reader_of, server_of, transcript, ending}
use Rattle.scenario.specs.Represents.{Represents}

-- ---- the faults of the crates below, as faults of a play

abbrev pub fault_of : Fault → PlayFault
fault_of outside.Failed = Write
fault_of outside.Memory = Memory

abbrev pub step_fault : StepFault → PlayFault
step_fault step.Spent = Spent
step_fault step.Memory = Memory

-- ---- what was written

-- a sink's count rose exactly if the fault is that a write failed
abbrev pub FaultCause : (before now : ℕ) → PlayFault → Type 0
FaultCause before now Read = ⊥
FaultCause before now Write = Rose before now
FaultCause before now (Line line fault) = now ≡ before
FaultCause before now Spent = now ≡ before
FaultCause before now Memory = now ≡ before

abbrev pub WriteCause : {T : Type 0} → (before now : ℕ) → Result T PlayFault → Type 0
WriteCause before now (Ok x) = now ≡ before
WriteCause before now (Err fault) = FaultCause before now fault

-- ---- one line

-- the transcript of a line of this number, for a server after its step
abbrev pub answer_text : Server → ℕ → Answer → List ℕ
answer_text p number a = head_text number a.refusal a.lagged ++ outputs_text p number a.outputs.items

-- how a text of this ending was left: with the fault of a line whole, else a front of it
abbrev pub Ends : (got0 got1 : Option (List ℕ)) → List ℕ → Ending → PlayFault → Type 0
Ends got0 got1 text end Read = ⊥
Ends got0 got1 text end Write = AppendsFront got0 got1 text
Ends got0 got1 text end (Line line fault) = Appends got0 got1 text × (end ≡ Stops line fault)
Ends got0 got1 text end Spent = AppendsFront got0 got1 text × (end ≡ Spends)
Ends got0 got1 text end Memory = AppendsFront got0 got1 text

-- the same, where what was written of it may still wait
abbrev pub Leaves : (got0 got1 : Option (List ℕ)) → (waits text : List ℕ) → Ending → PlayFault → Type 0
Leaves got0 got1 waits text end Read = ⊥
Leaves got0 got1 waits text end Write = CarriesFront got0 got1 waits text
Leaves got0 got1 waits text end (Line line fault) = Carries got0 got1 waits text × (end ≡ Stops line fault)
Leaves got0 got1 waits text end Spent = CarriesFront got0 got1 waits text × (end ≡ Spends)
Leaves got0 got1 waits text end Memory = CarriesFront got0 got1 waits text

-- what holds of the fault, if there is one
abbrev pub AtFault : {T : Type 0} → Result T PlayFault → (PlayFault → Type 0) → Type 0
AtFault (Ok x) P = Unit {0}
AtFault (Err fault) P = P fault

-- a line that was played, after what waited before
abbrev pub RunsLine : ReaderState → Server → List ℕ → (got0 got1 : Option (List ℕ)) → (waits0 waits1 : List ℕ) → KeptServer → Type 0
RunsLine r p line got0 got1 waits0 waits1 new = Represents new (after_run r p line) × (Carries got0 got1 waits1 (waits0 ++ run_text r p line) × (run_ending r p line ≡ Whole))

-- a line that was read is not too long, and neither is the file
pub record IsCounted (old : ReaderState) (line : List ℕ) (new : ReaderState) : Type 0 where
  pub few : old.lines < 1000000
  pub short : length line ≤ 65536
  pub next : new.lines ≡ old.lines + 1

-- ---- bytes

-- all lines among the bytes that end with a line feed were played
pub record Playing (got0 got1 : Option (List ℕ)) (waits : List ℕ) (k : FileRunner) (bytes : List ℕ) : Type 0 where
  pub reader : k.reader ≡ reader_of (whole_lines bytes)
  pub part : k.part.items ≡ tail bytes
  pub represents : Represents k.server (server_of (whole_lines bytes))
  pub wrote : Carries got0 got1 waits (text_of (whole_lines bytes))
  pub goes_on : ending_of (whole_lines bytes) ≡ Whole

-- and all that comes of them went out
pub record Written (got0 got1 : Option (List ℕ)) (waits : List ℕ) (k : FileRunner) (bytes : List ℕ) : Type 0 where
  pub playing : Playing got0 got1 waits k bytes
  pub sent : waits ≡ []

-- how a play stopped among these bytes, whichever of these bytes follow
abbrev pub StopsAt : (got0 got1 : Option (List ℕ)) → List ℕ → (List ℕ → Type 0) → PlayFault → Type 0
StopsAt got0 got1 bytes Follows fault = (rest : List ℕ) → Follows rest → Ends got0 got1 (transcript (bytes ++ rest)) (ending (bytes ++ rest)) fault

-- the same, where the end of its transcript may still wait
abbrev pub LeavesAt : (got0 got1 : Option (List ℕ)) → (waits bytes : List ℕ) → (List ℕ → Type 0) → PlayFault → Type 0
LeavesAt got0 got1 waits bytes Follows fault = (rest : List ℕ) → Follows rest → Leaves got0 got1 waits (transcript (bytes ++ rest)) (ending (bytes ++ rest)) fault

abbrev pub Anything : List ℕ → Type 0
Anything rest = Unit {0}

abbrev pub Nothing : List ℕ → Type 0
Nothing rest = rest ≡ []

-- no line is too long so far
abbrev pub Fits : FileRunner → Type 0
Fits k = (k.reader.lines ≤ 1000000) × (length k.part.items ≤ 65536)

-- more than the bytes that may come before a line is refused for its length or its number
abbrev pub room : FileRunner → ℕ
room k = (1000001 - k.reader.lines) * 65538 - length k.part.items

-- ---- a whole play

-- the whole of the source was read, and the sink got its transcript, which no line ends, after the bytes that waited
-- there before
abbrev pub PlaysAll : (left0 left1 got0 got1 : Option (List ℕ)) → (before : List ℕ) → Type 0
PlaysAll left0 left1 got0 got1 before = (bytes : List ℕ) × Consumes left0 left1 bytes × IsAtEnd left1 × Appends got0 got1 (before ++ transcript bytes) × (ending bytes ≡ Whole)

-- the sink got, after these, the transcript of the whole lines that were read, none of which ends it
abbrev pub PlaysLines : (left0 left1 got0 got1 : Option (List ℕ)) → (before : List ℕ) → Type 0
PlaysLines left0 left1 got0 got1 before = (bytes : List ℕ) × Consumes left0 left1 bytes × Appends got0 got1 (before ++ text_of (whole_lines bytes)) × (ending_of (whole_lines bytes) ≡ Whole)

-- the sink got so much of these and the transcript as the fault says; the bytes that are left follow those that were
-- read
abbrev pub PlaysPart : (left0 left1 got0 got1 : Option (List ℕ)) → (before : List ℕ) → PlayFault → Type 0
PlaysPart left0 left1 got0 got1 before fault =
    (bytes : List ℕ) × Consumes left0 left1 bytes
    × ((rest : List ℕ) → left1 ≡ Some rest → Ends got0 got1 (before ++ transcript (bytes ++ rest)) (ending (bytes ++ rest)) fault)

-- what a play that did not end well leaves
abbrev pub PlaysTo : (left0 left1 got0 got1 : Option (List ℕ)) → (before : List ℕ) → PlayFault → Type 0
PlaysTo left0 left1 got0 got1 before Read = PlaysLines left0 left1 got0 got1 before
PlaysTo left0 left1 got0 got1 before Write = PlaysPart left0 left1 got0 got1 before Write
PlaysTo left0 left1 got0 got1 before (Line line fault) = PlaysPart left0 left1 got0 got1 before (Line line fault)
PlaysTo left0 left1 got0 got1 before Spent = PlaysPart left0 left1 got0 got1 before Spent
PlaysTo left0 left1 got0 got1 before Memory = PlaysPart left0 left1 got0 got1 before Memory

-- a fault of the source or the sink is answered exactly if its count rose
abbrev pub PlayCause : (read0 read1 write0 write1 : ℕ) → Result (Unit {0}) PlayFault → Type 0
PlayCause read0 read1 write0 write1 (Ok x) = (read1 ≡ read0) × (write1 ≡ write0)
PlayCause read0 read1 write0 write1 (Err Read) = Rose read0 read1 × (write1 ≡ write0)
PlayCause read0 read1 write0 write1 (Err Write) = (read1 ≡ read0) × Rose write0 write1
PlayCause read0 read1 write0 write1 (Err (Line line fault)) = (read1 ≡ read0) × (write1 ≡ write0)
PlayCause read0 read1 write0 write1 (Err Spent) = (read1 ≡ read0) × (write1 ≡ write0)
PlayCause read0 read1 write0 write1 (Err Memory) = (read1 ≡ read0) × (write1 ≡ write0)
