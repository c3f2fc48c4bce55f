-- A whole play.
use Rattle.std.proofs.Common.{◌≡◌, ℕ, List, [], ◌++◌, Result, Ok, Err, MatchResult, refl, sym, ap, ◌∙◌, subst, append_assoc}
use Rattle.std.specs.declared.option.Option.{Option}
use Rattle.std.specs.declared.option.Option.TheVariants.{Some, None}
use Rattle.std.specs.Io.KnownBytes.{Appends, Consumes, IsAtEnd}
use Rattle.std.proofs.KnownBytes.{Appends-trans, Consumes-nil}
use Rattle.gate_outside.specs.Causes.{FaultHasCause}
use Rattle.gate_outside.specs.Streams.{AppendsFront}
use Rattle.gate_outside.specs.declared.faults.Fault.{Fault}
use Rattle.gate_outside.specs.declared.faults.Fault.TheVariants as outside
use Rattle.scenario.specs.declared.fault.PlayFault.{PlayFault}
use Rattle.scenario.specs.declared.fault.PlayFault.TheVariants.{Read, Write, Line, Spent, Memory}
use Rattle.scenario.specs.declared.file_runner.FileRunner.{FileRunner}
use Rattle.file_lines.specs.Lines.{whole_lines}
use Rattle.scenario.specs.Transcript.{Ending, Whole, text_of, transcript, ending}
use Rattle.scenario.specs.Played.{fault_of, Ends, Written, StopsAt, Anything, Nothing, PlaysAll, PlaysLines, PlaysPart, PlaysTo, PlayCause}
use Rattle.gate_outside.proofs.Fronts.{all_written}

pub plays_to : (fault : PlayFault) (left0 left1 got0 got1 : Option (List ℕ)) (bytes : List ℕ) → Consumes left0 left1 bytes → StopsAt got0 got1 bytes Anything fault → PlaysTo left0 left1 got0 got1 [] fault
plays_to Read left0 left1 got0 got1 bytes read stops = absurd (stops [] tt)
plays_to Write left0 left1 got0 got1 bytes read stops = (bytes, read, λ rest is. stops rest tt)
plays_to (Line line fault) left0 left1 got0 got1 bytes read stops = (bytes, read, λ rest is. stops rest tt)
plays_to Spent left0 left1 got0 got1 bytes read stops = (bytes, read, λ rest is. stops rest tt)
plays_to Memory left0 left1 got0 got1 bytes read stops = (bytes, read, λ rest is. stops rest tt)

end_rest : (left : Option (List ℕ)) (rest : List ℕ) → IsAtEnd left → left ≡ Some rest → rest ≡ []
end_rest None rest at is = absurd (cc)
end_rest (Some xs) rest at is = cc

plays_to_end : (fault : PlayFault) (left0 left1 got0 got1 : Option (List ℕ)) (bytes : List ℕ) → Consumes left0 left1 bytes → IsAtEnd left1 → StopsAt got0 got1 bytes Nothing fault → PlaysTo left0 left1 got0 got1 [] fault
plays_to_end Read left0 left1 got0 got1 bytes read at stops = absurd (stops [] refl)
plays_to_end Write left0 left1 got0 got1 bytes read at stops = (bytes, read, λ rest is. stops rest (end_rest left1 rest at is))
plays_to_end (Line line fault) left0 left1 got0 got1 bytes read at stops = (bytes, read, λ rest is. stops rest (end_rest left1 rest at is))
plays_to_end Spent left0 left1 got0 got1 bytes read at stops = (bytes, read, λ rest is. stops rest (end_rest left1 rest at is))
plays_to_end Memory left0 left1 got0 got1 bytes read at stops = (bytes, read, λ rest is. stops rest (end_rest left1 rest at is))

-- the source is at its end
pub plays_end : (left0 left1 got0 got1 : Option (List ℕ)) (r : Result (Unit {0}) PlayFault) (bytes : List ℕ) → Consumes left0 left1 bytes → IsAtEnd left1
    → MatchResult r (λ _. Appends got0 got1 (transcript bytes) × (ending bytes ≡ Whole)) (StopsAt got0 got1 bytes Nothing)
    → MatchResult r (λ _. PlaysAll left0 left1 got0 got1 []) (PlaysTo left0 left1 got0 got1 [])
plays_end left0 left1 got0 got1 (Ok x) bytes read at h = (bytes, read, at, h.0, h.1)
plays_end left0 left1 got0 got1 (Err fault) bytes read at h = plays_to_end fault left0 left1 got0 got1 bytes read at h

-- the source has failed
pub plays_lines : (left0 left1 got0 got1 : Option (List ℕ)) (waits : List ℕ) (k : FileRunner) (bytes : List ℕ) → Consumes left0 left1 bytes → Written got0 got1 waits k bytes → PlaysLines left0 left1 got0 got1 []
plays_lines left0 left1 got0 got1 waits k bytes read w = (bytes, read, all_written got0 got1 waits (text_of (whole_lines bytes)) w.sent w.playing.wrote, w.playing.goes_on)

pub plays_err : (left0 left1 got0 got1 : Option (List ℕ)) (r : Result (Unit {0}) PlayFault) (f g : PlayFault) → r ≡ Err f → f ≡ g → PlaysTo left0 left1 got0 got1 [] g
    → MatchResult r (λ _. PlaysAll left0 left1 got0 got1 []) (PlaysTo left0 left1 got0 got1 [])
plays_err left0 left1 got0 got1 r f g is same h =
    subst (λ (s : Result (Unit {0}) PlayFault). MatchResult s (λ _. PlaysAll left0 left1 got0 got1 []) (PlaysTo left0 left1 got0 got1 [])) (sym (is ∙ ap Err same)) h

-- ---- what waited before

-- it went out
module _ (got0 got1 got2 : Option (List ℕ)) (before : List ℕ) (wrote : Appends got0 got1 before) where
  front_after : (text : List ℕ) → AppendsFront got1 got2 text → AppendsFront got0 got2 (before ++ text)
  front_after text h = (before ++ h.0, h.1, append_assoc before h.0 h.1 ∙ ap (λ l. before ++ l) h.2, Appends-trans got0 got1 got2 before h.0 wrote h.3)

  ends_after : (fault : PlayFault) (text : List ℕ) (end : Ending) → Ends got1 got2 text end fault → Ends got0 got2 (before ++ text) end fault
  ends_after Read text end h = h
  ends_after Write text end h = front_after text h
  ends_after (Line line f) text end h = (Appends-trans got0 got1 got2 before text wrote h.0, h.1)
  ends_after Spent text end h = (front_after text h.0, h.1)
  ends_after Memory text end h = front_after text h

  module _ (left0 left1 : Option (List ℕ)) where
    part_after : (fault : PlayFault) → PlaysPart left0 left1 got1 got2 [] fault → PlaysPart left0 left1 got0 got2 before fault
    part_after fault h = (h.0, h.1, λ rest is. ends_after fault (transcript (h.0 ++ rest)) (ending (h.0 ++ rest)) (h.2 rest is))

    to_after : (fault : PlayFault) → PlaysTo left0 left1 got1 got2 [] fault → PlaysTo left0 left1 got0 got2 before fault
    to_after Read h = (h.0, h.1, Appends-trans got0 got1 got2 before (text_of (whole_lines h.0)) wrote h.2, h.3)
    to_after Write h = part_after Write h
    to_after (Line line f) h = part_after (Line line f) h
    to_after Spent h = part_after Spent h
    to_after Memory h = part_after Memory h

    pub plays_after : (r : Result (Unit {0}) PlayFault) → MatchResult r (λ _. PlaysAll left0 left1 got1 got2 []) (PlaysTo left0 left1 got1 got2 [])
        → MatchResult r (λ _. PlaysAll left0 left1 got0 got2 before) (PlaysTo left0 left1 got0 got2 before)
    plays_after (Ok x) h = (h.0, h.1, h.2, Appends-trans got0 got1 got2 before (transcript h.0) wrote h.3, h.4)
    plays_after (Err fault) h = to_after fault h

front_before : (got0 got1 : Option (List ℕ)) (before text : List ℕ) → AppendsFront got0 got1 before → AppendsFront got0 got1 (before ++ text)
front_before got0 got1 before text h = (h.0, h.1 ++ text, sym (append_assoc h.0 h.1 text) ∙ ap (λ l. l ++ text) h.2, h.3)

-- it was refused, and nothing was read
pub plays_none : (refused : Fault) (left got0 got1 : Option (List ℕ)) (before : List ℕ) → AppendsFront got0 got1 before → PlaysTo left left got0 got1 before (fault_of refused)
plays_none outside.Failed left got0 got1 before front = ([], Consumes-nil left, λ rest is. front_before got0 got1 before (transcript rest) front)
plays_none outside.Memory left got0 got1 before front = ([], Consumes-nil left, λ rest is. front_before got0 got1 before (transcript rest) front)

pub cause_none : (refused : Fault) (read write0 write1 : ℕ) → FaultHasCause {T = Unit {0}} write0 write1 (Err refused) → PlayCause read read write0 write1 (Err (fault_of refused))
cause_none outside.Failed read write0 write1 h = (refl, h.failed refl)
cause_none outside.Memory read write0 write1 h = (refl, h.memory refl)
