-- What waits goes out after a lift.
use Rattle.std.proofs.Common.{◌≡◌, ℕ, ◌≤◌, List, [], ◌++◌, Result, Ok, Err, refl, sym, ap, ◌∙◌, subst, append_assoc, append-nil, arith}
use Rattle.std.specs.declared.option.Option.{Option}
use Rattle.std.specs.declared.option.Option.TheVariants.{Some}
use Rattle.std.specs.Io.KnownBytes.{Appends, Consumes}
use Rattle.gate_outside.specs.Causes.{Rose, FaultHasCause}
use Rattle.gate_outside.specs.declared.faults.Fault.{Fault}
use Rattle.gate_outside.specs.declared.faults.Fault.TheVariants as outside
use Rattle.gate_outside.specs.Streams.{AppendsFront, Carries, CarriesFront}
use Rattle.gate_outside.proofs.Fronts.{all_sent, front_sent, all_front, carries_front}
use Rattle.edit_text.specs.declared.line.FileKind.TheVariants.{Run}
use Rattle.edit_text.specs.Reader.{first_reader, reader_from}
use Rattle.file_lines.specs.Lines.{whole_lines, tail}
use Rattle.file_lines.proofs.Lists.{lines_from, lines-more}
use Rattle.file_lift.specs.declared.fault.LiftFault.{LiftFault}
use Rattle.file_lift.specs.declared.fault.LiftFault.TheVariants.{Read, Write, Line, Memory}
use Rattle.file_lift.specs.Lifted.{written_from, lifted_file}
use Rattle.file_lift.specs.Lifting.{Lifts, LiftCause, write_fault}
use Rattle.file_lift.proofs.Going.{rest_none}
use Rattle.file_lift.proofs.Laws.{written-more}

front_more : (got0 got1 : Option (List ℕ)) (text later : List ℕ) → AppendsFront got0 got1 text → AppendsFront got0 got1 (text ++ later)
front_more got0 got1 text later h = (h.0, h.1 ++ later, sym (append_assoc h.0 h.1 later) ∙ ap (λ l. l ++ later) h.2, h.3)

-- what went out is a front, also of what waits
front_out : (got0 got1 : Option (List ℕ)) (waits text : List ℕ) → CarriesFront got0 got1 waits text → AppendsFront got0 got1 text
front_out got0 got1 waits text h = (h.sent, waits ++ h.back, sym (append_assoc h.sent waits h.back) ∙ h.is, h.wrote)

module _ (left0 left1 got0 got1 got2 : Option (List ℕ)) (waits before : List ℕ) where
  abbrev Waits : Result (Unit {0}) LiftFault → Type 0
  Waits r = Lifts left0 left1 before (Carries got0 got1 waits) (CarriesFront got0 got1 waits) r

  abbrev Out : Result (Unit {0}) LiftFault → Type 0
  Out r = Lifts left0 left1 before (Appends got0 got2) (AppendsFront got0 got2) r

  -- nothing more goes out after a write that failed
  pub write_failed : (r : Result (Unit {0}) LiftFault) (fault : LiftFault) → r ≡ Err fault → fault ≡ Write → got2 ≡ got1 → Waits r → Out (Err Write)
  write_failed r fault is write same h =
      let failed : Waits (Err Write) = subst Waits (is ∙ ap Err write) h in
      (failed.0, failed.1, λ rest at. rw same (front_out got0 got1 waits (before ++ lifted_file (failed.0 ++ rest)) (failed.2 rest at)))

  module _ (wrote : Appends got1 got2 waits) where
    all_out : (text : List ℕ) → Carries got0 got1 waits text → Appends got0 got2 text
    all_out text h = all_sent got0 got1 got2 waits text h wrote

    rest_out : (text : List ℕ) → CarriesFront got0 got1 waits text → AppendsFront got0 got2 text
    rest_out text h = front_sent got0 got1 got2 waits text h (all_front got1 got2 waits wrote)

    pub flushed : (r : Result (Unit {0}) LiftFault) → Waits r → Out r
    flushed (Ok x) h = (h.0, h.1, h.2, h.3, h.4, all_out (before ++ lifted_file h.0) h.5)
    flushed (Err Read) h = (h.0, h.1, h.2, all_out (before ++ written_from (first_reader Run) (whole_lines h.0)) h.3)
    flushed (Err Write) h = (h.0, h.1, λ rest is. rest_out (before ++ lifted_file (h.0 ++ rest)) (h.2 rest is))
    flushed (Err (Line number fault)) h = (h.0, h.1, λ rest is. (let all = h.2 rest is in (all.0, all_out (before ++ lifted_file (h.0 ++ rest)) all.1)))
    flushed (Err Memory) h = (h.0, h.1, λ rest is. rest_out (before ++ lifted_file (h.0 ++ rest)) (h.2 rest is))

  -- the flush was refused, after a front of what waits
  module _ (front : AppendsFront got1 got2 waits) where
    part_out : (text : List ℕ) → CarriesFront got0 got1 waits text → AppendsFront got0 got2 text
    part_out text h = front_sent got0 got1 got2 waits text h front

    abbrev Part : Type 0
    Part = (bytes : List ℕ) × Consumes left0 left1 bytes × ((rest : List ℕ) → left1 ≡ Some rest → AppendsFront got0 got2 (before ++ lifted_file (bytes ++ rest)))

    is_part : (r : Result (Unit {0}) LiftFault) → Waits r → Part
    is_part (Ok x) h = (
      h.0,
      h.1,
      λ rest is.
          let none : rest ≡ [] = rest_none left1 rest h.2 is in
          let same : before ++ lifted_file h.0 ≡ before ++ lifted_file (h.0 ++ rest) = ap (λ l. before ++ lifted_file l) (sym (ap (λ l. h.0 ++ l) none ∙ append-nil h.0)) in
          subst (AppendsFront got0 got2) same (part_out (before ++ lifted_file h.0) (carries_front got0 got1 waits (before ++ lifted_file h.0) h.5)),
    )
    is_part (Err Read) h = (
      h.0,
      h.1,
      λ rest is.
          let ls : List (List ℕ) = lines_from (tail h.0) rest in
          let text : List ℕ = written_from (first_reader Run) (whole_lines h.0) in
          let later : List ℕ = written_from (reader_from (first_reader Run) (whole_lines h.0)) ls in
          let same : (before ++ text) ++ later ≡ before ++ lifted_file (h.0 ++ rest) =
          append_assoc before text later ∙ ap (λ l. before ++ l) (sym (ap (written_from (first_reader Run)) (lines-more h.0 rest) ∙ written-more (whole_lines h.0) (first_reader Run) ls h.2)) in
          subst (AppendsFront got0 got2) same (front_more got0 got2 (before ++ text) later (part_out (before ++ text) (carries_front got0 got1 waits (before ++ text) h.3))),
    )
    is_part (Err Write) h = (h.0, h.1, λ rest is. part_out (before ++ lifted_file (h.0 ++ rest)) (h.2 rest is))
    is_part (Err (Line number fault)) h = (
      h.0,
      h.1,
      λ rest is. part_out (before ++ lifted_file (h.0 ++ rest)) (carries_front got0 got1 waits (before ++ lifted_file (h.0 ++ rest)) (h.2 rest is).1),
    )
    is_part (Err Memory) h = (h.0, h.1, λ rest is. part_out (before ++ lifted_file (h.0 ++ rest)) (h.2 rest is))

    pub not_flushed : (r : Result (Unit {0}) LiftFault) → Waits r → (refused : Fault) → Out (Err (write_fault refused))
    not_flushed r h outside.Failed = is_part r h
    not_flushed r h outside.Memory = is_part r h

-- ---- why

module _ (read0 read1 write0 write1 write2 : ℕ) where
  pub flushed_cause : (r : Result (Unit {0}) LiftFault) → write2 ≡ write1 → LiftCause read0 read1 write0 write1 r → LiftCause read0 read1 write0 write2 r
  flushed_cause r same h = rw same h

  later_than : (r : Result (Unit {0}) LiftFault) → LiftCause read0 read1 write0 write1 r → read0 ≤ read1
  later_than (Ok x) h = omega (arith, h.0)
  later_than (Err Read) h = h.0
  later_than (Err Write) h = h.0
  later_than (Err (Line number fault)) h = omega (arith, h.0)
  later_than (Err Memory) h = h.0

  same_writes : (r : Result (Unit {0}) LiftFault) → (r ≡ Err Write → ⊥) → LiftCause read0 read1 write0 write1 r → write1 ≡ write0
  same_writes (Ok x) other h = h.1
  same_writes (Err Read) other h = h.2
  same_writes (Err Write) other h = absurd (other refl)
  same_writes (Err (Line number fault)) other h = h.1
  same_writes (Err Memory) other h = h.1

  pub refused_cause : (r : Result (Unit {0}) LiftFault) → (r ≡ Err Write → ⊥) → LiftCause read0 read1 write0 write1 r
      → (refused : Fault) → FaultHasCause {T = Unit {0}} write1 write2 (Err refused) → LiftCause read0 read1 write0 write2 (Err (write_fault refused))
  refused_cause r other h outside.Failed cause = (later_than r h, subst (λ n. Rose n write2) (same_writes r other h) (cause.failed refl))
  refused_cause r other h outside.Memory cause = (later_than r h, cause.memory refl ∙ same_writes r other h)
