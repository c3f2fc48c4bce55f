-- A file that is lifted line by line.
use Rattle.std.proofs.Common.{◌≡◌, ℕ, ◌<◌, List, [], ◌∷◌, ◌++◌, Some as Just, None as Nothing, Result, Ok, Err, length, true, false, inl, inr, refl, sym, ap, ap₂, ◌∙◌, subst, append_assoc, append-nil, arith}
use Rattle.std.specs.declared.option.Option.{Option}
use Rattle.std.specs.declared.option.Option.TheVariants.{Some, None}
use Rattle.std.specs.Io.KnownBytes.{Consumes, IsAtEnd}
use Rattle.std.proofs.KnownBytes.{Consumes-nil, Consumes-trans}
use Rattle.gate_outside.specs.Streams.{Carries, CarriesFront}
use Rattle.gate_outside.proofs.Fronts.{puts, carries_more, front_of_more, front_before, carries_front}
use Rattle.edit_text.specs.declared.line.FileKind.TheVariants.{Run}
use Rattle.edit_text.specs.declared.reader_state.ReaderState.{ReaderState}
use Rattle.edit_text.specs.Lines.{line_of, reader_after}
use Rattle.edit_text.specs.Reader.{first_reader, reader_from}
use Rattle.file_lines.specs.Lines.{whole_lines, lines_of, IsPiece}
use Rattle.file_lines.specs.Reads.{HeldBytes, BeginsWithLine}
use Rattle.file_lines.proofs.Lists.{Begins}
use Rattle.file_lift.specs.declared.fault.LiftFault.{LiftFault}
use Rattle.file_lift.specs.declared.fault.LiftFault.TheVariants.{Read, Write, Line, Memory}
use Rattle.file_lift.specs.declared.lifter.Lifter.{Lifter}
use Rattle.file_lift.specs.Lifted.{line_written, line_refused, unless_refused, first_refused, written_from, refused_from, lifted_file}
use Rattle.file_lift.specs.Lifting.{Lifts, KeepsSaying, KeepsSayings, IsRead, LiftsLine, HasLifted}
use Rattle.file_lines.proofs.Fed.{whole_fed, lines_fed, begun_line, whole_none, lone_line}
use Rattle.file_lift.proofs.Counting.{long_same, long_refused}
use Rattle.file_lift.proofs.Laws.{reader-more, refused-more, written-more, sayings-more, one_written, one_refused, not_refused, same_written, same_refused}
use Rattle.file_lift.proofs.Sayings.{file_says}

-- nothing is left at the end
pub rest_none : (left : Option (List ℕ)) (rest : List ℕ) → IsAtEnd left → left ≡ Some rest → rest ≡ []
rest_none (Some xs) rest e is = let same : xs ≡ rest = cc in sym same ∙ e
rest_none None rest e is = absurd cc

-- before the first byte
pub begins : (left : Option (List ℕ)) (got : Option (List ℕ)) (waits : List ℕ) (k : Lifter) → k.lines.ahead ≡ [] → k.reader ≡ first_reader Run
    → HasLifted left left waits got got waits k
begins left got waits k none first = record {
  bytes = [];
  read = Consumes-nil left;
  done = [];
  lines = λ rest. ap (λ l. lines_of (l ++ rest)) (sym none);
  whole = λ rest. ap (λ l. whole_lines (l ++ rest)) (sym none);
  reader = first;
  accepted = refl;
  says = tt;
  wrote = puts got waits waits [] (sym (append-nil waits));
}

module _ (left0 left1 left2 : Option (List ℕ)) (before : List ℕ) (got0 got1 : Option (List ℕ)) (waits : List ℕ) (k : Lifter) (has : HasLifted left0 left1 before got0 got1 waits k)
    (more : List ℕ) (consumes : Consumes left1 left2 more) where
  abbrev bytes : List ℕ
  bytes = has.bytes ++ more

  abbrev so_far : List ℕ
  so_far = written_from (first_reader Run) has.done

  read_now : Consumes left0 left2 bytes
  read_now = Consumes-trans left0 left1 left2 has.bytes more has.read consumes

  lines_now : (rest : List ℕ) → lines_of (bytes ++ rest) ≡ has.done ++ lines_of ((k.lines.ahead ++ more) ++ rest)
  lines_now rest =
      ap lines_of (append_assoc has.bytes more rest)
      ∙ (has.lines (more ++ rest) ∙ ap (λ l. has.done ++ lines_of l) (sym (append_assoc k.lines.ahead more rest)))

  whole_now : (rest : List ℕ) → whole_lines (bytes ++ rest) ≡ has.done ++ whole_lines ((k.lines.ahead ++ more) ++ rest)
  whole_now rest =
      ap whole_lines (append_assoc has.bytes more rest)
      ∙ (has.whole (more ++ rest) ∙ ap (λ l. has.done ++ whole_lines l) (sym (append_assoc k.lines.ahead more rest)))

  written_now : (ls : List (List ℕ)) → written_from (first_reader Run) (has.done ++ ls) ≡ so_far ++ written_from k.reader ls
  written_now ls = written-more has.done (first_reader Run) ls has.accepted ∙ ap (λ r. so_far ++ written_from r ls) (sym has.reader)

  refused_now : (ls : List (List ℕ)) → refused_from (first_reader Run) (has.done ++ ls) ≡ refused_from k.reader ls
  refused_now ls = refused-more has.done (first_reader Run) ls has.accepted ∙ ap (λ r. refused_from r ls) (sym has.reader)

  -- what was written is a front of what is written of all
  front_so_far : (rest : List ℕ) → CarriesFront got0 got1 waits (before ++ lifted_file (bytes ++ rest))
  front_so_far rest =
      let ls : List (List ℕ) = lines_of ((k.lines.ahead ++ more) ++ rest) in
      let is : (before ++ so_far) ++ written_from k.reader ls ≡ before ++ lifted_file (bytes ++ rest) =
      append_assoc before so_far (written_from k.reader ls)
      ∙ ap (λ l. before ++ l) (sym (ap (written_from (first_reader Run)) (lines_now rest) ∙ written_now ls)) in
      subst (CarriesFront got0 got1 waits) is (front_before got0 got1 waits (before ++ so_far) (written_from k.reader ls) (carries_front got0 got1 waits (before ++ so_far) has.wrote))

  -- ---- the next line does not come

  whole_is_done : (line : List ℕ) → IsPiece line → (k.lines.ahead ++ more) ≡ line → whole_lines bytes ≡ has.done
  whole_is_done line piece is =
      ap whole_lines (sym (append-nil bytes))
      ∙ (whole_now [] ∙ (ap (λ l. has.done ++ whole_lines l) (append-nil (k.lines.ahead ++ more) ∙ is)
      ∙ (ap (λ ls. has.done ++ ls) (whole_none line piece) ∙ append-nil has.done)))

  pub read_fails : (fault : LiftFault) (held : HeldBytes) → IsRead left2 (k.lines.ahead ++ more) held (Err fault)
      → Lifts left0 left2 before (Carries got0 got1 waits) (CarriesFront got0 got1 waits) (Err fault)
  read_fails Read held read =
      let whole : whole_lines bytes ≡ has.done = whole_is_done held.line read.0 read.1 in
      (bytes, read_now, rw whole has.accepted, rw whole has.wrote)
  read_fails Write held read = absurd read
  read_fails (Line number fault) held read = absurd read
  read_fails Memory held read = (bytes, read_now, λ rest is. front_so_far rest)

  -- ---- the next line comes

  -- whatever follows, the next line of the file says what these bytes say
  abbrev IsNext : List ℕ → Type 0
  IsNext line = (rest : List ℕ) → left2 ≡ Some rest
      → (next : List ℕ) × (later : List (List ℕ)) × (lines_of (bytes ++ rest) ≡ has.done ++ next ∷ later) × ((r : ReaderState) → line_of r next ≡ line_of r line)

  fed_lines : (held : HeldBytes) → IsPiece held.line → (k.lines.ahead ++ more) ≡ held.line ++ 10 ∷ held.ahead
      → (rest : List ℕ) → lines_of (bytes ++ rest) ≡ has.done ++ held.line ∷ lines_of (held.ahead ++ rest)
  fed_lines held piece is rest =
      lines_now rest ∙ ap (λ ls. has.done ++ ls) (ap (λ l. lines_of (l ++ rest)) is ∙ (ap lines_of (append_assoc held.line (10 ∷ held.ahead) rest) ∙ lines_fed held.line (held.ahead ++ rest) piece))

  fed_whole : (held : HeldBytes) → IsPiece held.line → (k.lines.ahead ++ more) ≡ held.line ++ 10 ∷ held.ahead
      → (rest : List ℕ) → whole_lines (bytes ++ rest) ≡ has.done ++ held.line ∷ whole_lines (held.ahead ++ rest)
  fed_whole held piece is rest =
      whole_now rest ∙ ap (λ ls. has.done ++ ls) (ap (λ l. whole_lines (l ++ rest)) is ∙ (ap whole_lines (append_assoc held.line (10 ∷ held.ahead) rest) ∙ whole_fed held.line (held.ahead ++ rest) piece))

  pub fed_is_next : (held : HeldBytes) → IsRead left2 (k.lines.ahead ++ more) held (Ok true) → IsNext held.line
  fed_is_next held read rest at = by_end read.1
    where
      by_end : BeginsWithLine 65536 (k.lines.ahead ++ more) held
          → (next : List ℕ) × (later : List (List ℕ)) × (lines_of (bytes ++ rest) ≡ has.done ++ next ∷ later) × ((r : ReaderState) → line_of r next ≡ line_of r held.line)
      by_end (inl is) = (held.line, lines_of (held.ahead ++ rest), fed_lines held read.0 is rest, λ r. refl)
      by_end (inr long) =
          let begins : Begins held.line (lines_of (held.line ++ (held.ahead ++ rest))) = begun_line held.line (held.ahead ++ rest) read.0 (omega (arith, long.0)) in (
            held.line ++ begins.more,
            begins.later,
            lines_now rest ∙ ap (λ ls. has.done ++ ls) (ap (λ l. lines_of (l ++ rest)) long.1 ∙ (ap lines_of (append_assoc held.line held.ahead rest) ∙ begins.is)),
            λ r. long_same r held.line begins.more long.0,
          )

  -- the last line has no line feed
  last_lines : (held : HeldBytes) → IsRead left2 (k.lines.ahead ++ more) held (Ok false) → ¬ (held.line ≡ []) → lines_of bytes ≡ has.done ++ held.line ∷ []
  last_lines held read some =
      ap lines_of (sym (append-nil bytes)) ∙ (lines_now [] ∙ ap (λ ls. has.done ++ ls)
      (ap lines_of (append-nil (k.lines.ahead ++ more) ∙ read.1) ∙ lone_line held.line read.0 (by_line held.line some)))
    where
      by_line : (line : List ℕ) → ¬ (line ≡ []) → 0 < length line
      by_line [] some = absurd (some refl)
      by_line (b ∷ line) some = omega arith

  pub last_is_next : (held : HeldBytes) → IsRead left2 (k.lines.ahead ++ more) held (Ok false) → ¬ (held.line ≡ []) → IsNext held.line
  last_is_next held read some rest at =
      let none : rest ≡ [] = rest_none left2 rest read.4 at in
      (held.line, [], ap (λ l. lines_of (bytes ++ l)) none ∙ (ap lines_of (append-nil bytes) ∙ last_lines held read some), λ r. refl)

  -- the file ends at a line feed
  pub nothing_left : (held : HeldBytes) → IsRead left2 (k.lines.ahead ++ more) held (Ok false) → held.line ≡ [] → (got2 : Option (List ℕ)) (waits2 : List ℕ) → got2 ≡ got1 → waits2 ≡ waits
      → Lifts left0 left2 before (Carries got0 got2 waits2) (CarriesFront got0 got2 waits2) (Ok tt)
  nothing_left held read none got2 waits2 same_got same_waits =
      let all : lines_of bytes ≡ has.done =
      ap lines_of (sym (append-nil bytes)) ∙ (lines_now [] ∙ (ap (λ l. has.done ++ lines_of l) (append-nil (k.lines.ahead ++ more) ∙ (read.1 ∙ none)) ∙ append-nil has.done)) in
      let wrote : Carries got0 got2 waits2 (before ++ so_far) = rw (same_got, same_waits) has.wrote in (
        bytes,
        read_now,
        read.4,
        ap (refused_from (first_reader Run)) all ∙ has.accepted,
        file_says bytes has.done all has.says,
        rw all wrote,
      )

  -- ---- it is lifted

  module _ (got2 : Option (List ℕ)) (waits2 line : List ℕ) (now : ReaderState) where
    -- it is refused, or its text is not written
    pub line_fails : IsNext line → (fault : LiftFault) → LiftsLine k.reader line now got1 got2 waits waits2 (Err fault)
        → Lifts left0 left2 before (Carries got0 got2 waits2) (CarriesFront got0 got2 waits2) (Err fault)
    line_fails is_next fault lifts = by_fault fault lifts
      where
        -- what is written of the file, in parts
        parts : (rest next : List ℕ) (later : List (List ℕ)) → lines_of (bytes ++ rest) ≡ has.done ++ next ∷ later → line_of k.reader next ≡ line_of k.reader line
            → ((before ++ so_far) ++ line_written k.reader line) ++ unless_refused (line_refused k.reader line) (written_from (reader_after k.reader next) later)
            ≡ before ++ lifted_file (bytes ++ rest)
        parts rest next later is same =
            let after : List ℕ = written_from (reader_after k.reader next) later in
            append_assoc (before ++ so_far) (line_written k.reader line) (unless_refused (line_refused k.reader line) after)
            ∙ (append_assoc before so_far (line_written k.reader line ++ unless_refused (line_refused k.reader line) after)
            ∙ ap (λ l. before ++ l) (ap (λ l. so_far ++ l) (sym (ap₂ (λ l o. l ++ unless_refused o after) (same_written k.reader next line same) (same_refused k.reader next line same)))
            ∙ sym (ap (written_from (first_reader Run)) is ∙ written_now (next ∷ later))))

        front : CarriesFront got1 got2 waits2 (waits ++ line_written k.reader line) → (rest : List ℕ) → left2 ≡ Some rest → CarriesFront got0 got2 waits2 (before ++ lifted_file (bytes ++ rest))
        front h rest at =
            let next = is_next rest at in
            subst (CarriesFront got0 got2 waits2) (parts rest next.0 next.1 next.2 (next.3 k.reader))
            (front_before got0 got2 waits2 ((before ++ so_far) ++ line_written k.reader line) (unless_refused (line_refused k.reader line) (written_from (reader_after k.reader next.0) next.1))
            (front_of_more got0 got1 got2 waits waits2 (before ++ so_far) (line_written k.reader line) has.wrote h))

        by_fault : (fault : LiftFault) → LiftsLine k.reader line now got1 got2 waits waits2 (Err fault)
            → Lifts left0 left2 before (Carries got0 got2 waits2) (CarriesFront got0 got2 waits2) (Err fault)
        by_fault Read h = absurd h
        by_fault Write h = (bytes, read_now, front h)
        by_fault (Line number fault) h = (
          bytes,
          read_now,
          λ rest at.
              let next = is_next rest at in
              let stops : line_refused k.reader next.0 ≡ Just (number, fault) = same_refused k.reader next.0 line (next.3 k.reader) ∙ h.0 in
              let after : List ℕ = written_from (reader_after k.reader next.0) next.1 in
              let text : (before ++ so_far) ++ line_written k.reader line ≡ before ++ lifted_file (bytes ++ rest) =
              sym (append-nil ((before ++ so_far) ++ line_written k.reader line))
              ∙ (ap (λ o. ((before ++ so_far) ++ line_written k.reader line) ++ unless_refused o after) (sym h.0)
              ∙ parts rest next.0 next.1 next.2 (next.3 k.reader)) in (
                ap (refused_from (first_reader Run)) next.2
                    ∙ (refused_now (next.0 ∷ next.1) ∙ ap (λ o. first_refused o (refused_from (reader_after k.reader next.0) next.1)) stops),
                subst (Carries got0 got2 waits2) text (carries_more got0 got1 got2 waits waits2 (before ++ so_far) (line_written k.reader line) has.wrote h.1),
              ),
        )
        by_fault Memory h = (bytes, read_now, front h)

    -- its text is written
    module _ (lifts : LiftsLine k.reader line now got1 got2 waits waits2 (Ok tt)) where
      keeps_at : KeepsSaying (reader_from (first_reader Run) has.done) line
      keeps_at = rw (sym has.reader) lifts.2

      accepted_now : refused_from (first_reader Run) (has.done ++ line ∷ []) ≡ Nothing
      accepted_now = refused_now (line ∷ []) ∙ (one_refused k.reader line ∙ not_refused k.reader line lifts.2)

      says_now : KeepsSayings (first_reader Run) (has.done ++ line ∷ [])
      says_now = sayings-more has.done (first_reader Run) (line ∷ []) has.says (keeps_at, tt)

      wrote_now : Carries got0 got2 waits2 (before ++ written_from (first_reader Run) (has.done ++ line ∷ []))
      wrote_now =
          let is : (before ++ so_far) ++ line_written k.reader line ≡ before ++ written_from (first_reader Run) (has.done ++ line ∷ []) =
          append_assoc before so_far (line_written k.reader line)
          ∙ ap (λ l. before ++ l) (sym (written_now (line ∷ []) ∙ ap (λ l. so_far ++ l) (one_written k.reader line))) in
          subst (Carries got0 got2 waits2) is (carries_more got0 got1 got2 waits waits2 (before ++ so_far) (line_written k.reader line) has.wrote lifts.3)

      pub last_lifted : (held : HeldBytes) → held.line ≡ line → IsRead left2 (k.lines.ahead ++ more) held (Ok false) → ¬ (held.line ≡ [])
          → Lifts left0 left2 before (Carries got0 got2 waits2) (CarriesFront got0 got2 waits2) (Ok tt)
      last_lifted held same read some =
          let all : lines_of bytes ≡ has.done ++ line ∷ [] = last_lines held read some ∙ ap (λ l. has.done ++ l ∷ []) same in (
            bytes,
            read_now,
            read.4,
            ap (refused_from (first_reader Run)) all ∙ accepted_now,
            file_says bytes (has.done ++ line ∷ []) all says_now,
            rw all wrote_now,
          )

      pub line_lifted : (new : Lifter) → new.lines.line ≡ line → new.reader ≡ now → IsRead left2 (k.lines.ahead ++ more) new.lines (Ok true)
          → HasLifted left0 left2 before got0 got2 waits2 new
      line_lifted new same reader read = by_end read.1
        where
          by_end : BeginsWithLine 65536 (k.lines.ahead ++ more) new.lines → HasLifted left0 left2 before got0 got2 waits2 new
          by_end (inl is) = record {
            bytes = bytes;
            read = read_now;
            done = has.done ++ line ∷ [];
            lines = λ rest. fed_lines new.lines read.0 is rest ∙ (ap (λ l. has.done ++ l ∷ lines_of (new.lines.ahead ++ rest)) same ∙ sym (append_assoc has.done (line ∷ []) (lines_of (new.lines.ahead ++ rest))));
            whole = λ rest. fed_whole new.lines read.0 is rest ∙ (ap (λ l. has.done ++ l ∷ whole_lines (new.lines.ahead ++ rest)) same ∙ sym (append_assoc has.done (line ∷ []) (whole_lines (new.lines.ahead ++ rest))));
            reader = reader ∙ (lifts.0 ∙ (ap (λ r. reader_after r line) has.reader ∙ sym (reader-more has.done (first_reader Run) (line ∷ []))));
            accepted = accepted_now;
            says = says_now;
            wrote = wrote_now;
          }
          by_end (inr long) = absurd (long_refused k.reader line lifts.2.0 (rw (sym same) long.0) lifts.2.1)

  -- the source has ended
  pub last_reads : (got2 : Option (List ℕ)) (waits2 : List ℕ) (held : HeldBytes) (now : ReaderState) (r : Result (Unit {0}) LiftFault) → IsRead left2 (k.lines.ahead ++ more) held (Ok false)
      → (held.line ≡ [] → (r ≡ Ok tt) × (got2 ≡ got1) × (waits2 ≡ waits)) → (¬ (held.line ≡ []) → LiftsLine k.reader held.line now got1 got2 waits waits2 r)
      → Lifts left0 left2 before (Carries got0 got2 waits2) (CarriesFront got0 got2 waits2) r
  last_reads got2 waits2 held now r read none some = by_line held.line refl
    where
      by_result : ¬ (held.line ≡ []) → (r : Result (Unit {0}) LiftFault) → LiftsLine k.reader held.line now got1 got2 waits waits2 r
          → Lifts left0 left2 before (Carries got0 got2 waits2) (CarriesFront got0 got2 waits2) r
      by_result h (Ok x) lifts = last_lifted got2 waits2 held.line now lifts held refl read h
      by_result h (Err fault) lifts = line_fails got2 waits2 held.line now (last_is_next held read h) fault lifts

      by_line : (line : List ℕ) → held.line ≡ line → Lifts left0 left2 before (Carries got0 got2 waits2) (CarriesFront got0 got2 waits2) r
      by_line [] is = (let at = none is in subst (λ r. Lifts left0 left2 before (Carries got0 got2 waits2) (CarriesFront got0 got2 waits2) r) (sym at.0) (nothing_left held read is got2 waits2 at.1 at.2))
      by_line (b ∷ line) is = (let h : ¬ (held.line ≡ []) = λ e. (let bad : b ∷ line ≡ [] = sym is ∙ e in absurd cc) in by_result h r (some h))
