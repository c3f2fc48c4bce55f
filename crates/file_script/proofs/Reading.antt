-- A file, line by line.
use Rattle.std.proofs.Common.{◌≡◌, ℕ, ◌<◌, List, [], ◌∷◌, ◌++◌, Bool, true, false, Option, Some, None, Ok, Err, length, inl, inr, refl, sym, ap, ◌∙◌, subst, append_assoc, append-nil, true≢false, ◌||◌, not, arith}
use Rattle.std.specs.declared.option.Option.{Option as Known}
use Rattle.std.specs.declared.option.Option.TheVariants as known
use Rattle.std.specs.Io.KnownBytes.{Consumes, IsAtEnd}
use Rattle.std.proofs.KnownBytes.{Consumes-trans}
use Rattle.gate_outside.specs.declared.faults.Fault.{Fault}
use Rattle.gate_outside.specs.declared.faults.Fault.TheVariants as outside
use Rattle.file_lines.specs.Lines.{whole_lines, tail, last_line, lines_of, IsPiece}
use Rattle.file_lines.specs.Reads.{BeginsWithLine, LineIsRead}
use Rattle.file_lines.proofs.Lists.{tail_line, whole_part, lines_from, lines-more, Begins}
use Rattle.file_lines.proofs.Fed.{lines_fed, begun_line, lone_line}
use Rattle.edit_text.specs.declared.line.FileKind.TheVariants.{Script}
use Rattle.edit_text.specs.declared.line.Line.{Line}
use Rattle.edit_text.specs.declared.reader_state.ReaderState.{ReaderState}
use Rattle.edit_text.specs.Lines.{line_of, after_line, reader_after}
use Rattle.edit_text.specs.Reader.{first_reader}
use Rattle.file_script.specs.declared.fault.ScriptFault.{ScriptFault}
use Rattle.file_script.specs.declared.fault.ScriptFault.TheVariants as script
use Rattle.file_script.specs.declared.script_lines.ScriptLines.{ScriptLines}
use Rattle.file_script.specs.Accepted.{reader_of, IsWhole, StopsAfter, BeginsWith}
use Rattle.file_script.specs.Faults.{fault_of}
use Rattle.file_script.specs.Reads.{HasGiven, Gives, IsNextLine, HasLine, LineComes, IsParsed}
use Rattle.file_script.proofs.Accepting.{reader-more, said_by, begins_with, one_accepted, one_refused}
use Rattle.file_script.proofs.Counting.{long_same, long_refused}

-- ---- lines after a line feed

lines_at_feed : (done : List ℕ) → tail done ≡ [] → lines_of done ≡ whole_lines done
lines_at_feed done none = ap (λ t. whole_lines done ++ last_line t) none ∙ append-nil (whole_lines done)

after_feed : (done rest : List ℕ) → tail done ≡ [] → lines_of (done ++ rest) ≡ lines_of done ++ lines_of rest
after_feed done rest none = lines-more done rest ∙ (ap (λ t. whole_lines done ++ lines_from t rest) none ∙ ap (λ ls. ls ++ lines_of rest) (sym (lines_at_feed done none)))

pub end_rest : (left : Known (List ℕ)) (rest : List ℕ) → IsAtEnd left → left ≡ known.Some rest → rest ≡ []
end_rest known.None rest at is = absurd (cc)
end_rest (known.Some xs) rest at is = cc

-- ---- between lines

module _ (left : Known (List ℕ)) (k : ScriptLines) (bytes : List ℕ) (given : List Line) (has : HasGiven left k bytes given) where
  -- what follows the lines so far, where a line feed ended the last of them
  front_at_feed : k.ended ≡ false → (rest : List ℕ) → BeginsWith (lines_of (bytes ++ rest)) given
  front_at_feed goes rest =
      let is : bytes ++ rest ≡ has.done ++ (k.lines.ahead ++ rest) = ap (λ l. l ++ rest) has.is ∙ append_assoc has.done k.lines.ahead rest in
      subst (λ ls. BeginsWith ls given) (sym (ap lines_of is ∙ after_feed has.done (k.lines.ahead ++ rest) (has.at_feed goes)))
      (begins_with (lines_of has.done) given has.whole (lines_of (k.lines.ahead ++ rest)))

  all_done : k.ended ≡ true → bytes ≡ has.done
  all_done ends = has.is ∙ (ap (λ l. has.done ++ l) (has.at_end ends).0 ∙ append-nil has.done)

  -- the lines so far are a front of what the file says
  pub front : (rest : List ℕ) → left ≡ known.Some rest → BeginsWith (lines_of (bytes ++ rest)) given
  front rest is = by_end k.ended refl
    where
      by_end : (ends : Bool) → k.ended ≡ ends → BeginsWith (lines_of (bytes ++ rest)) given
      by_end false e = front_at_feed e rest
      by_end true e =
          let none : rest ≡ [] = end_rest left rest (has.at_end e).1 is in
          let all : bytes ++ rest ≡ has.done = ap (λ l. bytes ++ l) none ∙ (append-nil bytes ∙ all_done e) in
          subst (λ l. BeginsWith (lines_of l) given) (sym all) ([], has.whole.0 ∙ sym (append-nil given))

  -- no line comes after the end
  pub none_after_end : k.ended ≡ true → Gives left k (bytes ++ []) given (Ok None)
  none_after_end e = ((has.at_end e).1, subst (λ l. IsWhole (lines_of l) given) (sym (append-nil bytes ∙ all_done e)) has.whole)

  -- ---- the bytes of the next line are read
  module _ (goes : k.ended ≡ false) (later : Known (List ℕ)) (new : ScriptLines) (reader : new.reader ≡ k.reader) (more : List ℕ) where
    splits : (rest : List ℕ) → k.lines.ahead ++ more ≡ rest → bytes ++ more ≡ has.done ++ rest
    splits rest is = ap (λ l. l ++ more) has.is ∙ (append_assoc has.done k.lines.ahead more ∙ ap (λ l. has.done ++ l) is)

    has_line : IsPiece new.lines.line → IsNextLine later new (bytes ++ more) has.done → HasLine later new (bytes ++ more) given
    has_line piece next = record { done = has.done; reader = reader ∙ has.reader; whole = has.whole; at_feed = has.at_feed goes; piece = piece; next = next }

    pub line_comes : new.ended ≡ false → LineIsRead 65536 later (k.lines.ahead ++ more) new.lines (Ok true) → HasLine later new (bytes ++ more) given
    line_comes ends read = has_line read.0 (by_end read.1)
      where
        by_end : BeginsWithLine 65536 (k.lines.ahead ++ more) new.lines → IsNextLine later new (bytes ++ more) has.done
        by_end (inl is) = inl (ends, splits (new.lines.line ++ 10 ∷ new.lines.ahead) is)
        by_end (inr long) = inr (inl (long.0, splits (new.lines.line ++ new.lines.ahead) long.1))

    pub last_comes : new.ended ≡ true → 0 < length new.lines.line → LineIsRead 65536 later (k.lines.ahead ++ more) new.lines (Ok false) → HasLine later new (bytes ++ more) given
    last_comes ends some read = has_line read.0 (inr (inr (ends, some, splits new.lines.line read.1, read.2, read.4)))

    pub none_comes : new.lines.line ≡ [] → LineIsRead 65536 later (k.lines.ahead ++ more) new.lines (Ok false) → Gives later new (bytes ++ more) given (Ok None)
    none_comes none read =
        let all : bytes ++ more ≡ has.done = splits new.lines.line read.1 ∙ (ap (λ l. has.done ++ l) none ∙ append-nil has.done) in
        (read.4, subst (λ l. IsWhole (lines_of l) given) (sym all) has.whole)

    pub fault_comes : (fault : Fault) → LineIsRead 65536 later (k.lines.ahead ++ more) new.lines (Err fault) → Gives later new (bytes ++ more) given (Err (fault_of fault))
    fault_comes outside.Failed read =
        let same : whole_lines (bytes ++ more) ≡ lines_of has.done =
        ap whole_lines (splits new.lines.line read.1) ∙ (whole_part has.done new.lines.line read.0 ∙ sym (lines_at_feed has.done (has.at_feed goes))) in
        subst (λ ls. IsWhole ls given) (sym same) has.whole
    fault_comes outside.Memory read = λ rest is. subst (λ l. BeginsWith (lines_of l) given) (sym (append_assoc bytes more rest)) (front_at_feed goes (more ++ rest))

    -- a line comes, or none
    pub read_ends : (fed some : Bool) → new.ended ≡ not fed → (some ≡ true → 0 < length new.lines.line) → (some ≡ false → new.lines.line ≡ [])
        → LineIsRead 65536 later (k.lines.ahead ++ more) new.lines (Ok fed) → LineComes later new (bytes ++ more) given (Ok (fed || some))
    read_ends true some ends is_some is_none read = line_comes ends read
    read_ends false true ends is_some is_none read = last_comes ends (is_some refl) read
    read_ends false false ends is_some is_none read = none_comes (is_none refl) read

-- before the first byte
pub nothing_given : (left : Known (List ℕ)) (k : ScriptLines) → k.lines.ahead ≡ [] → k.reader ≡ first_reader Script → k.ended ≡ false → HasGiven left k [] []
nothing_given left k ahead reader goes = record {
  done = [];
  is = sym ahead;
  reader = reader;
  whole = (refl, refl);
  at_feed = λ e. refl;
  at_end = λ e. absurd (true≢false (sym e ∙ goes));
}

-- after what was read before
pub goes_on : (left0 left1 left2 : Known (List ℕ)) (P : List ℕ → Type 0) (bytes more : List ℕ) → Consumes left0 left1 more → (later : List ℕ) × Consumes left1 left2 later × P ((bytes ++ more) ++ later)
    → (all : List ℕ) × Consumes left0 left2 all × P (bytes ++ all)
goes_on left0 left1 left2 P bytes more first next = (more ++ next.0, Consumes-trans left0 left1 left2 more next.0 first next.1, subst P (append_assoc bytes more next.0) next.2)

-- ---- the line that was read

module _ (left : Known (List ℕ)) (k : ScriptLines) (bytes : List ℕ) (given : List Line) (has : HasLine left k bytes given) where
  -- the file's lines are those before it, it, maybe with more where it is too long, and others
  follows : (rest : List ℕ) → left ≡ known.Some rest
      → (more : List ℕ) × (later : List (List ℕ)) × (lines_of (bytes ++ rest) ≡ lines_of has.done ++ (k.lines.line ++ more) ∷ later) × ((r : ReaderState) → line_of r (k.lines.line ++ more) ≡ line_of r k.lines.line)
  follows rest is = by_next has.next
    where
      all : (tail_bytes : List ℕ) → bytes ≡ has.done ++ tail_bytes → lines_of (bytes ++ rest) ≡ lines_of has.done ++ lines_of (tail_bytes ++ rest)
      all tail_bytes e = ap (λ l. lines_of (l ++ rest)) e ∙ (ap lines_of (append_assoc has.done tail_bytes rest) ∙ after_feed has.done (tail_bytes ++ rest) has.at_feed)

      by_next : IsNextLine left k bytes has.done
          → (more : List ℕ) × (later : List (List ℕ)) × (lines_of (bytes ++ rest) ≡ lines_of has.done ++ (k.lines.line ++ more) ∷ later) × ((r : ReaderState) → line_of r (k.lines.line ++ more) ≡ line_of r k.lines.line)
      by_next (inl fed) = (
        [],
        lines_of (k.lines.ahead ++ rest),
        all (k.lines.line ++ 10 ∷ k.lines.ahead) fed.1
            ∙ ap (λ ls. lines_of has.done ++ ls) (ap lines_of (append_assoc k.lines.line (10 ∷ k.lines.ahead) rest) ∙ (lines_fed k.lines.line (k.lines.ahead ++ rest) has.piece
            ∙ ap (λ l. l ∷ lines_of (k.lines.ahead ++ rest)) (sym (append-nil k.lines.line)))),
        λ r. ap (line_of r) (append-nil k.lines.line),
      )
      by_next (inr (inl long)) =
          let begins : Begins k.lines.line (lines_of (k.lines.line ++ (k.lines.ahead ++ rest))) = begun_line k.lines.line (k.lines.ahead ++ rest) has.piece (omega (arith, long.0)) in (
            begins.more,
            begins.later,
            all (k.lines.line ++ k.lines.ahead) long.1 ∙ ap (λ ls. lines_of has.done ++ ls) (ap lines_of (append_assoc k.lines.line k.lines.ahead rest) ∙ begins.is),
            λ r. long_same r k.lines.line begins.more long.0,
          )
      by_next (inr (inr last)) =
          let none : rest ≡ [] = end_rest left rest last.4 is in (
            [],
            [],
            all k.lines.line last.2
                ∙ ap (λ ls. lines_of has.done ++ ls) (ap lines_of (ap (λ l. k.lines.line ++ l) none ∙ append-nil k.lines.line) ∙ (lone_line k.lines.line has.piece last.1 ∙ ap (λ l. l ∷ []) (sym (append-nil k.lines.line)))),
            λ r. ap (line_of r) (append-nil k.lines.line),
          )

  module _ (new : ScriptLines) (lines : new.lines ≡ k.lines) (ended : new.ended ≡ k.ended) where
    -- it says something, or is blank
    pub line_says : (said : Option Line) → IsParsed k.reader k.lines.line new.reader (Ok said) → HasGiven left new bytes (given ++ said_by said)
    line_says said parsed = by_next has.next
      where
        is : line_of (reader_of (lines_of has.done)) k.lines.line ≡ Ok said
        is = subst (λ r. line_of r k.lines.line ≡ Ok said) has.reader parsed.0

        -- these bytes end with it
        with_it : (done : List ℕ) → lines_of done ≡ lines_of has.done ++ k.lines.line ∷ [] → bytes ≡ done ++ k.lines.ahead → (k.ended ≡ false → tail done ≡ []) → (k.ended ≡ true → (k.lines.ahead ≡ []) × IsAtEnd left)
            → HasGiven left new bytes (given ++ said_by said)
        with_it done all bytes_are at_feed at_end = record {
          done = done;
          is = rw lines bytes_are;
          reader = parsed.1 ∙ (ap (λ r. reader_after r k.lines.line) has.reader ∙ (sym (reader-more (lines_of has.done) (first_reader Script) (k.lines.line ∷ [])) ∙ ap reader_of (sym all)));
          whole = subst (λ ls. IsWhole ls (given ++ said_by said)) (sym all) (one_accepted (lines_of has.done) given has.whole k.lines.line said is);
          at_feed = λ e. at_feed (sym ended ∙ e);
          at_end = λ e. rw lines (at_end (sym ended ∙ e));
        }

        by_next : IsNextLine left k bytes has.done → HasGiven left new bytes (given ++ said_by said)
        by_next (inl fed) =
            with_it (has.done ++ (k.lines.line ++ 10 ∷ []))
            (after_feed has.done (k.lines.line ++ 10 ∷ []) has.at_feed ∙ ap (λ ls. lines_of has.done ++ ls) (lines_fed k.lines.line [] has.piece))
            (fed.1 ∙ (ap (λ l. has.done ++ l) (sym (append_assoc k.lines.line (10 ∷ []) k.lines.ahead)) ∙ sym (append_assoc has.done (k.lines.line ++ 10 ∷ []) k.lines.ahead)))
            (λ e. tail_line has.done k.lines.line has.piece)
            (λ e. absurd (true≢false (sym e ∙ fed.0)))
        by_next (inr (inl long)) = absurd (long_refused k.reader k.lines.line said long.0 parsed.0)
        by_next (inr (inr last)) =
            with_it (has.done ++ k.lines.line)
            (after_feed has.done k.lines.line has.at_feed ∙ ap (λ ls. lines_of has.done ++ ls) (lone_line k.lines.line has.piece last.1))
            (last.2 ∙ (sym (append-nil (has.done ++ k.lines.line)) ∙ ap (λ l. (has.done ++ k.lines.line) ++ l) (sym last.3)))
            (λ e. absurd (true≢false (sym last.0 ∙ e)))
            (λ e. (last.3, last.4))

    -- it is refused, or memory runs out
    pub line_fails : (fault : ScriptFault) → IsParsed k.reader k.lines.line new.reader (Err fault) → Gives left new bytes given (Err fault)
    line_fails script.Read parsed = absurd parsed
    line_fails (script.Line number fault) parsed = λ rest is.
        let next = follows rest is in
        let r : ReaderState = reader_of (lines_of has.done) in
        let refused_here : line_of r k.lines.line ≡ Err fault = subst (λ r. line_of r k.lines.line ≡ Err fault) has.reader parsed.0 in
        let at : number ≡ (reader_after r k.lines.line).lines = parsed.1 ∙ ap (λ r. (reader_after r k.lines.line).lines) has.reader in
        subst (λ ls. StopsAfter ls given number fault) (sym next.2)
        (one_refused (lines_of has.done) given has.whole (k.lines.line ++ next.0) next.1 number fault (next.3 r ∙ refused_here) (at ∙ ap (λ o. (after_line o r).lines) (sym (next.3 r))))
    line_fails script.Spent parsed = absurd parsed
    line_fails script.Memory parsed = λ rest is.
        let next = follows rest is in
        subst (λ ls. BeginsWith ls given) (sym next.2) (begins_with (lines_of has.done) given has.whole ((k.lines.line ++ next.0) ∷ next.1))
