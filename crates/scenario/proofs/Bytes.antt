-- Bytes of a step file, as they come.
use Rattle.std.proofs.Common.{◌≡◌, ℕ, ◌<◌, List, [], ◌∷◌, ◌++◌, Result, Ok, Err, MatchResult, OnOk, length, refl, sym, ap, ◌∙◌, subst, append_assoc, append-nil, arith}
use Rattle.std.specs.declared.option.Option.{Option as Known}
use Rattle.edit_text.specs.declared.line.FileKind.TheVariants.{Run}
use Rattle.edit_text.specs.declared.reader_state.ReaderState.{ReaderState}
use Rattle.edit_text.specs.Lines.{reader_after}
use Rattle.edit_text.specs.Reader.{first_reader}
use Rattle.scenario.specs.declared.fault.PlayFault.{PlayFault}
use Rattle.scenario.specs.declared.fault.PlayFault.TheVariants.{Memory}
use Rattle.scenario.specs.declared.file_runner.FileRunner.{FileRunner}
use Rattle.file_lines.specs.Lines.{whole_lines, tail, lines_of, last_line, IsPiece}
use Rattle.scenario.specs.Server.{Server, first_server}
use Rattle.scenario.specs.Transcript.{Whole, text_from, run_text, run_ending, text_of, reader_of, server_of, transcript, ending}
use Rattle.gate_outside.specs.Streams.{Carries, CarriesFront}
use Rattle.scenario.specs.Played.{Leaves, RunsLine, Playing, LeavesAt, Anything, Nothing}
use Rattle.gate_outside.proofs.Fronts.{front_before, carries_front}
use Rattle.file_lines.proofs.Lists.{whole_line, tail_line, whole_part, tail_part, lines_from, lines-more, Begins, begun}
use Rattle.scenario.proofs.Stops.{reader-more, text-more, ends_among, line_is_run, long_text, long_ending, long_stops}

last_is : (part : List ℕ) (b : ℕ) (bs : List ℕ) → part ≡ b ∷ bs → last_line part ≡ part ∷ []
last_is part b bs e = subst (λ l. last_line l ≡ l ∷ []) (sym e) refl

-- a play that stopped among these bytes stopped among more of them
pub stops_more : (got got1 : Known (List ℕ)) (waits xs ys : List ℕ) (fault : PlayFault) → LeavesAt got got1 waits xs Anything fault → LeavesAt got got1 waits (xs ++ ys) Anything fault
stops_more got got1 waits xs ys fault stops rest any = rw (append_assoc xs ys rest) (stops (ys ++ rest) tt)

-- a line was run, or stopped the play
abbrev RunsLineAs : ReaderState → Server → (got0 got1 : Known (List ℕ)) (waits0 waits1 : List ℕ) (new : FileRunner) → List ℕ → Result (Unit {0}) PlayFault → Type 0
RunsLineAs reader p got0 got1 waits0 waits1 new line r =
    MatchResult r (λ _. RunsLine reader p line got0 got1 waits0 waits1 new.server) (Leaves got0 got1 waits1 (waits0 ++ run_text reader p line) (run_ending reader p line))

module _ (got got0 got1 : Known (List ℕ)) (waits0 waits1 : List ℕ) (old : FileRunner) (bytes : List ℕ) (playing : Playing got got0 waits0 old bytes) where
  -- the line has come to its end with a piece
  line_played : (piece : List ℕ) → IsPiece piece → (new : FileRunner) → new.reader ≡ reader_after old.reader (old.part.items ++ piece) → new.part.items ≡ []
      → RunsLine old.reader (server_of (whole_lines bytes)) (old.part.items ++ piece) got0 got1 waits0 waits1 new.server → Playing got got1 waits1 new (bytes ++ (piece ++ 10 ∷ []))
  line_played piece h new reader part runs =
      let line : List ℕ = tail bytes ++ piece in
      let here : RunsLine (reader_of (whole_lines bytes)) (server_of (whole_lines bytes)) line got0 got1 waits0 waits1 new.server = rw playing.reader at (rw playing.part at runs) in
      let all = line_is_run (whole_lines bytes) line got got0 got1 waits0 waits1 new.server playing.wrote playing.goes_on here in
      let is = sym (whole_line bytes piece h) in
      record {
        reader = reader ∙ (ap (λ r. reader_after r (old.part.items ++ piece)) playing.reader ∙ (ap (λ l. reader_after (reader_of (whole_lines bytes)) (l ++ piece)) playing.part
            ∙ (sym (reader-more (whole_lines bytes) (first_reader Run) (line ∷ [])) ∙ ap reader_of is)));
        part = part ∙ sym (tail_line bytes piece h);
        represents = rw is at all.0;
        wrote = rw is at all.1;
        goes_on = rw is at all.2;
      }

  -- a piece is added to the line
  pub part_played : (piece : List ℕ) → IsPiece piece → (new : FileRunner) → new.reader ≡ old.reader → new.part.items ≡ old.part.items ++ piece → new.server ≡ old.server → waits1 ≡ waits0 → got1 ≡ got0
      → Playing got got1 waits1 new (bytes ++ piece)
  part_played piece h new reader part server waits same =
      let whole = sym (whole_part bytes piece h) in
      record {
        reader = reader ∙ (playing.reader ∙ ap reader_of whole);
        part = part ∙ (ap (λ l. l ++ piece) playing.part ∙ sym (tail_part bytes piece h));
        represents = rw whole at (rw (sym server) at playing.represents);
        wrote = rw whole at (rw (sym waits) at (rw (sym same) at playing.wrote));
        goes_on = rw whole at playing.goes_on;
      }

  -- what was written so far, and what waits, is a front of what the file's transcript is
  pub front_so_far : (rest : List ℕ) → CarriesFront got got0 waits0 (transcript (bytes ++ rest))
  unfolding transcript
  front_so_far rest =
      let ls : List (List ℕ) = lines_from (tail bytes) rest in
      let is : text_of (whole_lines bytes) ++ text_from (reader_of (whole_lines bytes)) (server_of (whole_lines bytes)) ls ≡ text_of (lines_of (bytes ++ rest)) =
      sym (ap text_of (lines-more bytes rest) ∙ text-more (whole_lines bytes) (first_reader Run) first_server ls playing.goes_on) in
      rw is at (front_before got got0 waits0 (text_of (whole_lines bytes)) (text_from (reader_of (whole_lines bytes)) (server_of (whole_lines bytes)) ls)
      (carries_front got got0 waits0 (text_of (whole_lines bytes)) playing.wrote))

  -- memory runs out among more bytes
  pub memory_stops : (more : List ℕ) → got1 ≡ got0 → LeavesAt got got1 waits0 (bytes ++ more) Anything Memory
  memory_stops more same rest any = rw same (rw (append_assoc bytes more rest) (front_so_far (more ++ rest)))

  -- no line is left
  pub nothing_left : tail bytes ≡ [] → Carries got got0 waits0 (transcript bytes) × (ending bytes ≡ Whole)
  unfolding transcript ending
  nothing_left none =
      let is : whole_lines bytes ≡ lines_of bytes = sym (ap (λ t. whole_lines bytes ++ last_line t) none ∙ append-nil (whole_lines bytes)) in
      (rw is at playing.wrote, rw is at playing.goes_on)

  -- a line stops the play, of which this is left to be written
  module _ (fault : PlayFault) where
    -- where the file's lines are these
    stops_among : (file line : List ℕ) (later : List (List ℕ)) → lines_of file ≡ whole_lines bytes ++ line ∷ later
        → Leaves got0 got1 waits1 (waits0 ++ run_text (reader_of (whole_lines bytes)) (server_of (whole_lines bytes)) line) (run_ending (reader_of (whole_lines bytes)) (server_of (whole_lines bytes)) line) fault
        → Leaves got got1 waits1 (transcript file) (ending file) fault
    unfolding transcript ending
    stops_among file line later is ends =
        let all = ends_among fault (whole_lines bytes) line later got got0 got1 waits0 waits1 playing.goes_on playing.wrote ends in
        rw (sym is) at all

    -- a line feed ends it
    line_stops : (piece : List ℕ) → IsPiece piece
        → Leaves got0 got1 waits1 (waits0 ++ run_text old.reader (server_of (whole_lines bytes)) (old.part.items ++ piece)) (run_ending old.reader (server_of (whole_lines bytes)) (old.part.items ++ piece)) fault
        → LeavesAt got got1 waits1 (bytes ++ (piece ++ 10 ∷ [])) Anything fault
    line_stops piece h ends rest any =
        let line : List ℕ = tail bytes ++ piece in
        let here : Leaves got0 got1 waits1 (waits0 ++ run_text (reader_of (whole_lines bytes)) (server_of (whole_lines bytes)) line) (run_ending (reader_of (whole_lines bytes)) (server_of (whole_lines bytes)) line) fault
        = rw playing.reader at (rw playing.part at ends) in
        stops_among ((bytes ++ (piece ++ 10 ∷ [])) ++ rest) line (lines_from [] rest)
        (lines-more (bytes ++ (piece ++ 10 ∷ [])) rest ∙ (ap (λ p. whole_lines (bytes ++ (piece ++ 10 ∷ [])) ++ lines_from p rest) (tail_line bytes piece h)
        ∙ (ap (λ ls. ls ++ lines_from [] rest) (whole_line bytes piece h) ∙ append_assoc (whole_lines bytes) (line ∷ []) (lines_from [] rest))))
        here

    -- it is too long, before its end
    long_line_stops : (piece : List ℕ) → IsPiece piece → 65536 < length (old.part.items ++ piece)
        → Leaves got0 got1 waits1 (waits0 ++ run_text old.reader (server_of (whole_lines bytes)) (old.part.items ++ piece)) (run_ending old.reader (server_of (whole_lines bytes)) (old.part.items ++ piece)) fault
        → LeavesAt got got1 waits1 (bytes ++ piece) Anything fault
    long_line_stops piece h long ends rest any =
        let r : ReaderState = reader_of (whole_lines bytes) in
        let p : Server = server_of (whole_lines bytes) in
        let line : List ℕ = tail bytes ++ piece in
        let here : Leaves got0 got1 waits1 (waits0 ++ run_text r p line) (run_ending r p line) fault = rw playing.reader at (rw playing.part at ends) in
        let is_long : 65536 < length line = rw playing.part at long in
        let begins : Begins line (lines_from line rest) = begun rest line (omega (arith, is_long)) in
        stops_among ((bytes ++ piece) ++ rest) (line ++ begins.more) begins.later
        (lines-more (bytes ++ piece) rest ∙ (ap (λ l. whole_lines (bytes ++ piece) ++ lines_from l rest) (tail_part bytes piece h)
        ∙ (ap (λ ls. ls ++ lines_from line rest) (whole_part bytes piece h) ∙ ap (λ ls. whole_lines bytes ++ ls) begins.is)))
        (rw (long_text r p line begins.more is_long, long_ending r p line begins.more is_long) here)

    -- it is the last, and has no line feed
    end_stops : (b : ℕ) (part : List ℕ) → tail bytes ≡ b ∷ part
        → Leaves got0 got1 waits1 (waits0 ++ run_text old.reader (server_of (whole_lines bytes)) old.part.items) (run_ending old.reader (server_of (whole_lines bytes)) old.part.items) fault
        → LeavesAt got got1 waits1 bytes Nothing fault
    end_stops b part some ends rest none =
        let here : Leaves got0 got1 waits1 (waits0 ++ run_text (reader_of (whole_lines bytes)) (server_of (whole_lines bytes)) (tail bytes)) (run_ending (reader_of (whole_lines bytes)) (server_of (whole_lines bytes)) (tail bytes)) fault
        = rw playing.reader at (rw playing.part at ends) in
        stops_among (bytes ++ rest) (tail bytes) []
        (ap (λ r. lines_of (bytes ++ r)) none ∙ (ap lines_of (append-nil bytes) ∙ ap (λ ls. whole_lines bytes ++ ls) (last_is (tail bytes) b part some)))
        here

  -- the last line is played
  end_played : (new : FileRunner) (b : ℕ) (part : List ℕ) → tail bytes ≡ b ∷ part
      → RunsLine old.reader (server_of (whole_lines bytes)) old.part.items got0 got1 waits0 waits1 new.server → Carries got got1 waits1 (transcript bytes) × (ending bytes ≡ Whole)
  unfolding transcript ending
  end_played new b part some runs =
      let here : RunsLine (reader_of (whole_lines bytes)) (server_of (whole_lines bytes)) (tail bytes) got0 got1 waits0 waits1 new.server = rw playing.reader at (rw playing.part at runs) in
      let all = line_is_run (whole_lines bytes) (tail bytes) got got0 got1 waits0 waits1 new.server playing.wrote playing.goes_on here in
      let is : whole_lines bytes ++ tail bytes ∷ [] ≡ lines_of bytes = ap (λ ls. whole_lines bytes ++ ls) (sym (last_is (tail bytes) b part some)) in
      (rw is at all.1, rw is at all.2)

  -- ---- as a call answers

  pub line_plays : (piece line : List ℕ) → IsPiece piece → line ≡ old.part.items ++ piece → (r : Result (Unit {0}) PlayFault) (new : FileRunner)
      → OnOk r (new.reader ≡ reader_after old.reader line) → OnOk r (new.part.items ≡ []) → RunsLineAs old.reader (server_of (whole_lines bytes)) got0 got1 waits0 waits1 new line r
      → MatchResult r (λ _. Playing got got1 waits1 new (bytes ++ (piece ++ 10 ∷ []))) (LeavesAt got got1 waits1 (bytes ++ (piece ++ 10 ∷ [])) Anything)
  line_plays piece line h is (Ok x) new reader part runs =
      line_played piece h new (rw is at reader) part (rw is at runs)
  line_plays piece line h is (Err fault) new reader part ends =
      line_stops fault piece h (rw is at ends)

  pub long_plays : (piece line : List ℕ) → IsPiece piece → line ≡ old.part.items ++ piece → 65536 < length line → (r : Result (Unit {0}) PlayFault) (new : FileRunner)
      → RunsLineAs old.reader (server_of (whole_lines bytes)) got0 got1 waits0 waits1 new line r
      → MatchResult r (λ _. Playing got got1 waits1 new (bytes ++ piece)) (LeavesAt got got1 waits1 (bytes ++ piece) Anything)
  long_plays piece line h is long (Ok x) new runs = absurd (long_stops old.reader (server_of (whole_lines bytes)) line long runs.1.1)
  long_plays piece line h is long (Err fault) new ends =
      long_line_stops fault piece h (rw is at long) (rw is at ends)

  pub end_plays : (r : Result (Unit {0}) PlayFault) (new : FileRunner) → ¬ (old.part.items ≡ [])
      → RunsLineAs old.reader (server_of (whole_lines bytes)) got0 got1 waits0 waits1 new old.part.items r
      → MatchResult r (λ _. Carries got got1 waits1 (transcript bytes) × (ending bytes ≡ Whole)) (LeavesAt got got1 waits1 bytes Nothing)
  end_plays r new some h = by_tail (tail bytes) refl r h
    where
      by_tail : (t : List ℕ) → tail bytes ≡ t → (r : Result (Unit {0}) PlayFault) → RunsLineAs old.reader (server_of (whole_lines bytes)) got0 got1 waits0 waits1 new old.part.items r
          → MatchResult r (λ _. Carries got got1 waits1 (transcript bytes) × (ending bytes ≡ Whole)) (LeavesAt got got1 waits1 bytes Nothing)
      by_tail [] e r h = absurd (some (playing.part ∙ e))
      by_tail (b ∷ part) e (Ok x) h = end_played new b part e h
      by_tail (b ∷ part) e (Err fault) h = end_stops fault b part e h
