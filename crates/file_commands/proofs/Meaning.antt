-- A file that says what another does, each line in its newest version, plays the same.
use Rattle.std.proofs.Common.{◌≡◌, ℕ, List, [], ◌∷◌, ◌++◌, map, Option, Some, None, Result, Ok, Err, refl, sym, ap, ◌∙◌}
use Rattle.std.specs.Prelude.{if◌then◌else◌}
use Rattle.edit_fields.specs.declared.fault.LineFault.{LineFault}
use Rattle.edit_text.specs.declared.line.FileKind.TheVariants.{Run}
use Rattle.edit_text.specs.declared.line.Line.{Line}
use Rattle.edit_text.specs.declared.line.Line.TheVariants.{Bot, Guild, Edit, Look, Open, Frame, Lost, Closed, Tick}
use Rattle.edit_text.specs.declared.reader_state.ReaderState.{ReaderState}
use Rattle.edit_text.specs.Lines.{line_of, after_line, reader_after}
use Rattle.edit_text.specs.Reader.{first_reader}
use Rattle.edit_text.specs.Lifted.{lifted}
use Rattle.file_lines.specs.Lines.{lines_of}
use Rattle.file_lift.specs.Lifted.{newest_said, said_from, SaysTheSame}
use Rattle.file_lift.proofs.Sayings.{newest_after}
use Rattle.scenario.specs.Server.{Server, first_server, played}
use Rattle.scenario.specs.Transcript.{line_text, line_ending, Ending, read_text, after_read, read_ending, is_read, text_from, ending_from, then_ending, transcript, ending}
use Rattle.file_commands.specs.Lifting.{MeansTheSame}

-- ---- one line

same_text : (p : Server) (n : ℕ) (line : Line) → line_text p n (lifted line) ≡ line_text p n line
same_text p n (Bot token user name privileged v items bytes) = refl
same_text p n (Guild id) = refl
same_text p n (Edit guild edit) = refl
same_text p n (Look worker guild) = refl
same_text p n (Open worker conn) = refl
same_text p n (Frame conn text) = refl
same_text p n (Lost conn) = refl
same_text p n (Closed conn code) = refl
same_text p n (Tick worker now) = refl

same_ending : (p : Server) (line : Line) → line_ending p (lifted line) ≡ line_ending p line
same_ending p (Bot token user name privileged v items bytes) = refl
same_ending p (Guild id) = refl
same_ending p (Edit guild edit) = refl
same_ending p (Look worker guild) = refl
same_ending p (Open worker conn) = refl
same_ending p (Frame conn text) = refl
same_ending p (Lost conn) = refl
same_ending p (Closed conn code) = refl
same_ending p (Tick worker now) = refl

same_played : (p : Server) (line : Line) → played p (lifted line) ≡ played p line
same_played p (Bot token user name privileged v items bytes) = refl
same_played p (Guild id) = refl
same_played p (Edit guild edit) = refl
same_played p (Look worker guild) = refl
same_played p (Open worker conn) = refl
same_played p (Frame conn text) = refl
same_played p (Lost conn) = refl
same_played p (Closed conn code) = refl
same_played p (Tick worker now) = refl

abbrev Said : Type 0
Said = Result (Option Line) LineFault

newest_text : (p : Server) (n : ℕ) (s : Said) → read_text p n (newest_said s) ≡ read_text p n s
newest_text p n (Err fault) = refl
newest_text p n (Ok None) = refl
newest_text p n (Ok (Some line)) = same_text p n line

newest_ending : (p : Server) (n : ℕ) (s : Said) → read_ending p n (newest_said s) ≡ read_ending p n s
newest_ending p n (Err fault) = refl
newest_ending p n (Ok None) = refl
newest_ending p n (Ok (Some line)) = same_ending p line

newest_server : (p : Server) (s : Said) → after_read p (newest_said s) ≡ after_read p s
newest_server p (Err fault) = refl
newest_server p (Ok None) = refl
newest_server p (Ok (Some line)) = same_played p line

newest_read : (s : Said) → is_read (newest_said s) ≡ is_read s
newest_read (Err fault) = refl
newest_read (Ok said) = refl

-- ---- all lines

first_same : (a b : Said) (more others : List Said) → a ∷ more ≡ b ∷ others → a ≡ b
first_same a b more others e = cc

later_same : (a b : Said) (more others : List Said) → a ∷ more ≡ b ∷ others → more ≡ others
later_same a b more others e = cc

none_same : (a : Said) (more : List Said) → a ∷ more ≡ [] → ⊥
none_same a more e = absurd (cc)

-- what a line that was read gives to the transcript, before those that follow
abbrev with_text : ReaderState → Server → Said → (ReaderState → Server → List ℕ) → List ℕ
with_text r p s later = read_text p (after_line s r).lines s ++ (if is_read s then later (after_line s r) (after_read p s) else [])

abbrev with_ending : ReaderState → Server → Said → (ReaderState → Server → Ending) → Ending
with_ending r p s later = then_ending (read_ending p (after_line s r).lines s) (later (after_line s r) (after_read p s))

newest_with : (r : ReaderState) (p : Server) (s : Said) (later : ReaderState → Server → List ℕ) → with_text r p (newest_said s) later ≡ with_text r p s later
newest_with r p s later =
    rw (newest_after s r, newest_server p s, newest_read s) (ap (λ t. t ++ (if is_read s then later (after_line s r) (after_read p s) else [])) (newest_text p (after_line s r).lines s))

newest_ends : (r : ReaderState) (p : Server) (s : Said) (later : ReaderState → Server → Ending) → with_ending r p (newest_said s) later ≡ with_ending r p s later
newest_ends r p s later =
    rw (newest_after s r, newest_server p s) (ap (λ e. then_ending e (later (after_line s r) (after_read p s))) (newest_ending p (after_line s r).lines s))

module _ (x y : List ℕ) (xs ys : List (List ℕ)) (r : ReaderState) (e : line_of r x ∷ said_from (reader_after r x) xs ≡ newest_said (line_of r y) ∷ map newest_said (said_from (reader_after r y) ys)) where
  head_same : line_of r x ≡ newest_said (line_of r y)
  head_same = first_same _ _ _ _ e

  reader_same : reader_after r x ≡ reader_after r y
  reader_same = ap (λ s. after_line s r) head_same ∙ newest_after (line_of r y) r

  tail_same : said_from (reader_after r y) xs ≡ map newest_said (said_from (reader_after r y) ys)
  tail_same = ap (λ q. said_from q xs) (sym reader_same) ∙ later_same _ _ _ _ e

texts_same : (xs ys : List (List ℕ)) (r : ReaderState) (p : Server) → said_from r xs ≡ map newest_said (said_from r ys) → text_from r p xs ≡ text_from r p ys
texts_same [] [] r p e = refl
texts_same [] (y ∷ ys) r p e = absurd (none_same _ _ (sym e))
texts_same (x ∷ xs) [] r p e = absurd (none_same _ _ e)
texts_same (x ∷ xs) (y ∷ ys) r p e =
    ap (λ s. with_text r p s (λ q server. text_from q server xs)) (head_same x y xs ys r e)
    ∙ (newest_with r p (line_of r y) (λ q server. text_from q server xs)
    ∙ ap (λ l. read_text p (reader_after r y).lines (line_of r y) ++ (if is_read (line_of r y) then l else []))
    (texts_same xs ys (reader_after r y) (after_read p (line_of r y)) (tail_same x y xs ys r e)))

endings_same : (xs ys : List (List ℕ)) (r : ReaderState) (p : Server) → said_from r xs ≡ map newest_said (said_from r ys) → ending_from r p xs ≡ ending_from r p ys
endings_same [] [] r p e = refl
endings_same [] (y ∷ ys) r p e = absurd (none_same _ _ (sym e))
endings_same (x ∷ xs) [] r p e = absurd (none_same _ _ e)
endings_same (x ∷ xs) (y ∷ ys) r p e =
    ap (λ s. with_ending r p s (λ q server. ending_from q server xs)) (head_same x y xs ys r e)
    ∙ (newest_ends r p (line_of r y) (λ q server. ending_from q server xs)
    ∙ ap (λ l. then_ending (read_ending p (reader_after r y).lines (line_of r y)) l)
    (endings_same xs ys (reader_after r y) (after_read p (line_of r y)) (tail_same x y xs ys r e)))

pub means_the_same : MeansTheSame
unfolding MeansTheSame SaysTheSame transcript ending
means_the_same new old says =
    (texts_same (lines_of new) (lines_of old) (first_reader Run) first_server says, endings_same (lines_of new) (lines_of old) (first_reader Run) first_server says)
