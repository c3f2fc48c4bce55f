-- What is written for lines, line after line.
use Rattle.std.proofs.Common.{◌≡◌, ℕ, ◌+◌, ◌<◌, List, [], ◌∷◌, ◌++◌, Bool, true, false, Option, Some, None, Result, Ok, Err, length, refl, sym, ap, ◌∙◌, append_assoc, append-nil, length-append, arith}
use Rattle.std.specs.Prelude.{if◌then◌else◌, nat_lt, not, ◌||◌}
use Rattle.std.specs.declared.option.Option.{Option as Known}
use Rattle.std.proofs.lemmas.Bool.Decides.{nat_tests}
use Rattle.edit_fields.specs.declared.fault.LineFault.{LineFault}
use Rattle.edit_fields.specs.declared.fault.LineFault.TheVariants.{TooLong}
use Rattle.edit_text.specs.declared.line.FileKind.TheVariants.{Run}
use Rattle.edit_text.specs.declared.line.Line.{Line}
use Rattle.edit_text.specs.declared.line.Line.TheVariants.{Bot, Guild, Edit, Look, Open, Frame, Lost, Closed, Tick}
use Rattle.edit_text.specs.declared.reader_state.ReaderState.{ReaderState}
use Rattle.edit_text.specs.Lines.{line_of, after_line, reader_after, noted, counted}
use Rattle.edit_text.specs.Reader.{first_reader, reader_from}
use Rattle.scenario.specs.declared.fault.PlayFault.{PlayFault}
use Rattle.scenario.specs.declared.fault.PlayFault.TheVariants as play
use Rattle.scenario.specs.Server.{Server, first_server}
use Rattle.scenario.specs.declared.server.Server.{Server as KeptServer}
use Rattle.scenario.specs.Transcript.{Ending, Whole, Stops, Spends, is_read, read_text, read_ending, after_run, run_text, run_ending, then_ending, text_from, ending_from, server_from, line_spends, text_of, ending_of, reader_of, server_of}
use Rattle.scenario.specs.Represents.{Represents}
use Rattle.gate_outside.specs.Streams.{Carries, CarriesFront}
use Rattle.scenario.specs.Played.{Leaves, RunsLine, IsCounted}
use Rattle.gate_outside.proofs.Fronts.{carries_more, front_of_more, front_before}

-- ---- lines that do not end the play

pub then_whole : (a b : Ending) → then_ending a b ≡ Whole → (a ≡ Whole) × (b ≡ Whole)
then_whole Whole b e = (refl, e)
then_whole (Stops line fault) b e = absurd (cc)
then_whole Spends b e = absurd (cc)

read_whole : (p : Server) (n : ℕ) (r : Result (Option Line) LineFault) → read_ending p n r ≡ Whole → is_read r ≡ true
read_whole p n (Ok line) e = refl
read_whole p n (Err fault) e = absurd (cc)

pub reader-more : (xs : List (List ℕ)) (r : ReaderState) (ys : List (List ℕ)) → reader_from r (xs ++ ys) ≡ reader_from (reader_from r xs) ys
reader-more [] r ys = refl
reader-more (x ∷ xs) r ys = reader-more xs (reader_after r x) ys

pub server-more : (xs : List (List ℕ)) (r : ReaderState) (p : Server) (ys : List (List ℕ)) → server_from r p (xs ++ ys) ≡ server_from (reader_from r xs) (server_from r p xs) ys
server-more [] r p ys = refl
server-more (x ∷ xs) r p ys = server-more xs (reader_after r x) (after_run r p x) ys

pub ending-more : (xs : List (List ℕ)) (r : ReaderState) (p : Server) (ys : List (List ℕ)) → ending_from r p xs ≡ Whole
    → ending_from r p (xs ++ ys) ≡ ending_from (reader_from r xs) (server_from r p xs) ys
ending-more [] r p ys e = refl
ending-more (x ∷ xs) r p ys e =
    let both = then_whole (run_ending r p x) (ending_from (reader_after r x) (after_run r p x) xs) e in
    ap (λ a. then_ending a (ending_from (reader_after r x) (after_run r p x) (xs ++ ys))) both.0 ∙ ending-more xs (reader_after r x) (after_run r p x) ys both.1

pub text-more : (xs : List (List ℕ)) (r : ReaderState) (p : Server) (ys : List (List ℕ)) → ending_from r p xs ≡ Whole
    → text_from r p (xs ++ ys) ≡ text_from r p xs ++ text_from (reader_from r xs) (server_from r p xs) ys
text-more [] r p ys e = refl
text-more (x ∷ xs) r p ys e =
    let both = then_whole (run_ending r p x) (ending_from (reader_after r x) (after_run r p x) xs) e in
    let yes : is_read (line_of r x) ≡ true = read_whole p (reader_after r x).lines (line_of r x) both.0 in
    let rest = text-more xs (reader_after r x) (after_run r p x) ys both.1 in
    ap (λ t. run_text r p x ++ (if t then text_from (reader_after r x) (after_run r p x) (xs ++ ys) else [])) yes
    ∙ (ap (λ l. run_text r p x ++ l) rest
    ∙ (sym (append_assoc (run_text r p x) (text_from (reader_after r x) (after_run r p x) xs) (text_from (reader_from r (x ∷ xs)) (server_from r p (x ∷ xs)) ys))
    ∙ ap (λ t. (run_text r p x ++ (if t then text_from (reader_after r x) (after_run r p x) xs else [])) ++ text_from (reader_from r (x ∷ xs)) (server_from r p (x ∷ xs)) ys) (sym yes)))

-- ---- one line alone

pub one_text : (r : ReaderState) (p : Server) (line : List ℕ) → text_from r p (line ∷ []) ≡ run_text r p line
one_text r p line = by_read (is_read (line_of r line))
  where
    by_read : (t : Bool) → run_text r p line ++ (if t then [] else []) ≡ run_text r p line
    by_read true = append-nil (run_text r p line)
    by_read false = append-nil (run_text r p line)

pub then_nothing : (a : Ending) → then_ending a Whole ≡ a
then_nothing Whole = refl
then_nothing (Stops line fault) = refl
then_nothing Spends = refl

-- ---- the line that ends the play

-- a text and its ending, in the midst of a longer text
pub ends_within : (fault : PlayFault) (got got0 got1 : Known (List ℕ)) (waits0 waits1 before text back full : List ℕ) (end all : Ending)
    → Carries got got0 waits0 before → full ≡ before ++ (text ++ back)
    → ((n : ℕ) (f : LineFault) → end ≡ Stops n f → (back ≡ []) × (all ≡ Stops n f)) → (end ≡ Spends → all ≡ Spends)
    → Leaves got0 got1 waits1 (waits0 ++ text) end fault → Leaves got got1 waits1 full all fault
ends_within fault got got0 got1 waits0 waits1 before text back full end all wrote is stops spends ends = by_fault fault ends
  where
    front : CarriesFront got0 got1 waits1 (waits0 ++ text) → CarriesFront got got1 waits1 full
    front h =
        let more : CarriesFront got0 got1 waits1 (waits0 ++ (text ++ back)) = rw (append_assoc waits0 text back) at (front_before got0 got1 waits1 (waits0 ++ text) back h) in
        rw is (front_of_more got got0 got1 waits0 waits1 before (text ++ back) wrote more)

    by_fault : (fault : PlayFault) → Leaves got0 got1 waits1 (waits0 ++ text) end fault → Leaves got got1 waits1 full all fault
    by_fault play.Read h = h
    by_fault play.Write h = front h
    by_fault (play.Line n f) h =
        let both = stops n f h.1 in
        let whole : full ≡ before ++ text = is ∙ ap (λ l. before ++ l) (ap (λ b. text ++ b) both.0 ∙ append-nil text) in
        (rw whole (carries_more got got0 got1 waits0 waits1 before text wrote h.0), both.1)
    by_fault play.Spent h = (front h.0, spends h.1)
    by_fault play.Memory h = front h

spends_stops : (b : Bool) (n : ℕ) (f : LineFault) → (if b then Spends else Whole) ≡ Stops n f → ⊥
spends_stops true n f e = absurd (cc)
spends_stops false n f e = absurd (cc)

stops_unread : (p : Server) (m : ℕ) (r : Result (Option Line) LineFault) (n : ℕ) (f : LineFault) → read_ending p m r ≡ Stops n f → is_read r ≡ false
stops_unread p m (Ok None) n f e = absurd (cc)
stops_unread p m (Ok (Some line)) n f e = absurd (spends_stops (line_spends p line) n f e)
stops_unread p m (Err fault) n f e = refl

-- what follows a line
after : ReaderState → Server → List ℕ → List (List ℕ) → List ℕ
after r p line later = if is_read (line_of r line) then text_from (reader_after r line) (after_run r p line) later else []

pub ends_among : (fault : PlayFault) (xs : List (List ℕ)) (line : List ℕ) (later : List (List ℕ)) (got got0 got1 : Known (List ℕ)) (waits0 waits1 : List ℕ)
    → ending_of xs ≡ Whole → Carries got got0 waits0 (text_of xs)
    → Leaves got0 got1 waits1 (waits0 ++ run_text (reader_of xs) (server_of xs) line) (run_ending (reader_of xs) (server_of xs) line) fault
    → Leaves got got1 waits1 (text_of (xs ++ line ∷ later)) (ending_of (xs ++ line ∷ later)) fault
unfolding after
ends_among fault xs line later got got0 got1 waits0 waits1 goes wrote ends =
    let r : ReaderState = reader_of xs in
    let p : Server = server_of xs in
    let end : ending_of (xs ++ line ∷ later) ≡ then_ending (run_ending r p line) (ending_from (reader_after r line) (after_run r p line) later) = ending-more xs (first_reader Run) first_server (line ∷ later) goes in
    ends_within fault got got0 got1 waits0 waits1 (text_of xs) (run_text r p line) (after r p line later) (text_of (xs ++ line ∷ later)) (run_ending r p line) (ending_of (xs ++ line ∷ later)) wrote
    (text-more xs (first_reader Run) first_server (line ∷ later) goes)
    (λ n f stops. (
      ap (λ t. if t then text_from (reader_after r line) (after_run r p line) later else []) (stops_unread p (reader_after r line).lines (line_of r line) n f stops),
      end ∙ ap (λ a. then_ending a (ending_from (reader_after r line) (after_run r p line) later)) stops,
    ))
    (λ spends. end ∙ ap (λ a. then_ending a (ending_from (reader_after r line) (after_run r p line) later)) spends)
    ends

-- ---- a line that is played

pub line_is_run : (xs : List (List ℕ)) (line : List ℕ) (got got0 got1 : Known (List ℕ)) (waits0 waits1 : List ℕ) (server : KeptServer) → Carries got got0 waits0 (text_of xs) → ending_of xs ≡ Whole
    → RunsLine (reader_of xs) (server_of xs) line got0 got1 waits0 waits1 server
    → Represents server (server_of (xs ++ line ∷ [])) × Carries got got1 waits1 (text_of (xs ++ line ∷ [])) × (ending_of (xs ++ line ∷ []) ≡ Whole)
line_is_run xs line got got0 got1 waits0 waits1 server wrote goes runs =
    let r : ReaderState = reader_of xs in
    let p : Server = server_of xs in
    let text : text_of (xs ++ line ∷ []) ≡ text_of xs ++ run_text r p line = text-more xs (first_reader Run) first_server (line ∷ []) goes ∙ ap (λ l. text_of xs ++ l) (one_text r p line) in (
      rw (server-more xs (first_reader Run) first_server (line ∷ [])) runs.0,
      rw text (carries_more got got0 got1 waits0 waits1 (text_of xs) (run_text r p line) wrote runs.1.0),
      ending-more xs (first_reader Run) first_server (line ∷ []) goes ∙ (then_nothing (run_ending r p line) ∙ runs.1.1),
    )

-- ---- a line that is too long

too_long : (r : ReaderState) (line : List ℕ) → 65536 < length line → line_of r line ≡ Err TooLong
unfolding line_of
too_long r line h = let yes : nat_lt 65536 (length line) ≡ true = grind (arith, nat_tests) in simp yes refl

pub long_text : (r : ReaderState) (p : Server) (line more : List ℕ) → 65536 < length line → run_text r p (line ++ more) ≡ run_text r p line
long_text r p line more h =
    let longer : 65536 < length (line ++ more) = simp length-append (omega arith) in
    ap (λ o. read_text p (after_line o r).lines o) (too_long r (line ++ more) longer ∙ sym (too_long r line h))

pub long_ending : (r : ReaderState) (p : Server) (line more : List ℕ) → 65536 < length line → run_ending r p (line ++ more) ≡ run_ending r p line
long_ending r p line more h =
    let longer : 65536 < length (line ++ more) = simp length-append (omega arith) in
    ap (λ o. read_ending p (after_line o r).lines o) (too_long r (line ++ more) longer ∙ sym (too_long r line h))

-- a line that is too long is not played
pub long_stops : (r : ReaderState) (p : Server) (line : List ℕ) → 65536 < length line → run_ending r p line ≡ Whole → ⊥
long_stops r p line h whole =
    absurd (cc (whole, ap (λ o. read_ending p (after_line o r).lines o) (too_long r line h)))

within : (a b : Bool) (r : Result (Option Line) LineFault) (o : Option Line) → (if (a || not b) then Err TooLong else r) ≡ Ok o → (a ≡ false) × (b ≡ true)
within true b r o e = absurd (cc)
within false true r o e = (refl, refl)
within false false r o e = absurd (cc)

tests : (r : ReaderState) (line : List ℕ) (o : Option Line) → line_of r line ≡ Ok o → (nat_lt 65536 (length line) ≡ false) × (nat_lt r.lines 1000000 ≡ true)
unfolding line_of
tests r line o e = within (nat_lt 65536 (length line)) (nat_lt r.lines 1000000) _ o e

noted_lines : (line : Line) (r : ReaderState) → (noted line r).lines ≡ r.lines
noted_lines (Bot token user name privileged v items bytes) r = refl
noted_lines (Guild id) r = refl
noted_lines (Edit guild edit) r = refl
noted_lines (Look worker guild) r = refl
noted_lines (Open worker conn) r = refl
noted_lines (Frame conn text) r = refl
noted_lines (Lost conn) r = refl
noted_lines (Closed conn code) r = refl
noted_lines (Tick worker now) r = refl

read_lines : (o : Option Line) (r : ReaderState) → (after_line (Ok o) r).lines ≡ (counted r).lines
read_lines None r = refl
read_lines (Some line) r = ap (λ n. if nat_lt 1000000 n then n else n + 1) (noted_lines line r)

counted_next : (r : ReaderState) → r.lines < 1000000 → (counted r).lines ≡ r.lines + 1
counted_next r h = let more : nat_lt 1000000 r.lines ≡ false = grind (arith, nat_tests) in ap (λ b. if b then r.lines else r.lines + 1) more

-- a line that is read is not too long, and has a number that a file's lines may have
pub counted_line : (r : ReaderState) (line : List ℕ) (o : Option Line) → line_of r line ≡ Ok o → IsCounted r line (reader_after r line)
counted_line r line o e =
    let (is_short, is_early) = tests r line o e in
    let few : r.lines < 1000000 = grind (arith, nat_tests, is_early) in
    record {
      few = few;
      short = grind (arith, nat_tests, is_short);
      next = ap (λ a. (after_line a r).lines) e ∙ (read_lines o r ∙ counted_next r few);
    }
