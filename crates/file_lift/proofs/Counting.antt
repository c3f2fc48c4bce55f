-- Lines that are too long, and the numbers of lines.
use Rattle.std.proofs.Common.{◌≡◌, ℕ, ◌+◌, ◌<◌, ◌≤◌, List, [], ◌++◌, Bool, true, false, ◌||◌, not, Option, Some, None, Result, Ok, Err, if◌then◌else◌, length, refl, sym, ap, ◌∙◌, length-append, arith}
use Rattle.std.specs.Prelude.{nat_lt}
use Rattle.std.proofs.lemmas.Bool.Decides.{nat_tests}
use Rattle.edit_fields.specs.declared.fault.LineFault.{LineFault}
use Rattle.edit_fields.specs.declared.fault.LineFault.TheVariants.{TooLong}
use Rattle.edit_text.specs.declared.line.Line.{Line}
use Rattle.edit_text.specs.declared.line.Line.TheVariants.{Bot, Guild, Edit, Look, Open, Frame, Lost, Closed, Tick}
use Rattle.edit_text.specs.declared.reader_state.ReaderState.{ReaderState}
use Rattle.edit_text.specs.Lines.{line_of, after_line, reader_after, noted, counted}
use Rattle.json_view.specs.Fields.{and_then}
use Rattle.file_lift.specs.Lifted.{text_of, short_text, newest_text}
use Rattle.file_lift.specs.Lifting.{CountsOn}

too_long : (r : ReaderState) (line : List ℕ) → 65536 < length line → line_of r line ≡ Err TooLong
unfolding line_of
too_long r line h = let over : nat_lt 65536 (length line) ≡ true = grind (arith, nat_tests) in simp over refl

-- a line that is too long is the same with more
pub long_same : (r : ReaderState) (line more : List ℕ) → 65536 < length line → line_of r (line ++ more) ≡ line_of r line
long_same r line more h =
    let longer : 65536 < length (line ++ more) = simp length-append (omega arith) in
    too_long r (line ++ more) longer ∙ sym (too_long r line h)

-- and has no text
pub long_refused : (r : ReaderState) (line text : List ℕ) → 65536 < length line → newest_text r line ≡ Ok text → ⊥
long_refused r line text h is = absurd (let e : Err TooLong ≡ Ok text = sym (ap (λ s. and_then s (λ said. short_text (text_of said))) (too_long r line h)) ∙ is in cc)

within : (a b : Bool) (r : Result (Option Line) LineFault) (o : Option Line) → (if (a || not b) then Err TooLong else r) ≡ Ok o → b ≡ true
within true b r o e = absurd (cc)
within false true r o e = refl
within false false r o e = absurd (cc)

is_early : (r : ReaderState) (line : List ℕ) (o : Option Line) → line_of r line ≡ Ok o → nat_lt r.lines 1000000 ≡ true
unfolding line_of
is_early r line o e = within (nat_lt 65536 (length line)) (nat_lt r.lines 1000000) _ o e

noted_lines : (line : Line) (r : ReaderState) → (noted line r).lines ≡ r.lines
noted_lines (Bot token user name privileged v items bytes) r = refl
noted_lines (Guild id) r = refl
noted_lines (Edit guild edit) r = refl
noted_lines (Look worker guild) r = refl
noted_lines (Open worker conn) r = refl
noted_lines (Frame conn text) r = refl
noted_lines (Lost conn) r = refl
noted_lines (Closed conn code) r = refl
noted_lines (Tick worker now) r = refl

read_lines : (o : Option Line) (r : ReaderState) → (after_line (Ok o) r).lines ≡ (counted r).lines
read_lines None r = refl
read_lines (Some line) r = ap (λ n. if nat_lt 1000000 n then n else n + 1) (noted_lines line r)

counted_next : (r : ReaderState) → r.lines < 1000000 → (counted r).lines ≡ r.lines + 1
counted_next r h = let more : nat_lt 1000000 r.lines ≡ false = grind (arith, nat_tests) in ap (λ b. if b then r.lines else r.lines + 1) more

-- a line that is accepted is counted
pub counts_on : (r now : ReaderState) (line : List ℕ) (o : Option Line) → line_of r line ≡ Ok o → now ≡ reader_after r line → CountsOn r now
counts_on r now line o e is =
    let few : r.lines < 1000000 = (let early = is_early r line o e in grind (arith, nat_tests, early)) in
    let next : now.lines ≡ r.lines + 1 = ap (λ (s : ReaderState). s.lines) is ∙ (ap (λ a. (after_line a r).lines) e ∙ (read_lines o r ∙ counted_next r few)) in
    (omega (arith, next), omega (arith, few, next))

-- the reader of a blank line takes an empty one
pub blank_reads : (r : ReaderState) (line : List ℕ) → line_of r line ≡ Ok None → line_of r [] ≡ Ok None
unfolding line_of
blank_reads r line e = rw (is_early r line None e) refl

-- a text that is not too long is the text of its line
pub has_text : (r : ReaderState) (line : List ℕ) (said : Option Line) → line_of r line ≡ Ok said → length (text_of said) ≤ 65536 → newest_text r line ≡ Ok (text_of said)
has_text r line said is short =
    let fits : nat_lt 65536 (length (text_of said)) ≡ false = grind (arith, nat_tests, short) in
    ap (λ s. and_then s (λ said. short_text (text_of said))) is ∙ ap (λ b. if b then Err TooLong else Ok (text_of said)) fits
