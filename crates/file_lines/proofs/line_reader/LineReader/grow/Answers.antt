use Rattle.std.proofs.Common.{◌≡◌, ◌∷◌, ◌++◌, ℕ, List, inl, sym, ap, ap₂, ◌∙◌, arith}
use Rattle.std.specs.Prelude.{nat_lt}
use Rattle.std.proofs.lemmas.Grind.{common_steps}
use Rattle.std.proofs.lemmas.List.{drop_all}
use Rattle.file_lines.specs.Reads.{HeldBytes}
use Rattle.file_lines.proofs.Reading.{last_kept, grown}
use Rattle.file_lines.proofs.line_reader.LineReader.grow.Goals as goal

pub returns-in_ok-extend_from_slice-in-Some : goal.returns-in_ok-extend_from_slice-in-Some
returns-in_ok-extend_from_slice-in-Some c =
    let piece : List ℕ = c.in-Some.piece.now in
    let later : List ℕ = c.in-Some.later.now in
    let ahead : c.self.inside.ahead ≡ c.args.self.now.ahead = ap (λ (h : HeldBytes). h.ahead) c.self.view_is in
    let split : c.self.inside.ahead ≡ piece ++ 10 ∷ later = sym c.bytes.ensures ∙ c.in-Some.ensures.1 in
    let kept : c.keep_last.new.self ≡ later = c.keep_last.ensures ∙ last_kept c.self.inside.ahead piece later split in (
      piece,
      c.in-Some.ensures.0,
      c.in_ok-extend_from_slice-in-Some.ensures.items ∙ ap (λ (h : HeldBytes). h.line ++ piece) c.self.view_is,
      inl (sym ahead ∙ (split ∙ ap (λ (l : List ℕ). piece ++ 10 ∷ l) (sym kept))),
    )

pub returns-in_ok-extend_from_slice-in-None : goal.returns-in_ok-extend_from_slice-in-None
returns-in_ok-extend_from_slice-in-None c =
    let line : c.self.inside.line.items ≡ c.args.self.now.line = ap (λ (h : HeldBytes). h.line) c.self.view_is in
    let ahead : c.self.inside.ahead ≡ c.args.self.now.ahead = ap (λ (h : HeldBytes). h.ahead) c.self.view_is in
    grown c.args.most c.args.self.now _ _
    (rw (sym ahead ∙ sym c.bytes.ensures) c.in-None.ensures)
    (c.in_ok-extend_from_slice-in-None.ensures.items ∙ ap₂ (λ (l : List ℕ) (a : List ℕ). l ++ a) line (c.bytes-in-None.ensures ∙ ahead))
    (c.keep_last-in-None.ensures ∙ drop_all _ c.self.inside.ahead (omega arith))
    (ap (nat_lt c.args.most) (grind (arith, common_steps)))
