use Rattle.std.proofs.Common.{rules, ◌≡◌, ◌∙◌, ◌+◌, ◌∷◌, [], length, ap, subst, arith, length-append}
use Rattle.std.proofs.lemmas.List.{nil_from_length}
use Rattle.gate_ends.proofs.Popped.{one_less}
use Rattle.load_run.specs.Ends.{clock_of_part}
use Rattle.load_run.specs.Sorted.{HasRoom}
use Rattle.load_run.specs.declared.sorting.Ends.{Ends}
use Rattle.load_run.proofs.sorting.Ends.add_back.Goals as goal

pub loop-part-preserved : goal.loop-part-preserved
loop-part-preserved g c =
    let at = c.loop-part in
    let rest = c.pop.new.self.items in
    let part = c.in-Some.part in
    let new = c.add_part.new.self in
    let fewer : length at.parts.items ≡ length rest + 1 = ap length c.in-Some.ensures.items ∙ length-append rest (part ∷ []) in record {
      same = c.add_part.ensures.same ∙ ap (λ (e : Ends g.row.C.Denot g.row.R.Denot). record e { clocks = new.clocks }) at.invariant.same;
      clocks = one_less clock_of_part at.parts.items rest part at.self.clocks.items new.clocks.items _ c.in-Some.ensures.items c.add_part.ensures.clocks at.invariant.clocks;
      now = c.add_part.ensures.room (length rest) (subst (λ n. HasRoom n at.self) fewer at.invariant.now);
      room = λ m h. c.add_part.ensures.room (m + length rest) (subst (λ n. HasRoom n at.self) (omega (arith, fewer)) (at.invariant.room m h));
    }

pub returns-clause-room : goal.returns-clause-room
returns-clause-room g c more h =
    let at = c.loop-part in
    let none : at.parts.items ≡ [] = nil_from_length _ (search rules) in
    let same : more + length at.parts.items ≡ more = omega (arith, ap length none) in
    subst (λ n. HasRoom n at.self) same (at.invariant.room more h)
