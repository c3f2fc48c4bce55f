use Rattle.std.proofs.Common.{rules, ◌≡◌, ◌∙◌, ◌+◌, ◌∷◌, [], length, ap, subst, arith, length-append}
use Rattle.std.proofs.lemmas.List.{nil_from_length}
use Rattle.gate_ends.proofs.Popped.{one_less}
use Rattle.serve_run.specs.Sorted.{HasRoom, source_of_part, door_of_part, clock_of_part}
use Rattle.serve_run.specs.declared.ends.Ends.{Ends}
use Rattle.serve_run.proofs.ends.Ends.add_back.Goals as goal

pub loop-part-preserved : goal.loop-part-preserved
loop-part-preserved g c =
    let at = c.loop-part in
    let rest = c.pop.new.self.items in
    let part = c.in-Some.part in
    let new = c.add_part.new.self in
    let fewer : length at.parts.items ≡ length rest + 1 = ap length c.in-Some.ensures.items ∙ length-append rest (part ∷ []) in record {
      same = c.add_part.ensures.same ∙ ap (λ (e : Ends g.row.S.Denot g.row.D.Denot g.row.C.Denot g.row.R.Denot). record e { returned = new.returned }) at.invariant.same;
      sources = one_less source_of_part at.parts.items rest part at.self.returned.sources.items new.returned.sources.items _ c.in-Some.ensures.items c.add_part.ensures.back.sources_are at.invariant.sources;
      doors = one_less door_of_part at.parts.items rest part at.self.returned.doors.items new.returned.doors.items _ c.in-Some.ensures.items c.add_part.ensures.back.doors_are at.invariant.doors;
      clocks = one_less clock_of_part at.parts.items rest part at.self.returned.clocks.items new.returned.clocks.items _ c.in-Some.ensures.items c.add_part.ensures.back.clocks_are at.invariant.clocks;
      now = c.add_part.ensures.room (length rest) (subst (λ n. HasRoom n at.self) fewer at.invariant.now);
      room = λ m h. c.add_part.ensures.room (m + length rest) (subst (λ n. HasRoom n at.self) (omega (arith, fewer)) (at.invariant.room m h));
    }

pub returns-clause-room : goal.returns-clause-room
returns-clause-room g c more h =
    let at = c.loop-part in
    let none : at.parts.items ≡ [] = nil_from_length _ (search rules) in
    let same : more + length at.parts.items ≡ more = omega (arith, ap length none) in
    subst (λ n. HasRoom n at.self) same (at.invariant.room more h)
