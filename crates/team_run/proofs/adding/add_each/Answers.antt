use Rattle.std.proofs.Common.{rules, ◌≡◌, ◌+◌, ◌++◌, List, [], ◌∷◌, length, map, reverse, sym, ap, ◌∙◌, arith, append_assoc, append-nil, length-append}
use Rattle.std.proofs.lemmas.List.{nil_from_length, length-reverse, reverse-reverse}
use Rattle.team_run.proofs.Lists.{taken_first}
use Rattle.team_run.proofs.adding.add_each.Goals as goal

pub loop-part-init : goal.loop-part-init
loop-part-init g c =
    let same : length c.reverse.new.self.items ≡ length c.args.more.items = ap length c.reverse.ensures.items ∙ length-reverse c.args.more.items in record {
      items = ap (λ (l : List g.row.X.Denot). c.args.parts.now.items ++ map g.X.PartOf.among l) (ap reverse c.reverse.ensures.items ∙ reverse-reverse c.args.more.items);
      room = omega (arith, same, c.requires);
      count = omega (arith, same);
      larger = omega arith;
    }

pub loop-part-preserved : goal.loop-part-preserved
loop-part-preserved g c =
    let at = c.loop-part in
    let left : List g.row.X.Denot = c.pop.new.self.items in
    let first = taken_first at.more.items left c.in-Some.part c.in-Some.ensures.items in
    let fewer : length at.more.items ≡ length left + 1 = ap length c.in-Some.ensures.items ∙ length-append left (c.in-Some.part ∷ []) in record {
      items = ap (λ (l : List g.row.P.Denot). l ++ map g.X.PartOf.among (reverse left)) c.add.ensures.items
          ∙ append_assoc at.parts.items (c.into_part.result ∷ []) (map g.X.PartOf.among (reverse left))
          ∙ ap (λ (p : g.row.P.Denot). at.parts.items ++ p ∷ map g.X.PartOf.among (reverse left)) c.into_part.ensures
          ∙ ap (λ (l : List g.row.X.Denot). at.parts.items ++ map g.X.PartOf.among l) (sym first)
          ∙ at.invariant.items;
      room = omega (arith, at.invariant.room, fewer, c.add.ensures.len, c.add.ensures.capacity);
      count = omega (arith, at.invariant.count, fewer, c.add.ensures.len);
      larger = omega (arith, at.invariant.larger, c.add.ensures.capacity);
    }

pub returns-clause-items : goal.returns-clause-items
returns-clause-items g c =
    let at = c.loop-part in
    let none : at.more.items ≡ [] = nil_from_length _ (search rules) in
    sym (append-nil at.parts.items) ∙ ap (λ (l : List g.row.X.Denot). at.parts.items ++ map g.X.PartOf.among (reverse l)) (sym none) ∙ at.invariant.items
