use Rattle.std.proofs.Common.{rules, ◌≡◌, ◌∙◌, ◌+◌, ◌++◌, ◌∷◌, [], length, reverse, sym, ap, subst, append_assoc, append-nil, length-append}
use Rattle.std.proofs.lemmas.List.{nil_from_length, reverse-reverse, length-reverse}
use Rattle.team_run.proofs.Lists.{taken_first}
use Rattle.serve_run.specs.Sorted.{Sorts, HasRoom}
use Rattle.serve_run.proofs.Added.{sorts_none, sorts_more}
use Rattle.serve_run.proofs.ends.Ends.add_all.Goals as goal

pub loop-done-init : goal.loop-done-init
loop-done-init g c = record {
  front = [];
  parts = sym (ap reverse c.reverse.ensures.items ∙ reverse-reverse c.args.dones.items);
  sorts = sorts_none c.args.self.now;
  room = subst (λ n. HasRoom n c.args.self.now) (sym (ap length c.reverse.ensures.items ∙ length-reverse c.args.dones.items)) c.requires;
}

pub loop-done-preserved : goal.loop-done-preserved
loop-done-preserved g c =
    let at = c.loop-done in
    let front = at.invariant.front in
    let rest = c.pop.new.self.items in
    let done = c.in-Some.done in
    let fewer : length at.dones.items ≡ length rest + 1 = ap length c.in-Some.ensures.items ∙ length-append rest (done ∷ []) in record {
      front = front ++ done ∷ [];
      parts = at.invariant.parts ∙ ap (λ l. front ++ l) (taken_first at.dones.items rest done c.in-Some.ensures.items) ∙ sym (append_assoc front (done ∷ []) (reverse rest));
      sorts = sorts_more front (done ∷ []) c.args.self.now at.self c.add_done.new.self at.invariant.sorts c.add_done.ensures.sorts;
      room = c.add_done.ensures.room (length rest) (subst (λ n. HasRoom n at.self) fewer at.invariant.room);
    }

pub returns : goal.returns
returns g c =
    let at = c.loop-done in
    let front = at.invariant.front in
    let none : at.dones.items ≡ [] = nil_from_length _ (search rules) in
    subst (λ dones. Sorts dones c.args.self.now at.self)
    (sym (at.invariant.parts ∙ ap (λ l. front ++ reverse l) none ∙ append-nil front)) at.invariant.sorts
