use Rattle.std.proofs.Common.{rules, ◌∙◌, ◌++◌, ◌∷◌, [], ap}
use Rattle.std.proofs.lemmas.List.{nil_from_length}
use Rattle.gate_ends.specs.Done.{HasServed}
use Rattle.gate_ends.proofs.Popped.{passed_none, passed_one, passed_all, flat_one}
use Rattle.gate_ends.proofs.senders.add_workers.Goals as goal

pub loop-end-init : goal.loop-end-init
loop-end-init c = record {
  passes = passed_none HasServed (λ e. e.passes ∷ []) c.args.workers.items c.args.passes.now.items c.reverse.new.self.items c.reverse.ensures.items;
  readers = passed_none HasServed (λ e. e.readers.items) c.args.workers.items c.args.readers.now.items c.reverse.new.self.items c.reverse.ensures.items;
}

pub loop-end-preserved : goal.loop-end-preserved
loop-end-preserved c = record {
  passes = passed_one HasServed (λ e. e.passes ∷ []) c.args.workers.items c.args.passes.now.items c.loop-end.workers.items c.pop.new.self.items c.loop-end.passes.items c.add_worker.new.passes.items c.in-Some.end
      c.loop-end.invariant.passes c.in-Some.ensures.items c.in_ok-add_worker.ensures.0 c.in_ok-add_worker.ensures.1;
  readers = passed_one HasServed (λ e. e.readers.items) c.args.workers.items c.args.readers.now.items c.loop-end.workers.items c.pop.new.self.items c.loop-end.readers.items c.add_worker.new.readers.items c.in-Some.end
      c.loop-end.invariant.readers c.in-Some.ensures.items c.in_ok-add_worker.ensures.0 c.in_ok-add_worker.ensures.2;
}

pub returns : goal.returns
returns c =
    let none = nil_from_length _ (search rules) in
    let passes = passed_all HasServed (λ e. e.passes ∷ []) c.args.workers.items c.args.passes.now.items c.loop-end.workers.items c.loop-end.passes.items c.loop-end.invariant.passes none in
    let readers = passed_all HasServed (λ e. e.readers.items) c.args.workers.items c.args.readers.now.items c.loop-end.workers.items c.loop-end.readers.items c.loop-end.invariant.readers none in
    (passes.0, passes.1 ∙ ap (λ l. c.args.passes.now.items ++ l) (flat_one (λ e. e.passes) c.args.workers.items), readers.1)
