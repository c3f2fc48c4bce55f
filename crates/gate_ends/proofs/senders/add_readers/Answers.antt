use Rattle.std.proofs.Common.{rules, ◌∙◌, ◌++◌, ◌∷◌, [], ap}
use Rattle.std.proofs.lemmas.List.{nil_from_length}
use Rattle.gate_ends.proofs.Popped.{passed_none, passed_one, passed_all, flat_itself, Anything}
use Rattle.gate_ends.proofs.senders.add_readers.Goals as goal

pub loop-reader-init : goal.loop-reader-init
loop-reader-init c = passed_none Anything (λ r. r ∷ []) c.args.more.items c.args.readers.now.items c.reverse.new.self.items c.reverse.ensures.items

pub loop-reader-preserved : goal.loop-reader-preserved
loop-reader-preserved c =
    passed_one Anything (λ r. r ∷ []) c.args.more.items c.args.readers.now.items c.loop-reader.more.items c.pop.new.self.items c.loop-reader.readers.items c.push.new.self.items c.in-Some.reader
    c.loop-reader.invariant c.in-Some.ensures.items tt c.in_ok-push.ensures.items

pub returns : goal.returns
returns c =
    (passed_all Anything (λ r. r ∷ []) c.args.more.items c.args.readers.now.items c.loop-reader.more.items c.loop-reader.readers.items c.loop-reader.invariant (nil_from_length _ (search rules))).1
    ∙ ap (λ l. c.args.readers.now.items ++ l) (flat_itself c.args.more.items)
