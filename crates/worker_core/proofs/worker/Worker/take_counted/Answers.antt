-- An input by which no session ends leaves the count as it was.
use Rattle.std.proofs.Common.{Vec, Global, sym, ◌∙◌}
use Rattle.worker_core.specs.declared.io.Output.{Output}
use Rattle.worker_core.proofs.Counting.{ends_given, none_end}
use Rattle.worker_core.proofs.worker.Worker.take_counted.Goals as goal

pub returns-then-not-may_end_sessions : goal.returns-then-not-may_end_sessions
returns-then-not-may_end_sessions c i is =
    none_end c.args.self.now i c.take.new.self (λ (out : Vec Output Global). out.items) c.take.result
    (sym (ends_given c.args.input i is) ∙ (sym c.may_end_sessions.ensures ∙ c.if-not-may_end_sessions.true)) (c.take.ensures i is)

pub returns : goal.returns
returns c i is = c.take_ending.ensures i is (sym (ends_given c.args.input i is) ∙ (sym c.may_end_sessions.ensures ∙ c.if-not-may_end_sessions.false))
