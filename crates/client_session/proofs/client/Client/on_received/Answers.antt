use Rattle.std.proofs.Common.{subst, sym}
use Rattle.std.specs.Result.{MatchResult}
use Rattle.client_session.specs.declared.received.Received.{Received}
use Rattle.client_session.specs.Step.{Receives, StepsTo, Keeps}
use Rattle.client_session.proofs.client.Client.on_received.Goals as goal

pub returns-in-Dispatch : goal.returns-in-Dispatch
returns-in-Dispatch c =
    subst (λ (received : Received). MatchResult c.on_dispatch.result (λ acts. StepsTo c.args.self.now (Receives received c.args.now) c.on_dispatch.new.self acts.items) (Keeps c.args.self.now c.on_dispatch.new.self))
    (sym c.in-Dispatch.is) (c.on_dispatch.ensures c.args.now)
