use Rattle.std.proofs.Common.{Option, Ok, ℕ, ◌+◌, [], refl, sym, ap, subst, ◌∙◌}
use Rattle.client_run.specs.declared.ending.Ending.{Ending}
use Rattle.client_run.specs.Watched.{WatchTale}
use Rattle.client_run.specs.Drives.{seen}
use Rattle.client_run.specs.Turns.{Turns, dropped_part, dropped_end}
use Rattle.client_run.proofs.Following.{none_dropped}
use Rattle.client_run.proofs.Turning.{Goes, sees_none, visited_stop, visited_to, visited_not, visited_on}
use Rattle.client_run.proofs.turns.visit.Goals as goal

pub returns-then-is_stopped-clause-visits : goal.returns-then-is_stopped-clause-visits
returns-then-is_stopped-clause-visits g c = visited_stop c.args.client.now c.loop.client (seen (g.C.Clock.tale c.args.clock.now) (g.W.Watch.told c.args.watch.now c.args.out.now)) (seen (g.C.Clock.tale c.loop.clock) (g.W.Watch.told c.is_stopped.new.self c.loop.out)) c.loop.wire
    (subst (λ (o : WatchTale). Goes c.args.client.now c.loop.client (seen (g.C.Clock.tale c.args.clock.now) (g.W.Watch.told c.args.watch.now c.args.out.now)) (seen (g.C.Clock.tale c.loop.clock) o) c.loop.wire) (sym (ap (λ tells. tells c.loop.out) c.is_stopped.ensures.told)) c.loop.invariant.went)

pub returns-in-Ok-Some-clause-visits : goal.returns-in-Ok-Some-clause-visits
returns-in-Ok-Some-clause-visits g c =
    let went = subst (λ (o : WatchTale). Goes c.args.client.now c.loop.client (seen (g.C.Clock.tale c.args.clock.now) (g.W.Watch.told c.args.watch.now c.args.out.now)) (seen (g.C.Clock.tale c.loop.clock) o) c.loop.wire) (sym (ap (λ tells. tells c.loop.out) c.is_stopped.ensures.told)) c.loop.invariant.went in
    let mid = c.loop.client in
    let tick = seen (g.C.Clock.tale c.loop.clock) (g.W.Watch.told c.is_stopped.new.self c.loop.out) in
    let later = seen (g.C.Clock.tale c.turn.new.clock) (g.W.Watch.told c.turn.new.watch c.turn.new.out) in
    let turn = subst (λ (o : Option Ending). Turns went.0 mid c.turn.new.client tick later (Ok o) c.turn.new.wire) c.in-Ok-Some.field-0-is (c.in-Ok-Some.ensures.turns went.0 went.1.1.1) in
    visited_to c.args.client.now mid c.turn.new.client (seen (g.C.Clock.tale c.args.clock.now) (g.W.Watch.told c.args.watch.now c.args.out.now)) tick later c.loop.wire c.turn.new.wire went c.in-Ok-Some.ending turn

pub returns-in-Err-clause-visits : goal.returns-in-Err-clause-visits
returns-in-Err-clause-visits g c =
    let went = subst (λ (o : WatchTale). Goes c.args.client.now c.loop.client (seen (g.C.Clock.tale c.args.clock.now) (g.W.Watch.told c.args.watch.now c.args.out.now)) (seen (g.C.Clock.tale c.loop.clock) o) c.loop.wire) (sym (ap (λ tells. tells c.loop.out) c.is_stopped.ensures.told)) c.loop.invariant.went in
    visited_not c.args.client.now c.loop.client c.turn.new.client (seen (g.C.Clock.tale c.args.clock.now) (g.W.Watch.told c.args.watch.now c.args.out.now)) (seen (g.C.Clock.tale c.loop.clock) (g.W.Watch.told c.is_stopped.new.self c.loop.out)) (seen (g.C.Clock.tale c.turn.new.clock) (g.W.Watch.told c.turn.new.watch c.turn.new.out)) c.loop.wire c.turn.new.wire went
    c.in-Err.fault (c.in-Err.ensures.turns went.0 went.1.1.1)

pub loop-preserved : goal.loop-preserved
loop-preserved g c =
    let went = subst (λ (o : WatchTale). Goes c.args.client.now c.loop.client (seen (g.C.Clock.tale c.args.clock.now) (g.W.Watch.told c.args.watch.now c.args.out.now)) (seen (g.C.Clock.tale c.loop.clock) o) c.loop.wire) (sym (ap (λ tells. tells c.loop.out) c.is_stopped.ensures.told)) c.loop.invariant.went in
    let mid = c.loop.client in
    let tick = seen (g.C.Clock.tale c.loop.clock) (g.W.Watch.told c.is_stopped.new.self c.loop.out) in
    let later = seen (g.C.Clock.tale c.turn.new.clock) (g.W.Watch.told c.turn.new.watch c.turn.new.out) in
    let turn = subst (λ (o : Option Ending). Turns went.0 mid c.turn.new.client tick later (Ok o) c.turn.new.wire) c.in-Ok-None.field-0-is (c.in-Ok-None.ensures.turns went.0 went.1.1.1) in
    record {
      went = visited_on c.args.client.now mid c.turn.new.client (seen (g.C.Clock.tale c.args.clock.now) (g.W.Watch.told c.args.watch.now c.args.out.now)) tick later c.loop.wire c.turn.new.wire went later refl turn;
      count = c.in-Ok-None.ensures.counts ∙ ap (λ (o : Option Ending). g.W.Watch.reconnects c.is_stopped.new.self + dropped_part (Ok o)) c.in-Ok-None.field-0-is
          ∙ sym (none_dropped (g.W.Watch.reconnects c.is_stopped.new.self)) ∙ c.is_stopped.ensures.reconnects ∙ c.loop.invariant.count;
    }

pub loop-init : goal.loop-init
loop-init g c = record { went = ([], (refl, (sees_none (seen (g.C.Clock.tale c.args.clock.now) (g.W.Watch.told c.args.watch.now c.args.out.now)), c.requires))); count = refl }

pub returns-then-is_stopped-clause-counts : goal.returns-then-is_stopped-clause-counts
returns-then-is_stopped-clause-counts g c = c.is_stopped.ensures.reconnects ∙ c.loop.invariant.count ∙ none_dropped (g.W.Watch.reconnects c.args.watch.now)

pub returns-in-Ok-Some-clause-counts : goal.returns-in-Ok-Some-clause-counts
returns-in-Ok-Some-clause-counts g c =
    c.in-Ok-Some.ensures.counts ∙ ap (λ (o : Option Ending). g.W.Watch.reconnects c.is_stopped.new.self + dropped_part (Ok o)) c.in-Ok-Some.field-0-is
    ∙ ap (λ (n : ℕ). n + dropped_end (Ok c.in-Ok-Some.ending)) (c.is_stopped.ensures.reconnects ∙ c.loop.invariant.count)

pub returns-in-Err-clause-counts : goal.returns-in-Err-clause-counts
returns-in-Err-clause-counts g c = c.in-Err.ensures.counts ∙ ap (λ (n : ℕ). n + 0) (c.is_stopped.ensures.reconnects ∙ c.loop.invariant.count)
