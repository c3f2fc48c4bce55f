use Rattle.std.proofs.Common.{sym, ◌≡◌, ◌+◌, ap, ◌++◌, List, [], ℕ, Option, Ok, Err, refl, subst, ◌∙◌}
use Rattle.client_run.specs.declared.driven.Driven.{Driven}
use Rattle.client_run.specs.Histories.{Visit, dropped}
use Rattle.client_run.specs.Watched.{WatchTale}
use Rattle.client_run.specs.Drives.{Goes, Drives, outside, seen}
use Rattle.client_run.specs.Turns.{Attempts}
use Rattle.client_run.proofs.Visiting.{goes_nowhere}
use Rattle.client_run.proofs.Following.{goes_more, left_more, drives_more, none_dropped, dropped_more}
use Rattle.client_run.proofs.driving.drive_from.Goals as goal

pub loop-init : goal.loop-init
loop-init g c =
    let d = g.D.Dial.tale c.args.dial.now in
    record {
      vs = [];
      goes = goes_nowhere c.args.route.now.first c.args.route.now.target c.args.client.now d d (seen (g.C.Clock.tale c.args.clock.now) (g.W.Watch.told c.args.watch.now c.args.out.now)) refl refl;
      left = refl;
      first = refl;
      same = c.requires.same;
      wet = c.requires.wet;
      house = refl;
      count = none_dropped (g.W.Watch.reconnects c.args.watch.now);
    }

pub returns-in-Ok-Some-clause-drives : goal.returns-in-Ok-Some-clause-drives
returns-in-Ok-Some-clause-drives g c =
    let way = c.args.route.now in
    let here = c.loop.route in
    let a = outside c.args.client.now (g.D.Dial.tale c.args.dial.now) (seen (g.C.Clock.tale c.args.clock.now) (g.W.Watch.told c.args.watch.now c.args.out.now)) in
    let b = outside c.loop.client (g.D.Dial.tale c.loop.dial) (seen (g.C.Clock.tale c.loop.clock) (g.W.Watch.told c.is_stopped.new.self c.loop.out)) in
    let d = outside c.attempt.new.client (g.D.Dial.tale c.attempt.new.dial) (seen (g.C.Clock.tale c.attempt.new.clock) (g.W.Watch.told c.attempt.new.watch c.attempt.new.out)) in
    let start = g.W.Watch.reconnects c.args.watch.now in
    let before = g.W.Watch.reconnects c.is_stopped.new.self in
    let now = g.W.Watch.reconnects c.attempt.new.watch in
    let went = c.loop.invariant in
    let here_goes = subst (λ (o : WatchTale). Goes way.first way.target went.vs here.target a (outside c.loop.client (g.D.Dial.tale c.loop.dial) (seen (g.C.Clock.tale c.loop.clock) o))) (sym (ap (λ tells. tells c.loop.out) c.is_stopped.ensures.told)) went.goes in
    let last = subst (λ (o : Option Driven). (us : List Visit) × (Attempts here c.attempt.new.route us b d (Ok o) × (now ≡ before + dropped us))) c.in-Ok-Some.field-0-is c.in-Ok-Some.ensures.attempts in
    let there = subst (λ (first : List ℕ). Drives first here.target last.0 b d (Ok c.in-Ok-Some.driven)) went.first last.1.0 in
    (went.vs ++ last.0, (drives_more way.first way.target here.target went.vs last.0 a b d (Ok c.in-Ok-Some.driven) here_goes went.left there, dropped_more start (g.W.Watch.reconnects c.loop.watch) now went.vs last.0 went.count (last.1.1 ∙ ap (λ (n : ℕ). n + dropped last.0) c.is_stopped.ensures.reconnects)))

pub returns-in-Err-clause-drives : goal.returns-in-Err-clause-drives
returns-in-Err-clause-drives g c =
    let way = c.args.route.now in
    let here = c.loop.route in
    let a = outside c.args.client.now (g.D.Dial.tale c.args.dial.now) (seen (g.C.Clock.tale c.args.clock.now) (g.W.Watch.told c.args.watch.now c.args.out.now)) in
    let b = outside c.loop.client (g.D.Dial.tale c.loop.dial) (seen (g.C.Clock.tale c.loop.clock) (g.W.Watch.told c.is_stopped.new.self c.loop.out)) in
    let d = outside c.attempt.new.client (g.D.Dial.tale c.attempt.new.dial) (seen (g.C.Clock.tale c.attempt.new.clock) (g.W.Watch.told c.attempt.new.watch c.attempt.new.out)) in
    let start = g.W.Watch.reconnects c.args.watch.now in
    let before = g.W.Watch.reconnects c.is_stopped.new.self in
    let now = g.W.Watch.reconnects c.attempt.new.watch in
    let went = c.loop.invariant in
    let here_goes = subst (λ (o : WatchTale). Goes way.first way.target went.vs here.target a (outside c.loop.client (g.D.Dial.tale c.loop.dial) (seen (g.C.Clock.tale c.loop.clock) o))) (sym (ap (λ tells. tells c.loop.out) c.is_stopped.ensures.told)) went.goes in
    let last = c.in-Err.ensures.attempts in
    let there = subst (λ (first : List ℕ). Drives first here.target last.0 b d (Err c.in-Err.fault)) went.first last.1.0 in
    (went.vs ++ last.0, (drives_more way.first way.target here.target went.vs last.0 a b d (Err c.in-Err.fault) here_goes went.left there, dropped_more start (g.W.Watch.reconnects c.loop.watch) now went.vs last.0 went.count (last.1.1 ∙ ap (λ (n : ℕ). n + dropped last.0) c.is_stopped.ensures.reconnects)))

pub loop-preserved : goal.loop-preserved
loop-preserved g c =
    let way = c.args.route.now in
    let here = c.loop.route in
    let later = c.attempt.new.route in
    let a = outside c.args.client.now (g.D.Dial.tale c.args.dial.now) (seen (g.C.Clock.tale c.args.clock.now) (g.W.Watch.told c.args.watch.now c.args.out.now)) in
    let b = outside c.loop.client (g.D.Dial.tale c.loop.dial) (seen (g.C.Clock.tale c.loop.clock) (g.W.Watch.told c.is_stopped.new.self c.loop.out)) in
    let d = outside c.attempt.new.client (g.D.Dial.tale c.attempt.new.dial) (seen (g.C.Clock.tale c.attempt.new.clock) (g.W.Watch.told c.attempt.new.watch c.attempt.new.out)) in
    let start = g.W.Watch.reconnects c.args.watch.now in
    let before = g.W.Watch.reconnects c.is_stopped.new.self in
    let now = g.W.Watch.reconnects c.attempt.new.watch in
    let went = c.loop.invariant in
    let here_goes = subst (λ (o : WatchTale). Goes way.first way.target went.vs here.target a (outside c.loop.client (g.D.Dial.tale c.loop.dial) (seen (g.C.Clock.tale c.loop.clock) o))) (sym (ap (λ tells. tells c.loop.out) c.is_stopped.ensures.told)) went.goes in
    let last = subst (λ (o : Option Driven). (us : List Visit) × (Attempts here later us b d (Ok o) × (now ≡ before + dropped us))) c.in-Ok-None.field-0-is c.in-Ok-None.ensures.attempts in
    let there = subst (λ (first : List ℕ). Goes first here.target last.0 later.target b d) went.first last.1.0.0 in
    record {
      vs = went.vs ++ last.0;
      goes = goes_more way.first way.target here.target later.target went.vs last.0 a b d here_goes there;
      left = left_more went.vs last.0 went.left last.1.0.1.0;
      first = last.1.0.1.1.0 ∙ went.first;
      same = last.1.0.1.1.1.0;
      wet = last.1.0.1.1.1.1;
      house = c.in-Ok-None.ensures.house ∙ went.house;
      count = dropped_more start (g.W.Watch.reconnects c.loop.watch) now went.vs last.0 went.count (last.1.1 ∙ ap (λ (n : ℕ). n + dropped last.0) c.is_stopped.ensures.reconnects);
    }
