use Rattle.std.proofs.Common.{◌++◌, List, None, Err, refl, subst}
use Rattle.gate_outside.specs.declared.faults.Fault.{Fault}
use Rattle.client_run.specs.Histories.{Told, StepsAll}
use Rattle.client_run.specs.Drives.{seen}
use Rattle.client_run.specs.Turns.{IsAsked, Beats}
use Rattle.client_run.proofs.Parts.{loses}
use Rattle.client_run.proofs.Turning.{turned, turned_not, asked_once}
use Rattle.client_run.proofs.turns.turn.Goals as goal

pub returns-in-Ok-clause-turns : goal.returns-in-Ok-clause-turns
returns-in-Ok-clause-turns g c before m =
    let time = seen (g.C.Clock.tale c.args.clock.now) (g.W.Watch.told c.args.watch.now c.args.out.now) in
    let tick = g.C.Clock.tale c.now_ms-now.new.self in
    let now = c.now_ms-now.result in
    let mid = c.beat.new.client in
    let b = c.in-Ok.ensures before m in
    turned before c.args.client.now mid time tick (seen (g.C.Clock.tale c.listen.new.clock) (g.W.Watch.told c.listen.new.watch c.listen.new.out)) now c.now_ms-now.ensures c.listen.new.client c.listen.result c.listen.new.wire b.0 b.1.0 b.1.1.0
    (c.listen.ensures.moves (before ++ b.0) (asked_once before b.0 now b.1.1.0) b.1.1.1) c.listen.ensures.clock

pub returns-in-Err-Failed-clause-turns : goal.returns-in-Err-Failed-clause-turns
returns-in-Err-Failed-clause-turns g c before m =
    let time = seen (g.C.Clock.tale c.args.clock.now) (g.W.Watch.told c.args.watch.now c.args.out.now) in
    let tick = g.C.Clock.tale c.now_ms-now.new.self in
    let now = c.now_ms-now.result in
    let mid = c.beat.new.client in
    let w = c.beat.new.wire in
    let b = subst (λ (f : Fault). (ts : List Told) × (StepsAll c.args.client.now ts mid × (IsAsked now ts (Err f) × Beats (before ++ ts) (Err f) w))) c.in-Err-Failed.field-0-is (c.in-Err-Failed.ensures before m) in
    turned before c.args.client.now mid time tick (seen tick (g.W.Watch.told c.args.watch.now c.args.out.now)) now c.now_ms-now.ensures c.lose.new.client c.lose.result w b.0 b.1.0 b.1.1.0
    (loses now (before ++ b.0) None mid c.lose.new.client (g.W.Watch.told c.args.watch.now c.args.out.now) (g.W.Watch.told c.args.watch.now c.args.out.now) c.lose.result w refl b.1.1.1 c.lose.ensures) refl

pub returns-in-Err-Memory-clause-turns : goal.returns-in-Err-Memory-clause-turns
returns-in-Err-Memory-clause-turns g c before m =
    let time = seen (g.C.Clock.tale c.args.clock.now) (g.W.Watch.told c.args.watch.now c.args.out.now) in
    let tick = g.C.Clock.tale c.now_ms-now.new.self in
    let now = c.now_ms-now.result in
    let mid = c.beat.new.client in
    let w = c.beat.new.wire in
    let b = subst (λ (f : Fault). (ts : List Told) × (StepsAll c.args.client.now ts mid × (IsAsked now ts (Err f) × Beats (before ++ ts) (Err f) w))) c.in-Err-Memory.field-0-is (c.in-Err-Memory.ensures before m) in
    turned_not before c.args.client.now mid time tick (seen tick (g.W.Watch.told c.args.watch.now c.args.out.now)) now c.now_ms-now.ensures w b.0 refl b.1.0 b.1.1.0 b.1.1.1
