use Rattle.std.proofs.Common.{◌≡◌, ◌∙◌, ℕ, ◌+◌, length, Ok, Err, All, sym, ap, subst, arith}
use Rattle.std.proofs.lemmas.Result.{err_from_is_err_and}
use Rattle.std.proofs.lemmas.List.{length_push}
use Rattle.std.proofs.lemmas.List.Elements.{All-push}
use Rattle.std.proofs.lemmas.List.FromFn.{length-map-range_with_len}
use Rattle.gate_outside.specs.declared.asked.Asked.{Asked}
use Rattle.gate_outside.specs.declared.asked.Asked.TheVariants as asked
use Rattle.gate_outside.specs.Doors.{IsNewDoor}
use Rattle.gate_outside.specs.Told.{GrowsBy, ListsAsk}
use Rattle.house_loans.specs.Loans.{AsksInOrder}
use Rattle.house_loans.specs.Doors.{LendsDoors, doors_from}
use Rattle.house_loans.proofs.Lending.{caused, lent_one, lent_fewer, lent_all, next_in_range}
use Rattle.house_loans.proofs.doors.lend_doors.Goals as goal

pub returns-in_err-door-clause-lends : goal.returns-in_err-door-clause-lends
returns-in_err-door-clause-lends g c =
    let at = c.loop-index in
    let old = g.H.Dial.house_tale c.args.house.now in
    let now = g.H.Dial.house_tale at.house in
    let new = g.H.Dial.house_tale c.door.new.self in
    let i = at.index in
    let ask : ℕ → Asked = λ at. asked.Door at c.args.accepts in
    let all = doors_from c.args.port c.args.count c.args.accepts in
    let fault = c.in_err-door.field-0.0 in
    let e = err_from_is_err_and c.from_residual.result c.from_residual.ensures.1 in
    let asks = subst (λ p. ListsAsk {T = g.row.H-Gate.Denot} now.asks new.asks (ask (c.args.port + p)) (Err fault)) c.from.ensures c.in_err-door.ensures.house.asks in
    subst (λ r. LendsDoors g.H.Gate.Door.tale g.H.Gate.Door.faults c.args.port c.args.count c.args.accepts old new at.doors.items r) (sym (e.1 ∙ ap Err e.2)) (record {
      lends = subst (λ n. AsksInOrder all n old new (Err fault)) (sym at.invariant.many)
          (lent_fewer all i old now new (ask (c.args.port + i)) at.invariant.lent (next_in_range ask c.args.port c.args.count i c.loop-index-test.true) c.in_err-door.ensures.house.parts g.row.H-Gate.Denot
          (omega (arith, c.loop-index-test.true, length-map-range_with_len ask c.args.port c.args.count)) fault asks);
      fresh = at.invariant.fresh;
      cause = caused g.row.H-Gate.Denot (Unit {0}) fault old.door_faults now.door_faults new.door_faults at.invariant.door_faults c.in_err-door.ensures.house.cause;
      source_faults = c.in_err-door.ensures.house.source_faults ∙ at.invariant.source_faults;
    })

pub loop-index-preserved : goal.loop-index-preserved
loop-index-preserved g c =
    let at = c.loop-index in
    let old = g.H.Dial.house_tale c.args.house.now in
    let now = g.H.Dial.house_tale at.house in
    let new = g.H.Dial.house_tale c.door.new.self in
    let i = at.index in
    let ask : ℕ → Asked = λ at. asked.Door at c.args.accepts in
    let all = doors_from c.args.port c.args.count c.args.accepts in
    let door = c.in_ok-door.door in
    let New : g.row.H-Gate.Denot → Type 0 = λ d. IsNewDoor c.args.accepts (g.H.Gate.Door.tale d) (g.H.Gate.Door.faults d) in
    let asks = subst (λ p. GrowsBy now.asks new.asks (ask (c.args.port + p))) c.from.ensures c.in_ok-door.ensures.house.asks in
    record {
      many = ap length c.add.ensures.items ∙ length_push at.doors.items door ∙ ap (λ n. n + 1) at.invariant.many;
      room = omega (arith, at.invariant.room, c.add.ensures.capacity);
      lent = lent_one all i old now new (ask (c.args.port + i)) at.invariant.lent (next_in_range ask c.args.port c.args.count i c.loop-index-test.true) c.in_ok-door.ensures.house.parts asks;
      fresh = subst (λ ds. All New ds) (sym c.add.ensures.items) (All-push New at.doors.items door at.invariant.fresh c.in_ok-door.ensures.fresh);
      source_faults = c.in_ok-door.ensures.house.source_faults ∙ at.invariant.source_faults;
      door_faults = c.in_ok-door.ensures.house.cause.ok ∙ at.invariant.door_faults;
      dial = c.in_ok-door.ensures.dial ∙ at.invariant.dial;
      dial_faults = c.in_ok-door.ensures.dial_faults ∙ at.invariant.dial_faults;
    }

pub returns-clause-lends : goal.returns-clause-lends
returns-clause-lends g c =
    let at = c.loop-index in
    let old = g.H.Dial.house_tale c.args.house.now in
    let now = g.H.Dial.house_tale at.house in
    let all = doors_from c.args.port c.args.count c.args.accepts in
    let each : at.index ≡ length all = omega (arith, at.auto.index-end, c.loop-index-test.false, length-map-range_with_len (λ at. asked.Door at c.args.accepts) c.args.port c.args.count) in
    record {
      lends = subst (λ n. AsksInOrder all n old now (Ok (tt {0}))) (sym at.invariant.many) (lent_all all at.index old now at.invariant.lent each);
      fresh = at.invariant.fresh;
      cause = record { later = omega (arith, at.invariant.door_faults); failed = λ is. absurd cc; memory = λ is. absurd cc; ok = at.invariant.door_faults };
      source_faults = at.invariant.source_faults;
    }
