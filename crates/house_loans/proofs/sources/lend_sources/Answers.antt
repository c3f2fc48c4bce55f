use Rattle.std.proofs.Common.{◌≡◌, ◌∙◌, ℕ, ◌+◌, ◌<◌, List, [], ◌∷◌, ◌++◌, length, map, take, string_bytes, Err, sym, ap, subst, arith}
use Rattle.std.specs.List.{AllZip, slice_index_or}
use Rattle.std.proofs.lemmas.List.{length-map, length_push, get_or-map, take_more}
use Rattle.std.proofs.lemmas.Result.{err_from_is_err_and}
use Rattle.gate_outside.specs.declared.asked.Asked.TheVariants as asked
use Rattle.gate_outside.specs.Houses.{GivesOwn}
use Rattle.gate_outside.specs.Told.{GrowsBy, ListsAsk}
use Rattle.house_loans.specs.Loans.{AsksInOrder}
use Rattle.house_loans.specs.Sources.{IsOwnSource, LendsSources}
use Rattle.house_loans.proofs.Lending.{caused, lent_one, lent_fewer, next_mapped, zip_one}
use Rattle.house_loans.proofs.sources.lend_sources.Goals as goal

pub returns-in_err-source-clause-lends : goal.returns-in_err-source-clause-lends
returns-in_err-source-clause-lends g c =
    let at = c.loop-name in
    let names = map string_bytes c.args.names.now in
    let old = g.H.Dial.house_tale c.args.house.now in
    let now = g.H.Dial.house_tale at.house in
    let new = g.H.Dial.house_tale c.source.new.self in
    let i = at.name-index in
    let name = string_bytes c.name-item.result in
    let within : i < length names = omega (arith, c.loop-name-test.true, length-map c.args.names.now string_bytes) in
    let is : name ≡ slice_index_or names i name = ap string_bytes c.name-item.is ∙ sym (get_or-map string_bytes c.args.names.now i c.name-item.result name c.loop-name-test.true) in
    let next = next_mapped asked.Source names i name within is in
    let asks = subst (λ n. ListsAsk {T = g.row.H-In.Denot} now.asks new.asks (asked.Source n) (Err c.in_err-source.field-0.0)) c.deref.ensures c.in_err-source.ensures.house.asks in
    let e = err_from_is_err_and c.from_residual.result c.from_residual.ensures.1 in
    subst (λ r. LendsSources g.H.In.Source.left g.H.In.Source.faults names old new at.sources.items r) (sym (e.1 ∙ ap Err e.2)) (record {
      lends = subst (λ n. AsksInOrder (map asked.Source names) n old new (Err c.in_err-source.field-0.0)) (sym at.invariant.many)
          (lent_fewer (map asked.Source names) i old now new (asked.Source name) at.invariant.lent next c.in_err-source.ensures.house.parts g.row.H-In.Denot
          (omega (arith, within, length-map names asked.Source)) c.in_err-source.field-0.0 asks);
      own = subst (λ n. AllZip (λ name source. IsOwnSource g.H.In.Source.left g.H.In.Source.faults (old.contents name) source) (take n names) at.sources.items) (sym at.invariant.many) at.invariant.own;
      cause = caused g.row.H-In.Denot (Unit {0}) c.in_err-source.field-0.0 old.source_faults now.source_faults new.source_faults at.invariant.source_faults c.in_err-source.ensures.house.cause;
      door_faults = c.in_err-source.ensures.house.door_faults ∙ at.invariant.door_faults;
    })

pub loop-name-preserved : goal.loop-name-preserved
loop-name-preserved g c =
    let at = c.loop-name in
    let names = map string_bytes c.args.names.now in
    let old = g.H.Dial.house_tale c.args.house.now in
    let now = g.H.Dial.house_tale at.house in
    let new = g.H.Dial.house_tale c.source.new.self in
    let i = at.name-index in
    let name = string_bytes c.name-item.result in
    let within : i < length names = omega (arith, c.loop-name-test.true, length-map c.args.names.now string_bytes) in
    let is : name ≡ slice_index_or names i name = ap string_bytes c.name-item.is ∙ sym (get_or-map string_bytes c.args.names.now i c.name-item.result name c.loop-name-test.true) in
    let Own : List ℕ → g.row.H-In.Denot → Type 0 = λ name source. IsOwnSource g.H.In.Source.left g.H.In.Source.faults (old.contents name) source in
    let own : Own name c.in_ok-source.source = record {
      bytes = subst (λ own. GivesOwn own (g.H.In.Source.left c.in_ok-source.source)) (ap (λ contents. contents name) at.invariant.lent.parts.contents)
          (subst (λ n. GivesOwn (now.contents n) (g.H.In.Source.left c.in_ok-source.source)) c.deref.ensures c.in_ok-source.ensures.own);
      sound = c.in_ok-source.ensures.fresh;
    } in
    let asks = subst (λ n. GrowsBy now.asks new.asks (asked.Source n)) c.deref.ensures c.in_ok-source.ensures.house.asks in
    record {
      many = ap length c.add.ensures.items ∙ length_push at.sources.items c.in_ok-source.source ∙ ap (λ n. n + 1) at.invariant.many;
      room = omega (arith, at.invariant.room, c.add.ensures.capacity);
      lent = lent_one (map asked.Source names) i old now new (asked.Source name) at.invariant.lent (next_mapped asked.Source names i name within is) c.in_ok-source.ensures.house.parts asks;
      own = subst (λ ss. AllZip Own (take (i + 1) names) ss) (sym c.add.ensures.items)
          (subst (λ ns. AllZip Own ns (at.sources.items ++ c.in_ok-source.source ∷ [])) (sym (take_more names i name within ∙ ap (λ n. take i names ++ n ∷ []) (sym is)))
          (zip_one Own (take i names) at.sources.items name c.in_ok-source.source at.invariant.own own));
      source_faults = c.in_ok-source.ensures.house.cause.ok ∙ at.invariant.source_faults;
      door_faults = c.in_ok-source.ensures.house.door_faults ∙ at.invariant.door_faults;
      dial = c.in_ok-source.ensures.dial ∙ at.invariant.dial;
      dial_faults = c.in_ok-source.ensures.dial_faults ∙ at.invariant.dial_faults;
    }
