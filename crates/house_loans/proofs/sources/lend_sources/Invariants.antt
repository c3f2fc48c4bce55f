use Rattle.std.proofs.Common.{◌≡◌, ◌≤◌, length, map, take, string_bytes}
use Rattle.std.specs.List.{AllZip}
use Rattle.std.specs.Vec.{vec_capacity}
use Rattle.gate_outside.specs.declared.asked.Asked.TheVariants as asked
use Rattle.house_loans.specs.Sources.{IsOwnSource}
use Rattle.house_loans.proofs.Lending.{HasLent}
use Rattle.house_loans.proofs.sources.lend_sources.Given as goal

abbrev pub invariant-loop-name : goal.invariant-loop-name
invariant-loop-name g l =
    let names = map string_bytes l.names in
    let old = g.H.Dial.house_tale l.fn.house in
    let now = g.H.Dial.house_tale l.house in
    record {
      many : length l.sources.items ≡ l.name-index;
      room : length l.names ≤ vec_capacity l.sources;
      lent : HasLent (map asked.Source names) l.name-index old now;
      own : AllZip (λ name source. IsOwnSource g.H.In.Source.left g.H.In.Source.faults (old.contents name) source) (take l.name-index names) l.sources.items;
      source_faults : now.source_faults ≡ old.source_faults;
      door_faults : now.door_faults ≡ old.door_faults;
      dial : g.H.Dial.tale l.house ≡ g.H.Dial.tale l.fn.house;
      dial_faults : g.H.Dial.faults l.house ≡ g.H.Dial.faults l.fn.house;
    }
