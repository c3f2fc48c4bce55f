use Rattle.std.proofs.Common.{◌≡◌, ◌++◌, drop, Ok}
use Rattle.json_view.specs.Nodes.{items_view}
use Rattle.json_view.specs.Fields.{and_then}
use Rattle.object_json.specs.Reading.{items_from}
use Rattle.object_json.proofs.readable.items_from.Given as goal

-- the items so far with those still to come are the whole
abbrev pub invariant-loop-value : goal.invariant-loop-value
invariant-loop-value g l =
    and_then (items_from g.T.Readable.from (items_view (drop l.value-index l.list))) (λ rest. Ok (l.items ++ rest)) ≡ items_from g.T.Readable.from (items_view l.list)
