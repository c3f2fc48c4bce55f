use Rattle.std.proofs.Common.{◌≡◌, ◌++◌, drop, Ok}
use Rattle.json_view.specs.Nodes.{items_view}
use Rattle.json_view.specs.Fields.{and_then}
use Rattle.object_json.specs.Reading.{items_from}
use Rattle.event_json.specs.Ready.{unavailable_from}
use Rattle.event_json.proofs.ready.guilds_from.Given as goal

-- the ids so far with those still to come are the whole
abbrev pub invariant-loop-value : goal.invariant-loop-value
invariant-loop-value l =
    and_then (items_from unavailable_from (items_view (drop l.value-index l.list))) (λ rest. Ok (l.guilds ++ rest)) ≡ items_from unavailable_from (items_view l.list)
