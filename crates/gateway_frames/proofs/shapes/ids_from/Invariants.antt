use Rattle.std.proofs.Common.{◌≡◌, ◌++◌, drop, Ok}
use Rattle.serde_json.specs.View.{items_view}
use Rattle.json_view.specs.Fields.{and_then}
use Rattle.gateway_frames.specs.Shape.{ids_from}
use Rattle.gateway_frames.proofs.shapes.ids_from.Given as goal

-- the ids so far with those still to come are the whole
abbrev pub invariant-loop-value : goal.invariant-loop-value
invariant-loop-value l =
    and_then (ids_from (items_view (drop l.value-index l.list))) (λ rest. Ok (l.ids ++ rest)) ≡ ids_from (items_view l.list)
