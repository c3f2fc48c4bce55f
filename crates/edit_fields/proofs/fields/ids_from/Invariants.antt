use Rattle.std.proofs.Common.{◌≡◌, ◌++◌, drop, Ok}
use Rattle.json_view.specs.Nodes.{items_view}
use Rattle.json_view.specs.Fields.{and_then}
use Rattle.edit_fields.specs.Fields.{ids_from}
use Rattle.edit_fields.proofs.fields.ids_from.Given as goal

-- the ids so far with those still to come are the whole
abbrev pub invariant-loop-value : goal.invariant-loop-value
invariant-loop-value l = and_then (ids_from (items_view (drop l.value-index l.list))) (λ rest. Ok (l.ids ++ rest)) ≡ ids_from (items_view l.list)
