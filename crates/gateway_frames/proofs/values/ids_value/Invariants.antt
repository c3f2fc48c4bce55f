use Rattle.std.proofs.Common.{◌≡◌, map, take, drop}
use Rattle.serde_json.specs.View.{view}
use Rattle.gateway_frames.specs.Fits.{IdsFit}
use Rattle.gateway_frames.specs.Written.{id_data}
use Rattle.gateway_frames.proofs.values.ids_value.Given as goal

abbrev pub invariant-loop-id : goal.invariant-loop-id
invariant-loop-id l = (map view l.list.items ≡ map id_data (take l.id-index l.ids)) × (IdsFit (drop l.id-index l.ids) → IdsFit l.ids)
