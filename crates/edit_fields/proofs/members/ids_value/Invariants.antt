use Rattle.std.proofs.Common.{◌≡◌, map, take, drop}
use Rattle.serde_json.specs.View.{view}
use Rattle.edit_fields.specs.Fits.{IdsFit}
use Rattle.edit_fields.specs.Members.{id_data}
use Rattle.edit_fields.proofs.members.ids_value.Given as goal

abbrev pub invariant-loop-id : goal.invariant-loop-id
invariant-loop-id l = (map view l.list.items ≡ map id_data (take l.id-index l.ids)) × (IdsFit (drop l.id-index l.ids) → IdsFit l.ids)
