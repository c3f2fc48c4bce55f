-- What a text can be read as.
use Rattle.std.proofs.Common.{◌≡◌, ℕ, List, Option, Some, Result, Ok, sym, ap, ◌∙◌}
use Rattle.std.specs.Option.{ok_or}
use Rattle.serde_json.specs.Data.{Data}
use Rattle.json_view.specs.Fields.{and_then}
use Rattle.json_view.specs.Reading.{reading}
use Rattle.dispatch_types.specs.declared.dispatch.Dispatch.{Dispatch}
use Rattle.event_json.specs.declared.fault.DispatchFault.{DispatchFault}
use Rattle.event_json.specs.declared.fault.DispatchFault.TheVariants.{NotJson}
use Rattle.event_json.specs.Text.{data_of}
use Rattle.event_json.specs.Read.{IsTextOf, candidate}
use Rattle.event_json.proofs.Whole.{whole_back}

pub same_data : (text : List ℕ) (v : Data) (d : Dispatch) (number : ℕ) → reading text ≡ Some v → IsTextOf text d number → v ≡ data_of d number
same_data text v d number is h = let both : Some v ≡ Some (data_of d number) = sym is ∙ h.2 in cc

-- a text is that of no other dispatch than the one that is found
pub is_candidate : (text : List ℕ) (v : Data) (d : Dispatch) (number : ℕ) → reading text ≡ Some v → IsTextOf text d number → candidate v ≡ Ok (d, number)
is_candidate text v d number is h = ap candidate (same_data text v d number is h) ∙ whole_back d number h.0

-- ---- what is found in a text

abbrev pub found : Option Data → Result (Dispatch × ℕ) DispatchFault
found o = and_then (ok_or o NotJson) candidate

pub is_found : (text : List ℕ) (d : Dispatch) (number : ℕ) → IsTextOf text d number → found (reading text) ≡ Ok (d, number)
is_found text d number h = ap found h.2 ∙ whole_back d number h.0
