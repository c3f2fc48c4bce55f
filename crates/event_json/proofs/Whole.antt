-- The whole text of a dispatch reads back, and is read as the dispatch.
use Rattle.std.proofs.Common.{◌≡◌, ℕ, Ok, refl, arith}
use Rattle.serde_json.proofs.OnLiterals.{serde_json_on_literals}
use Rattle.intent_set.proofs.Names.{kind_of-name_of}
use Rattle.dispatch_types.specs.declared.dispatch.Dispatch.{Dispatch}
use Rattle.dispatch_types.specs.Kinds.{kind_of}
use Rattle.object_json.specs.Fits.{IsWhole}
use Rattle.written_json.specs.Writable.{IsWritable}
use Rattle.event_json.specs.Body.{DispatchFits}
use Rattle.event_json.specs.Text.{data_of}
use Rattle.event_json.specs.Read.{candidate}
use Rattle.event_json.proofs.Back.{body_back}
use Rattle.event_json.proofs.Plain.{body_plain}

pub whole_back : (d : Dispatch) (number : ℕ) → DispatchFits d → candidate (data_of d number) ≡ Ok (d, number)
unfolding serde_json_on_literals
whole_back d number h = rw (kind_of-name_of (kind_of d), body_back d h) refl

pub whole_writable : (d : Dispatch) (number : ℕ) → DispatchFits d → IsWhole number → IsWritable (data_of d number)
unfolding serde_json_on_literals
whole_writable d number h k =
    let body = body_plain d h in
    ((refl, (body.0, (omega arith, (k, (tt, tt))))), omega (arith, body.1))
