-- What a text of the gateway is (Gateway, Payload Structure).
use Rattle.std.specs.Prelude.{◌≡◌, ◌⊎◌, ℕ, List, Result, Some, Err}
use Rattle.dispatch_types.specs.declared.dispatch.Dispatch.{Dispatch as ADispatch}
use Rattle.json_view.specs.Reading.{reading}
use Rattle.gateway_frames.specs.Out.{out_data, IsNoDispatch}
use Rattle.event_json.specs.Read.{IsTextOf as IsDispatch}
use Rattle.client_session.specs.declared.received.Received.{Received}
use Rattle.client_session.specs.declared.received.Received.TheVariants.{Dispatch, Other}
use Rattle.client_session.specs.declared.fault.ClientFault.{ClientFault}
use Rattle.client_session.specs.declared.fault.ClientFault.TheVariants.{Memory}

-- the text's JSON is that of the payload, whatever its spaces and the order of its keys
abbrev pub IsTextOf : List ℕ → Received → Type 0
IsTextOf text (Dispatch dispatch number) = IsDispatch text dispatch number
IsTextOf text (Other out) = IsNoDispatch out × (reading text ≡ Some (out_data out))

-- the text is no dispatch's
abbrev pub IsNoDispatchText : List ℕ → Type 0
IsNoDispatchText text = (dispatch : ADispatch) (number : ℕ) → IsDispatch text dispatch number → ⊥

-- the text is no payload's
abbrev pub IsUnread : List ℕ → Type 0
IsUnread text = (payload : Received) → IsTextOf text payload → ⊥

-- this answer, or out of memory
abbrev pub UnlessMemory : {A : Type 0} → Result A ClientFault → Result A ClientFault → Type 0
UnlessMemory result answer = (result ≡ Err Memory) ⊎ (result ≡ answer)
