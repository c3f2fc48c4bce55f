-- Dispatches as they are read back from their texts.
use Rattle.std.specs.Prelude.{◌≡◌, ◌⊎◌, ℕ, List, Bool, false, ◌&&◌, ◌==◌, if◌then◌else◌, is_some, codes, Option, Some, None, Result, Ok, Err, option_and_then}
use Rattle.std.specs.Option.{ok_or}
use Rattle.serde_json.specs.Data.{Data}
use Rattle.serde_json.specs.Find.{get, as_str}
use Rattle.json_view.specs.Fields.{and_then, whole}
use Rattle.json_view.specs.Reading.{reading}
use Rattle.intent_set.specs.declared.kind.Kind.{Kind}
use Rattle.intent_set.specs.Kind.{kind_of}
use Rattle.dispatch_types.specs.declared.dispatch.Dispatch.{Dispatch}
use Rattle.object_json.specs.declared.fault.ReadFault.{ReadFault}
use Rattle.object_json.specs.declared.fault.ReadFault.TheVariants as object
use Rattle.object_json.specs.Fits.{IsWhole}
use Rattle.object_json.specs.Reading.{number_at, value_at}
use Rattle.event_json.specs.declared.fault.DispatchFault.{DispatchFault}
use Rattle.event_json.specs.declared.fault.DispatchFault.TheVariants.{NotJson, NotDispatch, UnknownName, BadField, Memory}
use Rattle.event_json.specs.Body.{body_from, DispatchFits}
use Rattle.event_json.specs.Text.{data_of}

-- ---- what a text is read as

-- the text's JSON is that of this dispatch with this number, whatever its spaces and the order of its keys
abbrev pub IsTextOf : List ℕ → Dispatch → ℕ → Type 0
IsTextOf text d number = DispatchFits d × IsWhole number × (reading text ≡ Some (data_of d number))

abbrev pub is_zero : Option ℕ → Bool
is_zero None = false
is_zero (Some n) = n == 0

-- the name of a dispatch: of an object with the opcode 0, a whole number and a name (Gateway, Payload Structure)
abbrev pub name_in : Data → Option (List ℕ)
name_in d =
    if is_zero (option_and_then whole (get (codes "op") d)) && is_some (option_and_then whole (get (codes "s") d))
    then option_and_then as_str (get (codes "t") d)
    else None

-- the kind of the dispatch that an object is
abbrev pub kind_in : Data → Result Kind DispatchFault
kind_in d = and_then (ok_or (name_in d) NotDispatch) (λ name. ok_or (kind_of name) UnknownName)

abbrev pub fault_in : Result Kind DispatchFault → DispatchFault
fault_in (Err fault) = fault
fault_in (Ok kind) = BadField

-- why a text is no dispatch's: the first of these that applies
abbrev pub fault_of : Option Data → DispatchFault
fault_of None = NotJson
fault_of (Some d) = fault_in (kind_in d)

-- ---- how it is found

-- this answer, or out of memory
abbrev pub UnlessMemory : {A : Type 0} → Result A DispatchFault → Result A DispatchFault → Type 0
UnlessMemory result answer = (result ≡ Err Memory) ⊎ (result ≡ answer)

abbrev pub dispatch_fault : ReadFault → DispatchFault
dispatch_fault object.BadField = BadField
dispatch_fault object.Memory = Memory

abbrev pub faulted : {A : Type 0} → Result A ReadFault → Result A DispatchFault
faulted (Ok a) = Ok a
faulted (Err fault) = Err (dispatch_fault fault)

-- the one dispatch whose data this can be
abbrev pub candidate : Data → Result (Dispatch × ℕ) DispatchFault
candidate d =
    and_then (kind_in d) (λ kind.
    and_then (faulted (number_at (codes "s") d)) (λ number.
    and_then (faulted (value_at (body_from kind) (codes "d") d)) (λ dispatch.
    Ok (dispatch, number))))
