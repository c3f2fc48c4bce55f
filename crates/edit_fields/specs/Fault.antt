-- Answers unless memory runs out.
use Rattle.std.specs.Prelude.{◌≡◌, ◌⊎◌, Result, Ok, Err}
use Rattle.json_view.specs.declared.fields.ViewFault.{ViewFault}
use Rattle.json_view.specs.declared.fields.ViewFault.TheVariants as view
use Rattle.edit_fields.specs.declared.fault.LineFault.{LineFault}
use Rattle.edit_fields.specs.declared.fault.LineFault.TheVariants.{Memory, Missing, WrongType}

-- this answer, or out of memory
abbrev pub UnlessMemory : {A : Type 0} → Result A LineFault → Result A LineFault → Type 0
UnlessMemory result answer = (result ≡ Err Memory) ⊎ (result ≡ answer)

-- a missing field is told apart from one of the wrong type
abbrev pub fault_of : ViewFault → LineFault
fault_of view.Missing = Missing
fault_of view.WrongType = WrongType
fault_of (view.BadId bad) = WrongType

abbrev pub faulted : {A : Type 0} → Result A ViewFault → Result A LineFault
faulted (Ok a) = Ok a
faulted (Err fault) = Err (fault_of fault)
