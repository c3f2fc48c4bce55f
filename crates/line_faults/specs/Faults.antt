-- The number and the name of a fault of a line.
use Rattle.std.specs.Prelude.{ℕ, List, codes}
use Rattle.edit_fields.specs.declared.fault.LineFault.{LineFault}
use Rattle.edit_fields.specs.declared.fault.LineFault.TheVariants as fault

-- running out of memory is no fault of a line
abbrev pub fault_number : LineFault → ℕ
fault_number fault.NotJson = 1
fault_number fault.NoSuchStep = 2
fault_number fault.Missing = 3
fault_number fault.WrongType = 4
fault_number fault.TooLong = 5
fault_number fault.Memory = 0

abbrev pub fault_name : LineFault → List ℕ
fault_name fault.NotJson = codes "NotJson"
fault_name fault.NoSuchStep = codes "NoSuchStep"
fault_name fault.Missing = codes "Missing"
fault_name fault.WrongType = codes "WrongType"
fault_name fault.TooLong = codes "TooLong"
fault_name fault.Memory = codes "Memory"
