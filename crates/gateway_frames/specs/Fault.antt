-- Answers that may want memory.
use Rattle.std.specs.Prelude.{◌≡◌, ◌⊎◌, Result, Ok, Err}
use Rattle.json_view.specs.declared.fields.ViewFault.{ViewFault}
use Rattle.gateway_frames.specs.declared.fault.FrameFault.{FrameFault}
use Rattle.gateway_frames.specs.declared.fault.FrameFault.TheVariants.{Memory, BadShape}

-- this answer, or out of memory
abbrev pub UnlessMemory : {A : Type 0} → Result A FrameFault → Result A FrameFault → Type 0
UnlessMemory result answer = (result ≡ Err Memory) ⊎ (result ≡ answer)

-- a field that is missing or of another kind is a bad shape
abbrev pub shaped : {A : Type 0} → Result A ViewFault → Result A FrameFault
shaped (Ok a) = Ok a
shaped (Err fault) = Err BadShape
