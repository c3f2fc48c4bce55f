-- The faults of what a script uses, as faults of a script.
use Rattle.gate_outside.specs.declared.faults.Fault.{Fault}
use Rattle.gate_outside.specs.declared.faults.Fault.TheVariants as outside
use Rattle.edit_post.specs.declared.send_refused.SendRefused.{SendRefused}
use Rattle.edit_post.specs.declared.send_refused.SendRefused.TheVariants as post
use Rattle.file_script.specs.declared.fault.ScriptFault.{ScriptFault}
use Rattle.file_script.specs.declared.fault.ScriptFault.TheVariants as script

abbrev pub fault_of : Fault → ScriptFault
fault_of outside.Failed = script.Read
fault_of outside.Memory = script.Memory

abbrev pub refusal_of : SendRefused → ScriptFault
refusal_of post.Spent = script.Spent
refusal_of post.Memory = script.Memory
