-- The faults of the crates below, as faults of a worker.
use Rattle.session_core.specs.declared.fault.SessionFault.{SessionFault}
use Rattle.session_core.specs.declared.fault.SessionFault.TheVariants as session
use Rattle.worker_core.specs.declared.io.StepFault.{StepFault}
use Rattle.worker_core.specs.declared.io.StepFault.TheVariants as step

abbrev pub step_fault : SessionFault → StepFault
step_fault session.Spent = step.Spent
step_fault session.Memory = step.Memory
