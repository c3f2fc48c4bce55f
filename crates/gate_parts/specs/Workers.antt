-- What a worker's part of a run does.
use Rattle.std.specs.Prelude.{◌≡◌, ℕ, List, map, Option, Result}
use Rattle.edit_post.specs.Post.{after_end}
use Rattle.gate_outside.specs.Clocks.{ClockTale}
use Rattle.gate_outside.specs.Doors.{DoorTale}
use Rattle.worker_run.specs.Histories.{History}
use Rattle.worker_run.specs.Works.{Given, KeptWorker, Outside, outside, Works}
use Rattle.worker_run.specs.declared.fault.WorkFault.{WorkFault}
use Rattle.worker_run.specs.declared.report.WorkReport.{WorkReport}
use Rattle.gate_parts.specs.declared.ending.Ending.{Ending}
use Rattle.gate_parts.specs.declared.ending.Ending.TheVariants.{Ran, Stopped}
use Rattle.gate_parts.specs.declared.worker_part.WorkerPart.{WorkerPart}
use Rattle.gate_parts.specs.declared.worker_part.WorkerDone.{WorkerDone}
use Rattle.gate_parts.specs.Endings.{has_failed, has_stopped}
use Rattle.gate_parts.specs.Seats.{SeatEnds}

-- The worker has worked by some history if it began. If it stopped, all is as before, but the passes have ended.
abbrev pub WorksOrStops : KeptWorker → Outside → Ending (Result WorkReport WorkFault) → Outside → Type 0
WorksOrStops worker old (Ran result) new = (h : History) × Works worker h old new result
WorksOrStops worker old Stopped new = new ≡ record old { passes = map after_end old.passes }

module _ {D C J : Type 0} (door_tale : D → DoorTale) (door_faults : D → ℕ) (clock_tale : C → ClockTale) (noted : J → Option (List Given)) where
  -- what is outside a worker's part when it has ended
  abbrev pub outside_after : WorkerDone D C J → Outside
  outside_after done = outside (door_tale done.door) (door_faults done.door) (clock_tale done.clock) done.readers.items done.passes.items (noted done.notes)

module _ {D C J R : Type 0} (door_tale : D → DoorTale) (door_faults : D → ℕ) (clock_tale : C → ClockTale) (noted : J → Option (List Given)) where
  -- what is outside it before it runs
  abbrev pub outside_before : WorkerPart D C J R → Outside
  outside_before part = outside (door_tale part.door) (door_faults part.door) (clock_tale part.clock) part.readers.items part.passes.items (noted part.notes)

  -- what a worker's part gives
  pub record WorkerGives (part : WorkerPart D C J R) (done : WorkerDone D C J) : Type 0 where
    pub seat : SeatEnds (has_failed done.ending) (has_stopped done.ending) part.seat done.seat
    pub works : WorksOrStops part.worker (outside_before part) done.ending (outside_after door_tale door_faults clock_tale noted done)
