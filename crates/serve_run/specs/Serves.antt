-- What a run of `serve` has written.
use Rattle.std.specs.Prelude.{◌≡◌, ◌⊎◌, ℕ, List, ◌++◌, length, Result, Ok, Err}
use Rattle.std.specs.declared.option.Option.{Option}
use Rattle.std.specs.Io.KnownBytes.{Appends}
use Rattle.edit_fields.specs.declared.fault.LineFault.{LineFault}
use Rattle.gate_outside.specs.Streams.{AppendsFront}
use Rattle.serve_run.specs.Lines.{worker_lines, stop_line}
use Rattle.serve_run.specs.Served.{IsServed}
use Rattle.serve_run.specs.Services.{Service}
use Rattle.serve_run.specs.declared.fault.ServeFault.{ServeFault}
use Rattle.serve_run.specs.declared.fault.ServeFault.TheVariants.{Memory, Spent, Start, Door, Read, Line, Write}
use Rattle.serve_run.specs.Writes.{GoesOut}

module _ (s : Service) where
  -- the lines of the workers
  abbrev pub told : List ℕ
  told = worker_lines s.port (length s.doors)

  -- what may follow them: what a run writes at its end, or the line of a line that is refused
  abbrev pub IsLast : List ℕ → Type 0
  IsLast text = IsServed s text ⊎ ((file line : ℕ) × ((fault : LineFault) × (text ≡ stop_line file line fault)))

module _ (s : Service) (got0 got1 : Option (List ℕ)) (waits : List ℕ) (sink0 sink1 : ℕ) where
  -- What went out after what had waited: the lines of the workers, and what the run writes at its end or the line of a line
  -- that is refused. If the sink failed it is a front of that, and for want of memory too. If some part did not start it is
  -- nothing.
  abbrev pub Serves : Result (Unit {0}) ServeFault → Type 0
  Serves (Ok u) = (text : List ℕ) × (IsServed s text × Appends got0 got1 (waits ++ (told s ++ text)))
  Serves (Err Memory) = AppendsFront got0 got1 (waits ++ told s) ⊎ ((text : List ℕ) × (IsLast s text × AppendsFront got0 got1 (waits ++ (told s ++ text))))
  Serves (Err Spent) = AppendsFront got0 got1 (waits ++ told s)
  Serves (Err Start) = got1 ≡ got0
  Serves (Err Door) = GoesOut got0 got1 sink0 sink1 (waits ++ told s)
  Serves (Err Read) = GoesOut got0 got1 sink0 sink1 (waits ++ told s)
  Serves (Err (Line file line fault)) = GoesOut got0 got1 sink0 sink1 (waits ++ (told s ++ stop_line file line fault))
  Serves (Err Write) = AppendsFront got0 got1 (waits ++ told s) ⊎ ((text : List ℕ) × (IsServed s text × AppendsFront got0 got1 (waits ++ (told s ++ text))))
