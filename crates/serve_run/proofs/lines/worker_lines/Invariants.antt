use Rattle.std.proofs.Common.{◌≡◌}
use Rattle.std.specs.Prelude.{string_bytes}
use Rattle.serve_run.specs.Lines.{worker_lines}
use Rattle.serve_run.proofs.lines.worker_lines.Given as goal

abbrev pub invariant-loop-number : goal.invariant-loop-number
invariant-loop-number l = string_bytes l.text ≡ worker_lines l.fn.port l.number
