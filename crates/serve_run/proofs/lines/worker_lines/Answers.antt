use Rattle.serve_run.proofs.Written.{one_line_more}
use Rattle.std.specs.Prelude.{string_bytes}
use Rattle.serve_run.proofs.lines.worker_lines.Goals as goal

pub loop-number-preserved : goal.loop-number-preserved
loop-number-preserved c = one_line_more c.args.port c.loop-number.number (string_bytes c.loop-number.text) (string_bytes c.add_worker_line.new.text) c.loop-number.invariant c.in_ok-add_worker_line.ensures
