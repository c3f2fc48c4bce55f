use Rattle.serve_run.proofs.lines.add_worker_line.Goals as goal

pub returns : goal.returns
returns c = rw c.from.ensures at c.writeln.ensures.bytes
