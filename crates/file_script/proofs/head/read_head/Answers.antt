use Rattle.std.proofs.Common.{refl, true≢false, sym}
use Rattle.file_script.proofs.Declaring.{head_read}
use Rattle.file_script.proofs.head.read_head.Goals as goal

pub returns-clause-reads : goal.returns-clause-reads
returns-clause-reads g c =
    let left = g.S.Source.left in
    let reads = c.read_heads-first.ensures.reads (c.in_ok-lines.ensures.given (left c.args.source.now)) in
    let head = head_read (left c.read_heads-first.new.source) (record { lines = c.read_heads-first.new.lines; first = c.read_heads-first.result }) reads.0
    (record { bots = c.new-2.result; guilds = c.new-3.result }) c.read_heads-first.new.declared c.new-2.ensures.items c.new-3.ensures.items c.read_heads-first.result refl
    (λ e. absurd (true≢false (sym (c.if-has_run_out.ensures.1 e)))) reads.2 in
    (reads.0, reads.1, head.0, head.1)
