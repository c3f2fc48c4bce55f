use Rattle.std.proofs.Common.{get_or, subst}
use Rattle.serve_heads.specs.declared.script_file.ScriptFile.{ScriptFile}
use Rattle.serve_heads.specs.Heads.{Head, IsBegun}
use Rattle.serve_heads.proofs.Begun.{turn_of, one_read}
use Rattle.serve_heads.proofs.reading.read_each.Goals as goal

pub loop-source-preserved : goal.loop-source-preserved
loop-source-preserved g c =
    let left = g.S.Source.left in
    let faults = g.S.Source.faults in
    let at = c.loop-source in
    let i = at.source-index in
    let old = c.args.sources.now in
    let d = c.source-item.result in
    let head = c.in_ok-head.head in
    let file : ScriptFile g.row.S.Denot = record { source = c.read_head.new.source; script = head.script } in
    let declared : Head = record { bots = head.declared.bots.items; guilds = head.declared.guilds.items } in
    let reads = c.in_ok-head.ensures.reads in
    let begun : IsBegun left faults (get_or at.sources i d) file declared = record { bytes = reads.0; consumed = reads.1; read = reads.2; declared = reads.3; cause = c.in_ok-head.ensures.cause } in
    let is = subst (λ (s : g.row.S.Denot). IsBegun left faults s file declared) (turn_of left faults i old at.sources d at.invariant.behind) begun in
    let adds = c.in_ok-add_head.ensures in
    rw (adds.scripts, adds.bots, adds.guilds) (one_read left faults i old at.sources at.gathered.scripts.items at.gathered.bots.items at.gathered.guilds.keys d file declared c.loop-source-test.true at.invariant is)
