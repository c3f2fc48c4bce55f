use Rattle.std.proofs.Common.{rules, ◌≡◌, List, map, take_at, subst, ◌∙◌}
use Rattle.serve_heads.specs.Gathered.{source_of, AreGathered}
use Rattle.serve_heads.proofs.Begun.{joined}
use Rattle.serve_heads.proofs.reading.read_heads.Goals as goal

pub returns-in-Ok-clause-heads : goal.returns-in-Ok-clause-heads
returns-in-Ok-clause-heads g c =
    let left = g.S.Source.left in
    let faults = g.S.Source.faults in
    let old = c.args.sources.items in
    let now = c.read_all.new.sources in
    let scripts = c.in-Ok.scripts.items in
    let bots = c.in-Ok.heads.bots.items in
    let guilds = c.in-Ok.heads.guilds.items in
    let gathered : AreGathered left faults c.deref_mut.result.now now scripts bots guilds = c.in-Ok.ensures.gathered in
    let sources_are : map source_of c.join_files.result.items ≡ now = c.join_files.ensures.sources ∙ take_at now _ c.args.sources.len (search rules) in
    let from = subst (λ (l : List g.row.S.Denot). AreGathered left faults l now scripts bots guilds) c.deref_mut.ensures.value gathered in
    joined left faults old now c.join_files.result.items scripts bots guilds from sources_are c.join_files.ensures.scripts
