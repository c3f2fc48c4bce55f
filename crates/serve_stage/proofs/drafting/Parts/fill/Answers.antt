use Rattle.std.proofs.Common.{◌≡◌, ◌+◌, ◌-◌, drop, length, sym, ap, subst, ◌∙◌, arith}
use Rattle.std.proofs.lemmas.List.{length-drop}
use Rattle.guild_places.specs.Places.{AreDistinct, guilds_of}
use Rattle.run_stage.specs.Dealing.{AreFrom}
use Rattle.run_stage.specs.Posts.{ArePassesOf}
use Rattle.run_stage.proofs.Numbered.{as_many}
use Rattle.run_stage.proofs.Written.{distinct_guilds, guilds_are}
use Rattle.serve_stage.specs.Drafts.{IsScriptDraft, IsWorkerDraft}
use Rattle.serve_stage.proofs.drafting.Parts.fill.Goals as goal

pub add_scripts-requires-clause-guilds : goal.add_scripts-requires-clause-guilds
add_scripts-requires-clause-guilds g c =
    let guilds = c.args.declared.now.guilds.items in
    subst (λ l. AreDistinct (guilds_of l)) (sym c.as_slice-writers.ensures.value)
    (distinct_guilds guilds c.args.actors.writers.items c.requires.supply.hubs_are.writers_are c.requires.guilds)

pub add_scripts-requires-clause-passes : goal.add_scripts-requires-clause-passes
add_scripts-requires-clause-passes g c =
    let senders = c.args.counts.scripts + c.args.counts.workers in
    let passes = c.args.supply.now.passes.items in
    let many : length passes ≡ senders = as_many (ArePassesOf c.args.ground.now.posts) 0 senders passes c.requires.supply.posts_are.passes_are in
    omega (arith, many)

pub add_workers-requires-clause-passes : goal.add_workers-requires-clause-passes
add_workers-requires-clause-passes g c =
    let scripts = c.args.counts.scripts in
    let senders = scripts + c.args.counts.workers in
    let passes = c.args.supply.now.passes.items in
    let many : length passes ≡ senders = as_many (ArePassesOf c.args.ground.now.posts) 0 senders passes c.requires.supply.posts_are.passes_are in
    let left : length c.add_scripts.new.supply.passes.items ≡ length passes - scripts = ap length c.in_ok-add_scripts.ensures.passes ∙ length-drop scripts passes in
    omega (arith, many, left)

pub returns-clause-parts : goal.returns-clause-parts
returns-clause-parts g c =
    let posts = c.args.ground.now.posts in
    let port = c.args.port in
    let bots = c.args.declared.now.bots.items in
    let guilds = c.args.declared.now.guilds.items in
    let scripts = c.args.counts.scripts in
    let workers = c.args.counts.workers in
    let supply = c.args.supply.now in
    let passes = supply.passes.items in
    let writers = c.args.actors.writers.items in
    let from = c.requires.supply in
    let left = c.add_scripts.new.supply in
    let ids : guilds_of c.as_slice-writers.result.now ≡ guilds = ap (λ l. guilds_of l) c.as_slice-writers.ensures.value ∙ guilds_are guilds writers from.hubs_are.writers_are in
    let with_passes = subst (λ l. AreFrom (IsWorkerDraft posts l left.readers.items bots guilds port) 0 workers c.add_workers.new.drafts.items)
    c.in_ok-add_scripts.ensures.passes c.in_ok-add_workers.ensures.drafts in
    record {
      passes = passes;
      writers = writers;
      readers = supply.readers.items;
      passes_are = from.posts_are.passes_are;
      hubs_are = from.hubs_are;
      distinct = c.requires.guilds;
      actors_are = c.in_ok-add_actors.ensures.parts (scripts + workers) (from.posts_are.first_is, from.posts_are.second_is);
      scripts_are = subst (λ l. AreFrom (IsScriptDraft posts l passes) 0 scripts c.add_scripts.new.drafts.items) ids c.in_ok-add_scripts.ensures.drafts;
      workers_are = subst (λ l. AreFrom (IsWorkerDraft posts (drop scripts passes) l.items bots guilds port) 0 workers c.add_workers.new.drafts.items)
          c.in_ok-add_scripts.ensures.readers with_passes;
    }
