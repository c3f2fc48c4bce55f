use Rattle.std.proofs.Common.{◌<◌, ℕ, List, length, ap, arith, subst, ◌∙◌}
use Rattle.std.specs.Global.{Vec}
use Rattle.guild_hub.specs.Sights.{Seeing}
use Rattle.guild_places.specs.Places.{guilds_of}
use Rattle.stop_flag.specs.Flags.{KeeperState}
use Rattle.run_stage.specs.Dealing.{AreFrom}
use Rattle.run_stage.proofs.Numbered.{as_many}
use Rattle.run_stage.proofs.Written.{guilds_are, guilds_of_readers}
use Rattle.load_stage.specs.Doors.{IsDialOf, IsDoorOf}
use Rattle.load_stage.specs.Drafts.{IsClientDraft, IsWorkerDraft}
use Rattle.load_stage.specs.Guilds.{guild_ids}
use Rattle.load_stage.specs.Parts.{IsScript}
use Rattle.load_stage.proofs.drafting.Parts.fill.Goals as goal

-- the first worker reads the hubs of all guilds
pub add_scripts-requires-clause-guilds : goal.add_scripts-requires-clause-guilds
add_scripts-requires-clause-guilds g c =
    let writers = c.args.supply.writers.items in
    let hubs = c.requires.supply.hubs_are in
    let some : 0 < length c.args.supply.served.readers.items = omega (arith, hubs.readers_are.lists) in
    let first = hubs.readers_are.each_has 0 c.index.result.now some in
    ap (λ (l : List (ℕ × Seeing)). guilds_of l) (c.as_slice-guilds.ensures.value ∙ ap (λ (v : Vec (ℕ × Seeing)). v.items) c.index.ensures ∙ first)
    ∙ guilds_of_readers writers ∙ guilds_are guild_ids writers hubs.writers_are

pub add_workers-requires-clause-served : goal.add_workers-requires-clause-served
add_workers-requires-clause-served g c =
    let doors = c.requires.supply.doors_are in
    (as_many (IsDoorOf doors.queues) 0 3 c.args.supply.served.doors.items doors.doors_are, c.requires.supply.hubs_are.readers_are.lists)

pub add_clients-requires-clause-dials : goal.add_clients-requires-clause-dials
add_clients-requires-clause-dials g c =
    let doors = c.requires.supply.doors_are in
    as_many (IsDialOf doors.queues) 0 12 c.args.supply.dials.items doors.dials_are

pub returns-clause-parts : goal.returns-clause-parts
returns-clause-parts g c =
    let posts = c.args.ground.now.posts in
    let supply = c.args.supply in
    let doors = supply.served.doors.items in
    let readers = supply.served.readers.items in
    let dials = supply.dials.items in
    let after_actors = c.in_ok-add_actors.ensures.seats.1 in
    let after_scripts = c.in_ok-add_scripts.ensures.seats.1 ∙ after_actors in
    let after_workers = c.in_ok-add_workers.ensures.seats.1 ∙ after_scripts in
    record {
      writers = supply.writers.items;
      readers = readers;
      doors = doors;
      dials = dials;
      hubs_are = c.requires.supply.hubs_are;
      doors_are = c.requires.supply.doors_are;
      actors_are = c.in_ok-add_actors.ensures.parts;
      scripts_are = subst (λ (k : KeeperState). AreFrom (IsScript posts k.flag c.args.seed) 0 4 c.add_scripts.new.parts.items) after_actors c.in_ok-add_scripts.ensures.parts;
      workers_are = subst (λ (k : KeeperState). AreFrom (IsWorkerDraft posts k.flag doors readers) 0 3 c.add_workers.new.drafts.items) after_scripts c.in_ok-add_workers.ensures.drafts;
      clients_are = subst (λ (k : KeeperState). AreFrom (IsClientDraft k.flag dials) 0 12 c.add_clients.new.drafts.items) after_workers c.in_ok-add_clients.ensures.drafts;
    }
