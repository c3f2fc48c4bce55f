use Rattle.std.proofs.Common.{◌≡◌, ◌+◌, drop, length}
use Rattle.guild_places.specs.Places.{guilds_of}
use Rattle.run_stage.specs.Dealing.{AreFrom}
use Rattle.serve_stage.specs.Drafts.{IsScriptDraft}
use Rattle.serve_stage.proofs.scripts.add_scripts.Given as goal

abbrev pub invariant-loop-number : goal.invariant-loop-number
invariant-loop-number g l = record {
  passes : l.supply.passes.items ≡ drop l.number l.fn.supply.passes.items;
  readers : l.supply.readers ≡ l.fn.supply.readers;
  seats : length l.supply.seats.left.items + l.number ≡ length l.fn.supply.seats.left.items;
  drafts : AreFrom (IsScriptDraft l.fn.ground.posts (guilds_of l.fn.writers) l.fn.supply.passes.items) 0 l.number l.drafts.items;
}
