-- What parts have to be before they run.
use Rattle.std.proofs.Common.{◌≡◌, ℕ, ◌<◌, List, map, length, sym, subst}
use Rattle.std.specs.List.{AllZip}
use Rattle.edit_post.specs.Post.{PostId, Sender, Taker}
use Rattle.guild_hub.specs.Sights.{Seeing}
use Rattle.guild_hub.specs.Writes.{Publishing}
use Rattle.guild_places.specs.Places.{AreDistinct}
use Rattle.gate_parts.specs.Ready.{CanAct, CanSend, CanWork}
use Rattle.run_ends.specs.Senders.{new_passes}
use Rattle.run_stage.specs.Dealing.{dealt_to}
use Rattle.run_stage.specs.Hubs.{IsNewWriter, new_reader}
use Rattle.run_stage.specs.Posts.{IsTakerOf}
use Rattle.run_stage.proofs.Passes.{are_passes}
use Rattle.run_stage.proofs.Posted.{taker_at}
use Rattle.run_stage.proofs.Written.{dealt_distinct, dealt_new, distinct_guilds, guilds_of_readers, own_readers}

abbrev Writer : Type 0
Writer = ℕ × Publishing

-- an actor that has its pass and the writers that are dealt to it can act
pub can_act : (senders : ℕ) (guilds : List ℕ) (posts : List PostId) (actor : ℕ) (pass : Taker) (ws mine : List Writer) → IsTakerOf senders posts actor pass
    → AllZip IsNewWriter guilds ws → AreDistinct guilds → mine ≡ dealt_to actor ws → CanAct posts actor pass mine
can_act senders guilds posts actor pass ws mine taker all distinct dealt =
    let at = taker_at senders posts actor pass taker in
    subst (CanAct posts actor pass) (sym dealt) (record {
      post = at.0;
      taken = at.2;
      distinct = dealt_distinct guilds ws all actor distinct;
      new = dealt_new guilds ws all actor;
    })

-- a script that has new passes can send
pub can_send : (posts : List PostId) (sender : ℕ) (passes : List Sender) → 0 < length posts → passes ≡ new_passes posts sender → CanSend posts passes
can_send posts sender passes some new = record { some = some; passes_are = are_passes posts sender passes new }

-- a worker that has new passes and a reader of each new hub can work
pub can_work : (guilds : List ℕ) (posts : List PostId) (sender : ℕ) (passes : List Sender) (ws : List Writer) (readers : List (ℕ × Seeing)) → 0 < length posts
    → passes ≡ new_passes posts sender → AllZip IsNewWriter guilds ws → AreDistinct guilds → readers ≡ map new_reader ws → CanWork posts passes readers
can_work guilds posts sender passes ws readers some new all distinct read =
    subst (CanWork posts passes) (sym read) (record {
      some = some;
      passes_are = are_passes posts sender passes new;
      readers_are = own_readers guilds ws all;
      distinct = subst AreDistinct (sym (guilds_of_readers ws)) (distinct_guilds guilds ws all distinct);
    })
