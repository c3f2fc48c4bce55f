-- What the parts of a load have to be before they run.
use Rattle.std.proofs.Common.{◌≡◌, ℕ, ◌<◌, List, map, length, refl, sym, subst}
use Rattle.std.specs.List.{AllZip}
use Rattle.edit_post.specs.Post.{PostId, Sender, Taker}
use Rattle.guild_hub.specs.Sights.{Seeing}
use Rattle.guild_hub.specs.Writes.{Publishing}
use Rattle.guild_places.specs.Places.{AreDistinct, guilds_of}
use Rattle.gate_parts.specs.Ready.{CanAct, CanSend, CanWork}
use Rattle.run_ends.specs.Senders.{new_passes}
use Rattle.run_stage.specs.Dealing.{dealt_to}
use Rattle.run_stage.specs.Hubs.{IsNewWriter, new_reader}
use Rattle.run_stage.specs.Posts.{IsTakerOf}
use Rattle.run_stage.proofs.Passes.{are_passes}
use Rattle.run_stage.proofs.Posted.{taker_at}
use Rattle.run_stage.proofs.Written.{dealt_distinct, dealt_new, distinct_guilds, guilds_of_readers, own_readers}
use Rattle.load_stage.specs.Guilds.{guild_ids}

distinct_ids : AreDistinct guild_ids
distinct_ids = (refl, (refl, (refl, (refl, (refl, (refl, (refl, (refl, tt))))))))

module _ (ws : List (ℕ × Publishing)) (all : AllZip IsNewWriter guild_ids ws) where
  -- no guild has two of the writers
  pub distinct : AreDistinct (guilds_of ws)
  distinct = distinct_guilds guild_ids ws all distinct_ids

  -- each actor can act by its pass, with the writers that are dealt to it
  pub can_act : (posts : List PostId) (actor : ℕ) (pass : Taker) (mine : List (ℕ × Publishing)) → IsTakerOf 7 posts actor pass → mine ≡ dealt_to actor ws → CanAct posts actor pass mine
  can_act posts actor pass mine taker dealt =
      let at = taker_at 7 posts actor pass taker in
      subst (CanAct posts actor pass) (sym dealt) (record {
        post = at.0;
        taken = at.2;
        distinct = dealt_distinct guild_ids ws all actor distinct_ids;
        new = dealt_new guild_ids ws all actor;
      })

  -- each worker can work by its new passes, with the readers of all hubs
  pub can_work : (posts : List PostId) (sender : ℕ) (passes : List Sender) (readers : List (ℕ × Seeing)) → 0 < length posts → passes ≡ new_passes posts sender → readers ≡ map new_reader ws
      → CanWork posts passes readers
  can_work posts sender passes readers some new read =
      subst (CanWork posts passes) (sym read) (record {
        some = some;
        passes_are = are_passes posts sender passes new;
        readers_are = own_readers guild_ids ws all;
        distinct = subst AreDistinct (sym (guilds_of_readers ws)) distinct;
      })

-- each script can send by its new passes
pub can_send : (posts : List PostId) (sender : ℕ) (passes : List Sender) → 0 < length posts → passes ≡ new_passes posts sender → CanSend posts passes
can_send posts sender passes some new = record { some = some; passes_are = are_passes posts sender passes new }
