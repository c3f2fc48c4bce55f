-- What an actor's part of a run does.
use Rattle.std.specs.Prelude.{◌≡◌, ℕ, ⊤, List, map, Result, Ok, Err}
use Rattle.std.specs.declared.alloc.AllocError.{AllocError}
use Rattle.edit_post.specs.Merge.{Merge}
use Rattle.edit_post.specs.Post.{Taker, HasEnded, ended_lists}
use Rattle.guild_hub.specs.Writes.{Publishing}
use Rattle.guild_places.specs.Places.{guilds_of}
use Rattle.guild_actor.specs.Acts.{edits_of, sealed_log, strays_of, full_of, counted}
use Rattle.guild_actor.specs.declared.report.ActReport.{ActReport}
use Rattle.gate_parts.specs.declared.ending.Ending.{Ending}
use Rattle.gate_parts.specs.declared.ending.Ending.TheVariants.{Ran, Stopped}
use Rattle.gate_parts.specs.declared.actor_part.ActorPart.{ActorPart}
use Rattle.gate_parts.specs.declared.actor_part.ActorDone.{ActorDone}
use Rattle.gate_parts.specs.Endings.{has_failed, has_stopped}
use Rattle.gate_parts.specs.Seats.{SeatEnds}

module _ {R : Type 0} where
  -- The post has ended. Each log is sealed and has the edits of its guild among the requests taken, which merge what the senders had sent for the guild; and the report counts the other requests.
  pub record ActsAs (pass : Taker) (writers : List (ℕ × Publishing)) (report : ActReport R) : Type 0 where
    pub post : report.pass.post ≡ pass.post
    pub senders : report.pass.senders ≡ pass.senders
    pub ended : HasEnded report.pass
    pub logs : report.logs.items ≡ map (sealed_log report.pass.taken) writers
    pub merged : (guild : ℕ) → Merge (map (edits_of guild) (ended_lists report.pass)) (edits_of guild report.pass.taken)
    pub strays : report.strays ≡ counted (strays_of (guilds_of writers) report.pass.taken)
    pub full : report.full ≡ counted (full_of (guilds_of writers) report.pass.taken)

  -- what an actor reports that began
  abbrev pub Acts : Taker → List (ℕ × Publishing) → Ending (Result (ActReport R) AllocError) → Type 0
  Acts pass writers (Ran (Ok report)) = ActsAs pass writers report
  Acts pass writers (Ran (Err error)) = ⊤
  Acts pass writers Stopped = ⊤

  -- what an actor's part gives
  pub record ActorGives (part : ActorPart R) (done : ActorDone R) : Type 0 where
    pub seat : SeatEnds (has_failed done.ending) (has_stopped done.ending) part.seat done.seat
    pub acts : Acts part.pass part.writers.items done.ending
