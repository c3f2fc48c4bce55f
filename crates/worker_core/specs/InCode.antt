-- What the code keeps: the record of each guild, and of a session what a resume needs.
use Rattle.std.specs.Prelude.{ℕ, List, [], Option, map}
use Rattle.serde_json.specs.Written.{compact_text}
use Rattle.event_json.specs.Text.{data_of}
use Rattle.collections.specs.ById.{put_id}
use Rattle.guild_model.specs.Record.{Record}
use Rattle.dispatch_types.specs.declared.dispatch.Dispatch.{Dispatch}
use Rattle.edit_apply.specs.Edits.{after, state}
use Rattle.replay_ring.specs.Replay.{Replay, fresh, pushed_all}
use Rattle.session_core.specs.Frames.{Move, framed, none_sent}
use Rattle.world_law.specs.Keeping.{Keeping, Machine}
use Rattle.world_law.specs.Outputs.{texts_from}
use Rattle.world_law.specs.Sent.{Sent}
use Rattle.world_law.specs.Model.{Logs, in_model}
use Rattle.world_law.specs.Inputs.{Input, taken}
use Rattle.worker_core.specs.declared.io.StepFault.{StepFault}
use Rattle.guild_replica.specs.Replicas.{GuildCopy}

-- the text of a dispatch as it is sent (Gateway, Payload Structure)
abbrev pub wire_text : ℕ → Dispatch → List ℕ
wire_text number dispatch = compact_text (data_of dispatch number)

-- the model, by these texts
abbrev pub wire_model : Keeping Sent Logs
wire_model = in_model wire_text

abbrev pub replica_id : GuildCopy → ℕ
replica_id r = r.guild.id

abbrev pub guild_of : GuildCopy → Record
guild_of r = r.guild

-- a copy by its record alone
abbrev pub replica_of : Record → GuildCopy
replica_of s = record { guild = s; users = [] }

abbrev pub bare : GuildCopy → GuildCopy
bare r = replica_of r.guild

-- with dispatches more
abbrev pub held_with : List Dispatch → Replay → Replay
held_with ds held = pushed_all held (texts_from wire_text held.last ds)

abbrev pub in_code : Keeping Replay (List GuildCopy)
in_code = record {
  text = wire_text;
  records = λ replicas. map guild_of replicas;
  cursors = λ replicas g. 0;
  entered = λ g s e replicas. put_id replica_id (replica_of (after s e)) replicas;
  rebased = λ g log replicas. put_id replica_id (replica_of (state g log)) replicas;
  last = λ held. held.last;
  replay = λ held. held;
  begins = λ bot now ds. held_with ds (fresh bot.ring_items bot.ring_bytes);
  tells = λ mark before after ds held. held_with ds held;
  answers = λ made now ds held. held_with ds held;
  ends = λ now x. [];
}

abbrev pub KeptMachine : Type 0
KeptMachine = Machine Replay (List GuildCopy)

-- a worker's value: the fault by which it is finished, if it is, the number of dispatches of the sessions that have
-- ended, or 2^64 - 1 if there are more, and its copies of guilds, with the users whose masks each keeps
pub record KeptWorker : Type 0 where
  pub finished : Option StepFault
  pub past : ℕ
  pub copies : List GuildCopy
  pub machine : KeptMachine

-- what becomes of it
abbrev pub kept_after : KeptWorker → Input → KeptWorker
kept_after k i = record k { machine = taken in_code k.machine i }

-- the sessions have moved after a frame, and one that has begun has no dispatch yet
abbrev pub after_frame : KeptWorker → ℕ → Move → KeptWorker
after_frame k conn move = record k { machine = record k.machine { core = framed conn k.machine.now none_sent move k.machine.core } }
