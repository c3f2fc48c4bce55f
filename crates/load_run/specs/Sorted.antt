-- The ended parts of a load, by their kinds.
use Rattle.std.specs.Prelude.{◌≡◌, ℕ, ◌+◌, ◌≤◌, List, [], ◌++◌, map, flat_map}
use Rattle.std.specs.Vec.{vec_len, vec_capacity}
use Rattle.edit_post.specs.declared.send_refused.SendRefused.{SendRefused}
use Rattle.gate_parts.specs.declared.script_part.ScriptDone.{ScriptDone}
use Rattle.load_client.specs.declared.ended_client.EndedClient.{EndedClient}
use Rattle.load_parts.specs.declared.client_part.ClientDone.{ClientDone}
use Rattle.load_parts.specs.declared.load_part.LoadDone.{LoadDone}
use Rattle.load_parts.specs.Kinds.{actor_of, script_of, worker_of, client_of}
use Rattle.gate_ends.specs.Done.{worker_end}
use Rattle.gate_ends.specs.declared.ending.ScriptEnd.{ScriptEnd}
use Rattle.load_run.specs.declared.sorting.Ends.{Ends}
use Rattle.load_run.specs.declared.rooms.Rooms.{Rooms}
use Rattle.load_run.specs.Ends.{clock_of_done}

-- a script without its seat
abbrev pub script_end : ScriptDone → ScriptEnd SendRefused
script_end d = record { ending = d.ending; passes = d.passes }

abbrev pub ended_of : {C : Type 0} → ClientDone C → EndedClient
ended_of d = d.ended

module _ {C R : Type 0} where
  -- so many items more find room in each of the lists
  pub record HasRoom (more : ℕ) (e : Ends C R) : Type 0 where
    pub actors : vec_len e.actors + more ≤ vec_capacity e.actors
    pub scripts : vec_len e.scripts + more ≤ vec_capacity e.scripts
    pub workers : vec_len e.workers + more ≤ vec_capacity e.workers
    pub clients : vec_len e.clients + more ≤ vec_capacity e.clients
    pub clocks : vec_len e.clocks + more ≤ vec_capacity e.clocks

  -- what these parts have left was added, kind by kind
  pub record Sorts (dones : List (LoadDone C R)) (old new : Ends C R) : Type 0 where
    pub actors : new.actors.items ≡ old.actors.items ++ flat_map actor_of dones
    pub scripts : new.scripts.items ≡ old.scripts.items ++ map script_end (flat_map script_of dones)
    pub workers : new.workers.items ≡ old.workers.items ++ map worker_end (flat_map worker_of dones)
    pub clients : new.clients.items ≡ old.clients.items ++ map ended_of (flat_map client_of dones)
    pub clocks : new.clocks.items ≡ old.clocks.items ++ flat_map clock_of_done dones

  pub record IsEmpty (e : Ends C R) : Type 0 where
    pub actors : e.actors.items ≡ []
    pub scripts : e.scripts.items ≡ []
    pub workers : e.workers.items ≡ []
    pub clients : e.clients.items ≡ []
    pub clocks : e.clocks.items ≡ []

  -- room for so many parts, for what they give, and for what each kind leaves
  pub record AreRoomy (n : ℕ) (r : Rooms C R) : Type 0 where
    pub parts_none : r.parts.items ≡ []
    pub parts_room : n ≤ vec_capacity r.parts
    pub back_none : r.back.items ≡ []
    pub dones_none : r.dones.items ≡ []
    pub dones_room : n ≤ vec_capacity r.dones
    pub ends_none : IsEmpty r.ends
    pub ends_room : HasRoom n r.ends
