-- internal: cited by private functions only. Room for the parts of a run.
use Rattle.std.specs.Prelude.{◌≡◌, ℕ, ◌≤◌, []}
use Rattle.std.specs.Vec.{vec_capacity}
use Rattle.serve_run.specs.Sorted.{IsEmpty, HasRoom}
use Rattle.serve_run.specs.declared.rooms.Rooms.{Rooms}

module _ {S D C R : Type 0} where
  -- room for so many parts, for what they give, and for what each kind leaves
  pub record AreRoomy (n : ℕ) (r : Rooms S D C R) : Type 0 where
    pub parts_none : r.parts.items ≡ []
    pub parts_room : n ≤ vec_capacity r.parts
    pub back_none : r.back.items ≡ []
    pub dones_none : r.dones.items ≡ []
    pub dones_room : n ≤ vec_capacity r.dones
    pub ends_none : IsEmpty r.ends
    pub ends_room : HasRoom n r.ends
