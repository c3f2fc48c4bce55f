-- The members of an object, put in byte order of their keys.
use Rattle.std.specs.Prelude.{◌≡◌, ℕ, List, [], ◌∷◌, map, Option, Some, None, String, decimal}
use Rattle.std.specs.declared.alloc.Global.{Global}
use Rattle.serde_json.specs.declared.value.Value.{Value}
use Rattle.serde_json.specs.Data.{Data, null, number, unsigned, string, array, Members, put}
use Rattle.serde_json.specs.View.{items_of, members_view}

abbrev pub count : ℕ → Data
count n = number (unsigned n)

-- ids and permissions are written as texts
abbrev pub id_data : ℕ → Data
id_data id = string (decimal id)

abbrev pub ids_data : List ℕ → Data
ids_data ids = array (items_of (map id_data ids))

abbrev pub nullable : {A : Type 0} → (A → Data) → Option A → Data
nullable data_of None = null
nullable data_of (Some a) = data_of a

abbrev pub put_all : Members → List (List ℕ × Data) → Members
put_all ms [] = ms
put_all ms (f ∷ fs) = put_all (put f.0 f.1 ms) fs

-- these fields were put into an object, in this order
abbrev pub HasPut : List (String Global × Value) → List (String Global × Value)
    → List (List ℕ × Data) → Type 0
HasPut old new fields = members_view new ≡ put_all (members_view old) fields
