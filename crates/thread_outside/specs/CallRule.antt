-- The rule of a door's queue: what was taken of each dial, and then what waits of it, is what it put.
use Rattle.std.specs.Prelude.{◌≡◌, ℕ, ◌<◌, ◌≤◌, ◌+◌, ◌-◌, Bool, true, false, List, [], ◌∷◌, ◌++◌}
use mathlib.Core.Option.{some}
use lib.ListN.{get_elem?}
use Rattle.thread_outside.specs.declared.call_view.CallView.{CallView}
use Rattle.thread_outside.specs.CallLists.{CallState, calls_of, has_ended, EndIsLast}

abbrev pub view_of : Bool → ℕ → List CallState → Bool → ℕ → List CallState → ℕ → CallView
view_of calls caller put takes made taken empty_takes = record {
  calls = calls;
  caller = caller;
  put = put;
  takes = takes;
  made = made;
  taken = taken;
  empty_takes = empty_takes;
}

-- the door's pass before there is a dial
abbrev pub opening : CallView
opening = view_of false 0 [] true 0 [] 0

-- the door's pass and the dial's after the door made the next dial
abbrev pub with_caller : CallView → CallView
with_caller v = view_of v.calls v.caller v.put v.takes (v.made + 1) v.taken v.empty_takes

abbrev pub new_caller : CallView → CallView
new_caller v = view_of true v.made [] false 0 [] 0

abbrev pub after_put : CallView → CallState → CallView
after_put v call = view_of v.calls v.caller (v.put ++ call ∷ []) v.takes v.made v.taken v.empty_takes

abbrev pub after_take : CallView → CallState → CallView
after_take v call = view_of v.calls v.caller v.put v.takes v.made (v.taken ++ call ∷ []) v.empty_takes

-- a pass that was made to count a take, and that does nothing
abbrev pub spent : CallView
spent = view_of false 0 [] false 0 [] 0

-- the door's pass with one more take that finds nothing, which it counts before it looks
abbrev pub with_empty_take : CallView → CallView
with_empty_take v = view_of v.calls v.caller v.put v.takes v.made v.taken (v.empty_takes + 1)

-- after a take that it had counted so, and that found a call after all
abbrev pub took_after_all : CallView → CallState → CallView
took_after_all v call = view_of v.calls v.caller v.put v.takes v.made (v.taken ++ call ∷ []) (v.empty_takes - 1)

-- what was taken of a dial, and then what waits of it
abbrev pub all_of : ℕ → List CallState → List CallState → List CallState
all_of caller taken items = calls_of caller taken ++ calls_of caller items

-- Each pass has an index in `views`: the door's has the index `door_at`, that of the dial p has the index `dial_at p`.
pub record KeepsCalls (items : List CallState) (views : List CallView) : Type 0 where
  pub door_at : ℕ
  pub dial_at : ℕ → ℕ
  pub made : ℕ
  pub taken : List CallState
  pub once : (p : ℕ) → EndIsLast (all_of p taken items)
  pub unmade : (p : ℕ) → made ≤ p → all_of p taken items ≡ []
  pub dials : (j : ℕ) (v : CallView) → get_elem? views j ≡ some v → v.calls ≡ true → (dial_at v.caller ≡ j) × (v.put ≡ all_of v.caller taken items) × (v.caller < made)
  pub door : (j : ℕ) (v : CallView) → get_elem? views j ≡ some v → v.takes ≡ true → (j ≡ door_at) × (v.taken ≡ taken) × (v.made ≡ made)

-- at one step the queue was empty, and this pass knew this
abbrev pub WasEmpty : CallView → Type 0
WasEmpty v = (views : List CallView) × (port : ℕ) × KeepsCalls [] views × (get_elem? views port ≡ some v)

-- what was taken of any dial, and then what waits of it, is what it put; of a dial whose end was taken nothing waits
abbrev pub TakesInTurn : List CallState → List CallView → Type 0
TakesInTurn items views =
    (j k : ℕ) (door dial : CallView) → get_elem? views j ≡ some door → door.takes ≡ true → get_elem? views k ≡ some dial → dial.calls ≡ true
    → (dial.put ≡ calls_of dial.caller door.taken ++ calls_of dial.caller items)
    × (has_ended dial.caller door.taken ≡ true → calls_of dial.caller items ≡ [])
