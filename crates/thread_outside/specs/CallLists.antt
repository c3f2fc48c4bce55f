-- What dials put at their door.
use Rattle.std.specs.Prelude.{◌≡◌, ℕ, ◌==◌, Bool, true, is_none, List, [], ◌∷◌, ◌++◌}
use Rattle.std.specs.List.{filter, list_any}
use Rattle.std.specs.Option.{option_to_list}
use Rattle.std.specs.declared.option.Option.{Option}
use Rattle.thread_outside.specs.Lanes.{LaneEnds}

-- the far ends of a link that a dial opened, or none at the dial's end
pub record CallState : Type 0 where
  pub caller : ℕ
  pub ends : Option LaneEnds

-- the calls of one dial, in order
abbrev pub calls_of : ℕ → List CallState → List CallState
calls_of caller calls = filter (λ (c : CallState). c.caller == caller) calls

-- the ends of links, in order
abbrev pub ends_in : List CallState → List LaneEnds
ends_in [] = []
ends_in (c ∷ cs) = option_to_list c.ends ++ ends_in cs

-- whether the end of a dial is among them
abbrev pub has_end : List CallState → Bool
has_end calls = list_any (λ (c : CallState). is_none c.ends) calls

-- the dial of that number has ended, and this was taken
abbrev pub has_ended : ℕ → List CallState → Bool
has_ended caller taken = has_end (calls_of caller taken)

-- nothing follows an end
abbrev pub EndIsLast : List CallState → Type 0
EndIsLast [] = Unit {0}
EndIsLast (c ∷ cs) = (is_none c.ends ≡ true → cs ≡ []) × EndIsLast cs
