-- What doors tell, and what their calls make of it.
use Rattle.std.specs.Prelude.{◌≡◌, ℕ, ◌+◌, ◌-◌, ◌^◌, ◌≤◌, List, Bool, true, false, Result, Ok, Err, ⊤}
use Rattle.std.specs.declared.option.Option.{Option}
use Rattle.std.specs.declared.option.Option.TheVariants.{Some, None}
use Rattle.gate_outside.specs.declared.faults.Fault.{Fault}
use Rattle.gate_outside.specs.declared.accepted.Accepted.{Accepted}
use Rattle.gate_outside.specs.declared.accepted.Accepted.TheVariants as accepted
use Rattle.gate_outside.specs.Told.{GrowsBy, IsEmptyIfTold}
use Rattle.gate_outside.specs.Links.{LinkTale, IsNewLink, ReturnedLink}

-- what a door tells
pub record DoorTale : Type 0 where
  -- how many links it has given
  pub given : ℕ
  -- whether it has answered that it ended
  pub ended : Bool
  -- how many links it gives before it ends, where that is fixed
  pub accepts : Option ℕ
  -- whether somebody waits at the next call, where it tells
  pub waits : Option Bool
  -- the links that came back, in order, where it tells
  pub returned : Option (List ReturnedLink)

-- what a door tells that could not be opened: it gives no link, and does not end
abbrev pub failed_door : DoorTale
failed_door = record {
  given = 0;
  ended = false;
  accepts = Some 0;
  waits = None;
  returned = None;
}

-- no more links are given than the door tells
abbrev pub WithinAll : ℕ → Option ℕ → Type 0
WithinAll given None = ⊤
WithinAll given (Some all) = given ≤ all

module _ {L : Type 0} where
  -- how many links are given, after an answer
  abbrev pub given_after : ℕ → Result (Accepted L) Fault → ℕ
  given_after given (Ok (accepted.Link link)) = given + 1
  given_after given (Ok accepted.NotYet) = given
  given_after given (Ok accepted.Ended) = given
  given_after given (Err fault) = given

  -- whether an answer says that the door has ended
  abbrev pub says_ended : Result (Accepted L) Fault → Bool
  says_ended (Ok (accepted.Link link)) = false
  says_ended (Ok accepted.NotYet) = false
  says_ended (Ok accepted.Ended) = true
  says_ended (Err fault) = false

  -- a door is not done while links are left to give, and says that nobody waits only where that is so
  abbrev pub MayAnswer : DoorTale → Result (Accepted L) Fault → Type 0
  MayAnswer old (Ok (accepted.Link link)) = ⊤
  MayAnswer old (Ok accepted.NotYet) = (waits : Bool) → old.waits ≡ Some waits → waits ≡ false
  MayAnswer old (Ok accepted.Ended) = (all : ℕ) → old.accepts ≡ Some all → old.given ≡ all
  MayAnswer old (Err fault) = ⊤

  -- a call of `accept`
  pub record Accepts (old new : DoorTale) (result : Result (Accepted L) Fault) : Type 0 where
    pub answer : MayAnswer old result
    pub stays : old.ended ≡ true → result ≡ Ok accepted.Ended
    pub ended : new.ended ≡ says_ended result
    pub given : new.given ≡ given_after old.given result
    pub most : new.given ≤ 2 ^ 32 - 1
    pub within : WithinAll new.given new.accepts
    pub accepts : new.accepts ≡ old.accepts
    pub returned : new.returned ≡ old.returned

  -- a link that is given was never called
  abbrev pub GivesNew : (L → LinkTale) → (L → ℕ) → Result (Accepted L) Fault → Type 0
  GivesNew tale faults (Ok (accepted.Link link)) = IsNewLink (tale link) (faults link)
  GivesNew tale faults (Ok accepted.NotYet) = ⊤
  GivesNew tale faults (Ok accepted.Ended) = ⊤
  GivesNew tale faults (Err fault) = ⊤

-- a call of `back`
pub record TakesBack (old new : DoorTale) (link : ReturnedLink) : Type 0 where
  pub returned : GrowsBy old.returned new.returned link
  pub given : new.given ≡ old.given
  pub ended : new.ended ≡ old.ended
  pub accepts : new.accepts ≡ old.accepts
  pub waits : new.waits ≡ old.waits

-- how many links a door gives is told, and is at most so many
abbrev pub GivesAtMost : ℕ → Option ℕ → Type 0
GivesAtMost most None = ⊥
GivesAtMost most (Some all) = all ≤ most

-- a door of a house before its first call
pub record IsNewDoor (most : ℕ) (tale : DoorTale) (faults : ℕ) : Type 0 where
  pub given : tale.given ≡ 0
  pub open_yet : tale.ended ≡ false
  pub accepts : GivesAtMost most tale.accepts
  pub returned : IsEmptyIfTold tale.returned
  pub sound : faults ≡ 0
