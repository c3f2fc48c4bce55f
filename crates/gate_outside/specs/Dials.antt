-- What dials tell, and what their calls make of it.
use Rattle.std.specs.Prelude.{◌≡◌, ℕ, ◌==◌, List, Bool, if◌then◌else◌, Result, Ok, Err}
use Rattle.std.specs.declared.option.Option.{Option}
use Rattle.gate_outside.specs.declared.faults.Fault.{Fault}
use Rattle.gate_outside.specs.declared.faults.Fault.TheVariants.{Failed, Memory}
use Rattle.gate_outside.specs.Causes.{one_more}
use Rattle.gate_outside.specs.Told.{GrowsBy, ListsAsk}
use Rattle.gate_outside.specs.Links.{LinkTale, ReturnedLink, returned_link}

-- what a dial tells
pub record DialTale : Type 0 where
  -- how many dials and links failed, one after another, since a link gave a text
  pub dry_run : ℕ
  -- the URLs that were dialled, in order, where it tells
  pub urls : Option (List (List ℕ))
  -- the links that came back, in order, where it tells
  pub returned : Option (List ReturnedLink)

-- a dial that failed adds one to the dry run
abbrev pub dry_after_dial : {L : Type 0} → ℕ → Result L Fault → ℕ
dry_after_dial dry (Ok link) = dry
dry_after_dial dry (Err Failed) = one_more dry
dry_after_dial dry (Err Memory) = dry

-- a call of `dial`
pub record Dials {L : Type 0} (old new : DialTale) (url : List ℕ) (result : Result L Fault) : Type 0 where
  pub urls : ListsAsk old.urls new.urls url result
  pub dry_run : new.dry_run ≡ dry_after_dial old.dry_run result
  pub returned : new.returned ≡ old.returned

-- a text ends the dry run; then a link that has failed adds one to it
abbrev pub dry_after_link : ℕ → Bool → ℕ → ℕ
dry_after_link dry gave_text faults =
    let before = (if gave_text then 0 else dry) in if faults == 0 then before else one_more before

-- a call of `back`
pub record HangsUp (old new : DialTale) (link : LinkTale) (faults : ℕ) : Type 0 where
  pub returned : GrowsBy old.returned new.returned (returned_link link faults)
  pub dry_run : new.dry_run ≡ dry_after_link old.dry_run link.gave_text faults
  pub urls : new.urls ≡ old.urls
