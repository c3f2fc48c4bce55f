-- Clocks that a house lends and takes back.
use Rattle.std.specs.Prelude.{◌≡◌, ℕ, ◌≤◌, List, length, replicate}
use Rattle.gate_outside.specs.declared.asked.Asked.TheVariants as asked
use Rattle.gate_outside.specs.Clocks.{ClockTale}
use Rattle.gate_outside.specs.Houses.{HouseTale, KeepsParts}
use Rattle.house_loans.specs.Loans.{GrowsByAll}

-- a house was asked for so many clocks, and for nothing else
pub record AsksClocks (count : ℕ) (old new : HouseTale) : Type 0 where
  pub asks : GrowsByAll old.asks new.asks (replicate count asked.Clock)
  pub source_faults : new.source_faults ≡ old.source_faults
  pub door_faults : new.door_faults ≡ old.door_faults
  pub parts : KeepsParts old new

-- these clocks were put back, and nothing else
pub record PutsClocks (tales : List ClockTale) (old new : HouseTale) : Type 0 where
  pub clocks : GrowsByAll old.clocks new.clocks tales
  pub contents : new.contents ≡ old.contents
  pub asks : new.asks ≡ old.asks
  pub sources : new.sources ≡ old.sources
  pub doors : new.doors ≡ old.doors
  pub source_faults : new.source_faults ≡ old.source_faults
  pub door_faults : new.door_faults ≡ old.door_faults

-- a house was asked for at most so many clocks, and then as many were put back; nothing else was asked of it
pub record LendsClocks (most : ℕ) (old new : HouseTale) : Type 0 where
  pub count : ℕ
  pub within : count ≤ most
  pub lent : HouseTale
  pub asks : AsksClocks count old lent
  pub tales : List ClockTale
  pub as_many : length tales ≡ count
  pub puts : PutsClocks tales lent new
