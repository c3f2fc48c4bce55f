-- Sources that a house lends and takes back.
use Rattle.std.specs.Prelude.{◌≡◌, ℕ, List, length, map, take, Result}
use Rattle.std.specs.List.{AllZip, sum}
use Rattle.std.specs.declared.option.Option.{Option}
use Rattle.gate_outside.specs.declared.asked.Asked.TheVariants as asked
use Rattle.gate_outside.specs.declared.faults.Fault.{Fault}
use Rattle.gate_outside.specs.Causes.{FaultHasCause}
use Rattle.gate_outside.specs.Houses.{HouseTale, ReturnedSource, GivesOwn, CountsFaults}
use Rattle.house_loans.specs.Loans.{GrowsByAll, AsksInOrder}

-- the counts of faults of sources that are put back
abbrev pub source_counts : List ReturnedSource → List ℕ
source_counts back = map (λ s. s.faults) back

module _ {S : Type 0} (left : S → Option (List ℕ)) (faults : S → ℕ) where
  -- a source before its first read, with these bytes of its own where they are told
  pub record IsOwnSource (own : Option (List ℕ)) (source : S) : Type 0 where
    pub bytes : GivesOwn own (left source)
    pub sound : faults source ≡ 0

  -- the sources of these names are asked for in order, until one is not given; each that is given is that of its name
  pub record LendsSources (names : List (List ℕ)) (old new : HouseTale) (sources : List S) (result : Result (Unit {0}) Fault) : Type 0 where
    pub lends : AsksInOrder (map asked.Source names) (length sources) old new result
    pub own : AllZip (λ name source. IsOwnSource (old.contents name) source) (take (length sources) names) sources
    pub cause : FaultHasCause old.source_faults new.source_faults result
    pub door_faults : new.door_faults ≡ old.door_faults

-- these sources were put back, and nothing else
pub record PutsSources (back : List ReturnedSource) (old new : HouseTale) : Type 0 where
  pub sources : GrowsByAll old.sources new.sources back
  pub count : CountsFaults old.source_faults new.source_faults (sum (source_counts back))
  pub contents : new.contents ≡ old.contents
  pub asks : new.asks ≡ old.asks
  pub doors : new.doors ≡ old.doors
  pub clocks : new.clocks ≡ old.clocks
  pub door_faults : new.door_faults ≡ old.door_faults
