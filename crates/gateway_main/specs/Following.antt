-- What the command `client` does over a house.
use Rattle.std.specs.Prelude.{◌≡◌, ◌⊎◌, ℕ, List, Result, Err}
use Rattle.gate_outside.specs.Clocks.{ClockTale, IsNewClock}
use Rattle.gate_outside.specs.Dials.{DialTale}
use Rattle.gate_outside.specs.Houses.{HouseTale, PutsClock}
use Rattle.house_loans.specs.Clocks.{AsksClocks}
use Rattle.client_run.specs.Histories.{Visit}
use Rattle.client_follow.specs.declared.fault.FollowFault.{FollowFault}
use Rattle.client_follow.specs.declared.fault.FollowFault.TheVariants.{Memory}
use Rattle.client_follow.specs.declared.following.Following.{Following}
use Rattle.client_follow.specs.Follows.{Follows, Around, around, sink_tale}
use Rattle.serve_run.specs.Serving.{SinkTale}

-- what a client follows by these words, and how far
abbrev pub following : (url token : List ℕ) → (intents count : ℕ) → Following
following url token intents count = record { url = url; token = token; intents = intents; count = count }

-- what is outside of a client, by what the house's dial, its clock and its sink tell
abbrev pub around_client : DialTale → ClockTale → SinkTale → Around
around_client dial clock sink = around dial clock (sink_tale sink.got sink.waits sink.faults)

module _ (f : Following) (house0 house1 : HouseTale) (dial0 dial1 : DialTale) (sink0 sink1 : SinkTale) where
  -- memory ran out before there was a clock: nothing was dialled, and nothing written
  pub record FollowsNone (followed : Result (Unit {0}) FollowFault) : Type 0 where
    pub fault : followed ≡ Err Memory
    pub asks : AsksClocks 0 house0 house1
    pub dial : dial1 ≡ dial0
    pub sink : sink1 ≡ sink0

  -- the house lent a new clock, the gateway was followed in these visits, and the clock went back
  pub record HasFollowed (followed : Result (Unit {0}) FollowFault) : Type 0 where
    pub lent : HouseTale
    pub asks : AsksClocks 1 house0 lent
    pub clock0 : ClockTale
    pub fresh : IsNewClock clock0
    pub clock1 : ClockTale
    pub visits : List Visit
    pub follows : Follows f visits (around_client dial0 clock0 sink0) (around_client dial1 clock1 sink1) followed
    pub puts : PutsClock lent house1 clock1

  abbrev pub FollowsOver : Result (Unit {0}) FollowFault → Type 0
  FollowsOver followed = FollowsNone followed ⊎ HasFollowed followed
