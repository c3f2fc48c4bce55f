-- What a run begins with, as its outside tells it.
use Rattle.std.specs.Prelude.{◌≡◌, ℕ, List, All, length}
use Rattle.std.specs.declared.option.Option.{Option}
use Rattle.gate_outside.specs.Clocks.{ClockTale}
use Rattle.gate_outside.specs.Doors.{DoorTale}
use Rattle.session_core.specs.declared.bot.Bot.{Bot}
use Rattle.serve_stage.specs.Stages.{IsStage}
use Rattle.serve_stage.specs.declared.lent.Lent.{Lent}
use Rattle.serve_stage.specs.declared.stage.Stage.{Stage}
use Rattle.serve_run.specs.Services.{Service, HasHead, service, ascending}
use Rattle.serve_run.specs.declared.ends.Returned.{Returned}

module _ {S D C : Type 0} where
  -- as much goes back as was lent
  pub record ReturnsAll (lent : Lent S D C) (returned : Returned S D C) : Type 0 where
    pub sources : length returned.sources.items ≡ length lent.files.items
    pub doors : length returned.doors.items ≡ length lent.doors.items
    pub clocks : length returned.clocks.items ≡ length lent.clocks.items

module _ {S D C : Type 0} (left : S → Option (List ℕ)) (source_faults : S → ℕ) (door_tale : D → DoorTale) (door_faults : D → ℕ) (clock_tale : C → ClockTale) where
  -- this is told of the port, the bots, the guilds and what is lent, where the head of each file was read
  pub record TellsLent (port : ℕ) (bots : List Bot) (guilds : List ℕ) (lent : Lent S D C) (s : Service) : Type 0 where
    pub heads : List (List ℕ)
    pub alike : length heads ≡ length lent.files.items
    pub is : s ≡ service left source_faults door_tale door_faults clock_tale port bots guilds heads lent
    pub heads_are : All HasHead s.files

  -- ---- internal: cited by private functions only

  module _ {R : Type 0} where
    -- these parts were set up from what is told
    pub record IsStageOf (s : Service) (stage : Stage S D C R) : Type 0 where
      pub port : ℕ
      pub bots : List Bot
      pub guilds : List ℕ
      pub lent : Lent S D C
      pub tells : TellsLent port bots guilds lent s
      pub stage_is : IsStage port bots (ascending guilds) lent stage
