-- Out of memory before a file was asked for.
use Rattle.std.proofs.Common.{ℕ, List, Err, inl, inr, refl, arith}
use Rattle.std.specs.declared.option.Option.{Option}
use Rattle.gate_outside.specs.Houses.{HouseTale}
use Rattle.scenario.specs.declared.fault.PlayFault.TheVariants as play
use Rattle.file_lift.specs.declared.fault.LiftFault.TheVariants as lift
use Rattle.file_commands.specs.Files.{LeavesRest}
use Rattle.file_commands.specs.Playing.{PlaysFile}
use Rattle.file_commands.specs.Lifting.{LiftsFile}

module _ (file : List ℕ) (house : HouseTale) (got : Option (List ℕ)) (before : List ℕ) (faults : ℕ) where
  leaves_all : LeavesRest house house
  leaves_all = record {
    contents = refl;
    doors = refl;
    clocks = refl;
    door_faults = refl;
  }

  pub plays_none : PlaysFile file house house got got before faults faults (Err play.Memory)
  plays_none = record {
    runs = inl (refl, refl, inr refl);
    asks = inr (refl, refl);
    cause = (refl, refl);
    rest = leaves_all;
  }

  pub lifts_none : LiftsFile file house house got got before faults faults (Err lift.Memory)
  lifts_none = record {
    lifts = inl (refl, refl, inr refl);
    asks = inr (refl, refl);
    cause = (omega arith, refl);
    rest = leaves_all;
  }
