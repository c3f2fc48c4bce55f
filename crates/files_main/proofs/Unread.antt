-- Out of memory before the words were read.
use Rattle.std.proofs.Common.{ℕ, List, Option as Maybe, Some, None, Err, inr, refl}
use Rattle.std.specs.declared.option.Option.{Option}
use Rattle.gate_outside.specs.Houses.{HouseTale}
use Rattle.scenario.specs.declared.fault.PlayFault.TheVariants as play
use Rattle.file_lift.specs.declared.fault.LiftFault.TheVariants as lifting
use Rattle.serve_words.specs.Words.{Asked as Command, run, load, serve, client, lift}
use Rattle.file_commands.proofs.Usage.{no_usage}
use Rattle.file_commands.proofs.Unread.{plays_none, lifts_none}
use Rattle.files_main.specs.Does.{Does, Refuses}

module _ (house : HouseTale) (got : Option (List ℕ)) (before : List ℕ) (faults : ℕ) where
  refuses : Refuses house house got got before faults faults None 6
  refuses = record {
    usage = no_usage got before faults;
    house = refl;
    fault = refl;
  }

  pub out_of_memory : (command : Maybe Command) → Does house house got got before faults faults None 6 command
  out_of_memory None = refuses
  out_of_memory (Some (run file)) = record {
    played = Err play.Memory;
    status_is = refl;
    plays = plays_none file house got before faults;
    fault = inr (refl, refl);
  }
  out_of_memory (Some (load seed)) = refuses
  out_of_memory (Some (serve port workers accepts files)) = refuses
  out_of_memory (Some (client url token intents count)) = refuses
  out_of_memory (Some (lift file)) = record {
    lifted = Err lifting.Memory;
    status_is = refl;
    lifts = lifts_none file house got before faults;
    fault = inr (refl, refl);
  }
