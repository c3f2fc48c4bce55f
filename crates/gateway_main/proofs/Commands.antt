-- What is done for each command.
use Rattle.std.proofs.Common.{◌≡◌, ℕ, List, [], Result, Ok, Err, OnOk, OnErr, is_err, true, false, inl, inr, refl, sym, subst, arith}
use Rattle.std.specs.declared.option.Option.{Option}
use Rattle.std.specs.declared.option.Option.TheVariants.{Some, None}
use Rattle.gate_outside.specs.Houses.{HouseTale}
use Rattle.serve_words.specs.Words.{Asked as Command, run, load, serve, client, lift}
use Rattle.load_run.specs.declared.fault.LoadFault.TheVariants as ends
use Rattle.scenario.specs.declared.fault.PlayFault.TheVariants as play
use Rattle.house_loans.specs.Clocks.{LendsClocks}
use Rattle.house_loans.proofs.Lending.{clocks_none}
use Rattle.house_loans.proofs.Returned.{clocks_back_none}
use Rattle.serve_run.specs.declared.fault.ServeFault.TheVariants as serving
use Rattle.serve_run.proofs.Back.{ran_out}
use Rattle.client_follow.specs.declared.fault.FollowFault.TheVariants as follow
use Rattle.file_lift.specs.declared.fault.LiftFault.TheVariants as lifting
use Rattle.file_commands.proofs.Usage.{no_usage}
use Rattle.file_commands.proofs.Unread.{plays_none, lifts_none}
use Rattle.gateway_main.specs.declared.fault.GateFault.{GateFault}
use Rattle.gateway_main.specs.Gate.{Outside, Does, Plays, RunsServe, RunsLift, LeavesDial, LeavesTeams}

-- what holds after an answer that is no error
pub ok_holds : {T E : Type 0} (r : Result T E) (P : Type 0) → is_err r ≡ false → OnOk r P → P
ok_holds (Ok x) P no_error holds = holds
ok_holds (Err x) P no_error holds = absurd cc

-- what holds after an answer that is an error
pub err_holds : {T E : Type 0} (r : Result T E) (P : Type 0) → is_err r ≡ true → OnErr r P → P
err_holds (Ok x) P error holds = absurd cc
err_holds (Err x) P error holds = holds

-- no clock was asked for
pub lends_none : (most : ℕ) (house : HouseTale) → LendsClocks most house house
lends_none most house = record {
  count = 0;
  within = omega arith;
  lent = house;
  asks = clocks_none house;
  tales = [];
  as_many = refl;
  puts = clocks_back_none house;
}

module _ (old : Outside) where
  leaves_teams : LeavesTeams old old
  leaves_teams = record {
    load_team = refl;
    serve_team = refl;
  }

  leaves_dial : LeavesDial old old
  leaves_dial = record {
    dial = refl;
    dial_faults = refl;
  }

  -- out of memory before the command began
  pub out_of_memory : (R : Type 0) (command : Option Command) → Does R command old old None 6
  out_of_memory R None = record {
    usage = no_usage old.sink.got old.sink.waits old.sink.faults;
    house = refl;
    dial = leaves_dial;
    teams = leaves_teams;
    fault = refl;
  }
  out_of_memory R (Some (run file)) = record {
    played = Err play.Memory;
    status_is = refl;
    plays = plays_none file old.house old.sink.got old.sink.waits old.sink.faults;
    dial = leaves_dial;
    teams = leaves_teams;
    fault = inr (refl, refl);
  }
  out_of_memory R (Some (load seed)) = record {
    loaded = Err ends.Memory;
    status_is = refl;
    loads = inl refl;
    cause = tt;
    starts = record {
      late = λ none. refl;
      asked = λ e. absurd (cc);
    };
    clocks = lends_none 15 old.house;
    dial = leaves_dial;
    serve_team = refl;
    fault = inr (refl, refl);
  }
  out_of_memory R (Some (serve port workers accepts files)) = record {
    ended = Err serving.Memory;
    status_is = refl;
    serves = ran_out R port workers accepts files old.sink old.serve_team old.house;
    dial = leaves_dial;
    load_team = refl;
    fault = inr (refl, refl);
  }
  out_of_memory R (Some (client url token intents count)) = record {
    followed = Err follow.Memory;
    status_is = refl;
    follows = inl (record { fault = refl; asks = clocks_none old.house; dial = refl; sink = refl });
    teams = leaves_teams;
    fault = inr (refl, refl);
  }
  out_of_memory R (Some (lift file)) = record {
    lifted = Err lifting.Memory;
    status_is = refl;
    lifts = lifts_none file old.house old.sink.got old.sink.waits old.sink.faults;
    dial = leaves_dial;
    teams = leaves_teams;
    fault = inr (refl, refl);
  }

-- ---- what is done, by what the words ask for

module _ (R : Type 0) (command : Option Command) (old new : Outside) (told : Option GateFault) (status : ℕ) where
  by_words : (asked : Option Command) → command ≡ asked → Does R asked old new told status → Does R command old new told status
  by_words asked is does = subst (λ (o : Option Command). Does R o old new told status) (sym is) does

  pub plays : (file : List ℕ) → command ≡ Some (run file) → Plays file old new told status → Does R command old new told status
  plays file is does = by_words (Some (run file)) is does

  pub serves : (port workers accepts : ℕ) (files : List (List ℕ)) → command ≡ Some (serve port workers accepts files) → RunsServe R port workers accepts files old new told status → Does R command old new told status
  serves port workers accepts files is does = by_words (Some (serve port workers accepts files)) is does

  pub lifts : (file : List ℕ) → command ≡ Some (lift file) → RunsLift file old new told status → Does R command old new told status
  lifts file is does = by_words (Some (lift file)) is does
