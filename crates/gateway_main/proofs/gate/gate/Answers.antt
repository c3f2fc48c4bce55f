use Rattle.std.proofs.Common.{◌∙◌, map, string_bytes, option_map, Some, refl, sym, ap, inl, arith}
use Rattle.std.proofs.lemmas.List.{length-map}
use Rattle.serve_words.specs.Words.{asked, command_of}
use Rattle.serve_run.specs.Serving.{sink_tale, team_tale}
use Rattle.gateway_main.specs.Gate.{outside}
use Rattle.gateway_main.proofs.Bounds.{are_bounded}
use Rattle.gateway_main.proofs.Commands.{out_of_memory, plays, serves, lifts}
use Rattle.gateway_main.proofs.gate.gate.Goals as goal

-- out of memory while the words are read
pub returns-in_default-clause-does : goal.returns-in_default-clause-does
returns-in_default-clause-does g c = out_of_memory (outside (g.H.Dial.house_tale c.args.house.now) (g.H.Dial.tale c.args.house.now) (g.H.Dial.faults c.args.house.now)
    (sink_tale (g.H.Out.Sink.got c.args.sink.now) (g.H.Out.Sink.waits c.args.sink.now) (g.H.Out.Sink.faults c.args.sink.now))
    (team_tale (g.S.Spawner.starts c.args.load_team.now) (g.S.Spawner.faults c.args.load_team.now))
    (team_tale (g.T.Spawner.starts c.args.serve_team.now) (g.T.Spawner.faults c.args.serve_team.now)))
    g.row.R.Denot (command_of (map string_bytes c.args.words.now))

-- what is served is bounded by the grammar
pub run_serve-ended-requires-clause-files : goal.run_serve-ended-requires-clause-files
run_serve-ended-requires-clause-files g c =
    let are = are_bounded c.in-Serve.port c.in-Serve.workers c.in-Serve.accepts (map string_bytes c.in-Serve.files.now) (map string_bytes c.args.words.now)
    (sym c.in-Ok.ensures ∙ (ap (option_map asked) c.in-Some.is ∙ ap (λ x. Some (asked x)) c.in-Serve.is)) in
    let many = length-map c.in-Serve.files.now string_bytes in
    (omega (arith, many, are.files_least), omega (arith, many, are.files_most))

pub run_serve-ended-requires-clause-workers : goal.run_serve-ended-requires-clause-workers
run_serve-ended-requires-clause-workers g c =
    let are = are_bounded c.in-Serve.port c.in-Serve.workers c.in-Serve.accepts (map string_bytes c.in-Serve.files.now) (map string_bytes c.args.words.now)
    (sym c.in-Ok.ensures ∙ (ap (option_map asked) c.in-Some.is ∙ ap (λ x. Some (asked x)) c.in-Serve.is)) in
    (are.workers_least, are.workers_most)

pub run_serve-ended-requires-clause-ports : goal.run_serve-ended-requires-clause-ports
run_serve-ended-requires-clause-ports g c =
    let are = are_bounded c.in-Serve.port c.in-Serve.workers c.in-Serve.accepts (map string_bytes c.in-Serve.files.now) (map string_bytes c.args.words.now)
    (sym c.in-Ok.ensures ∙ (ap (option_map asked) c.in-Some.is ∙ ap (λ x. Some (asked x)) c.in-Serve.is)) in
    omega (arith, are.port_most, are.workers_most)

pub returns-in-Run-clause-does : goal.returns-in-Run-clause-does
returns-in-Run-clause-does g c =
    plays _ _ _ _ _ _ _ (sym c.in-Ok.ensures ∙ (ap (option_map asked) c.in-Some.is ∙ ap (λ x. Some (asked x)) c.in-Run.is)) (record {
      played = c.play_file-played.result;
      status_is = c.play_status.ensures;
      plays = record {
        runs = c.play_file-played.ensures.runs;
        asks = c.play_file-played.ensures.asks;
        cause = c.play_file-played.ensures.cause;
        rest = c.play_file-played.ensures.rest;
      };
      dial = record { dial = c.play_file-played.ensures.dial; dial_faults = c.play_file-played.ensures.dial_faults };
      teams = record { load_team = refl; serve_team = refl };
      fault = inl c.play_fault.ensures;
    })

pub returns-in-Serve-clause-does : goal.returns-in-Serve-clause-does
returns-in-Serve-clause-does g c =
    serves _ _ _ _ _ _ _ _ _ _ (sym c.in-Ok.ensures ∙ (ap (option_map asked) c.in-Some.is ∙ ap (λ x. Some (asked x)) c.in-Serve.is)) (record {
      ended = c.run_serve-ended.result;
      status_is = c.serve_status.ensures;
      serves = c.run_serve-ended.ensures.serves;
      dial = record { dial = c.run_serve-ended.ensures.dial; dial_faults = c.run_serve-ended.ensures.dial_faults };
      load_team = refl;
      fault = inl c.serve_fault.ensures;
    })

pub returns-in-Lift-clause-does : goal.returns-in-Lift-clause-does
returns-in-Lift-clause-does g c =
    lifts _ _ _ _ _ _ _ (sym c.in-Ok.ensures ∙ (ap (option_map asked) c.in-Some.is ∙ ap (λ x. Some (asked x)) c.in-Lift.is)) (record {
      lifted = c.lift_file-lifted.result;
      status_is = c.lift_status.ensures;
      lifts = record {
        lifts = c.lift_file-lifted.ensures.lifts;
        asks = c.lift_file-lifted.ensures.asks;
        cause = c.lift_file-lifted.ensures.cause;
        rest = c.lift_file-lifted.ensures.rest;
      };
      dial = record { dial = c.lift_file-lifted.ensures.dial; dial_faults = c.lift_file-lifted.ensures.dial_faults };
      teams = record { load_team = refl; serve_team = refl };
      fault = inl c.lift_fault.ensures;
    })
