use Rattle.std.proofs.Common.{◌∙◌, ap, ap₂}
use Rattle.std.proofs.lemmas.Result.{IfOk-weaker}
use Rattle.clap.specs.Words.{App, with_subcommand}
use Rattle.serve_words.proofs.grammar.grammar.Goals as goal

pub returns : goal.returns
returns c =
    let top = λ (a : App). a.top in
    let with_run = c.in_ok-subcommand.ensures.shape c.in_ok-run.ensures.globals ∙ ap₂ with_subcommand c.without_help.ensures (ap top c.in_ok-run.ensures.app) in
    let with_load = c.in_ok-subcommand-2.ensures.shape c.in_ok-load.ensures.globals ∙ ap₂ with_subcommand with_run (ap top c.in_ok-load.ensures.app) in
    let with_serve = c.in_ok-subcommand-3.ensures.shape c.in_ok-serve.ensures.globals ∙ ap₂ with_subcommand with_load (ap top c.in_ok-serve.ensures.app) in
    let with_client = c.in_ok-subcommand-4.ensures.shape c.in_ok-client.ensures.globals ∙ ap₂ with_subcommand with_serve (ap top c.in_ok-client.ensures.app) in
    IfOk-weaker c.subcommand-5.result _ _ (λ command h. h.shape c.in_ok-lift.ensures.globals ∙ ap₂ with_subcommand with_client (ap top c.in_ok-lift.ensures.app)) c.subcommand-5.ensures
