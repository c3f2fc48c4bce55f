-- internal: cited by private functions only
-- The grammar as `clap` has it, and what is made of what it finds.
use Rattle.std.specs.Prelude.{ℕ, ◌≡◌, List, drop, true, false, Option, Some, None, option_map, option_and_then, if◌then◌else◌, codes}
use Rattle.std.specs.Str.{bytes_eq}
use Rattle.clap.specs.Words.{App, Row, Rule, Text, first_of, new_app, new_rule, with_rule, with_subcommand}
use Rattle.clap.specs.declared.builder.command.Command.{Command as Clap}
use Rattle.clap.specs.declared.builder.command.Command.TheViews.{out-Command}
use Rattle.serve_words.specs.Words.{number_of, number_to, url_of, token_of, intents_of, served, followed, Asked, run, load, lift}

abbrev pub HasNoGlobals : Clap → Type 0
HasNoGlobals c = (out-Command c).has_globals ≡ false

-- a positional that is required
abbrev pub required : Text → Rule
required word = record (new_rule word) { required = true }

abbrev pub files : Rule
files = record (required (codes "FILES")) { range = Some (record { start_inclusive = 1; end_inclusive = 12 }) }

-- a command with one positional, which is required
abbrev pub one_word : Text → Text → App
one_word name word = with_rule (new_app name) (required word)

abbrev pub serve : App
serve = with_rule (with_rule (with_rule (one_word (codes "serve") (codes "PORT")) (required (codes "WORKERS"))) (required (codes "ACCEPTS"))) files

abbrev pub client : App
client = with_rule (with_rule (with_rule (one_word (codes "client") (codes "URL")) (required (codes "TOKEN"))) (required (codes "INTENTS"))) (required (codes "COUNT"))

abbrev pub without_help : App → App
without_help a = record a {
  top = record a.top {
    no_binary_name = true;
    disable_help_flag = true;
    disable_help_subcommand = true;
  };
}

abbrev pub gate : App
gate =
    let run = one_word (codes "run") (codes "FILE") in
    let load = one_word (codes "load") (codes "SEED") in
    let lift_app = one_word (codes "lift") (codes "FILE") in
    with_subcommand (with_subcommand (with_subcommand (with_subcommand (with_subcommand (without_help (new_app (codes "gate"))) run.top) load.top) serve.top) client.top) lift_app.top

abbrev pub file_in : List Row → Option Asked
file_in rows = option_map run (first_of (codes "FILE") rows)

abbrev pub lift_in : List Row → Option Asked
lift_in rows = option_map lift (first_of (codes "FILE") rows)

abbrev pub seed_in : List Row → Option Asked
seed_in rows = option_map load (option_and_then number_of (first_of (codes "SEED") rows))

abbrev pub number_in : ℕ → Text → List Row → Option ℕ
number_in most name rows = option_and_then (number_to most) (first_of name rows)

-- the files are the last of all the words
abbrev pub serve_in : List Text → List Row → Option Asked
serve_in words rows = served (number_in 65532 (codes "PORT") rows) (number_in 4 (codes "WORKERS") rows) (number_in 1000000 (codes "ACCEPTS") rows) (drop 4 words)

abbrev pub client_in : List Row → Option Asked
client_in rows = followed
    (option_and_then url_of (first_of (codes "URL") rows))
    (option_and_then token_of (first_of (codes "TOKEN") rows))
    (option_and_then intents_of (first_of (codes "INTENTS") rows))
    (number_in 1000000 (codes "COUNT") rows)

-- what is asked for, by the words, the subcommand that was found and its matches
abbrev pub found_in : List Text → Option (Text × List Row) → Option Asked
found_in words None = None
found_in words (Some p) = if bytes_eq p.0 (codes "run") then file_in p.1
    else (if bytes_eq p.0 (codes "load") then seed_in p.1
    else (if bytes_eq p.0 (codes "serve") then serve_in words p.1
    else (if bytes_eq p.0 (codes "client") then client_in p.1
    else (if bytes_eq p.0 (codes "lift") then lift_in p.1 else None))))
