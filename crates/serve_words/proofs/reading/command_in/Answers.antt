use Rattle.std.proofs.Common.{◌∙◌, codes, map, string_bytes, refl, sym, ap}
use Rattle.serve_words.specs.Grammar.{found_in}
use Rattle.serve_words.proofs.Found.{found_by}
use Rattle.serve_words.proofs.reading.command_in.Goals as goal

pub returns-in-Some : goal.returns-in-Some
returns-in-Some c =
    c.run_of.ensures ∙ sym (ap (found_in (map string_bytes c.args.words.now)) (found_by c.args.found.now (codes "run") _ (c.in-Some.ensures.found.0 refl) c.in-Some.ensures.rows))

pub returns-in-Some-subcommand_matches : goal.returns-in-Some-subcommand_matches
returns-in-Some-subcommand_matches c =
    let at = c.in-Some-subcommand_matches in
    c.load_of.ensures ∙ sym (ap (found_in (map string_bytes c.args.words.now)) (found_by c.args.found.now (codes "load") _ (at.ensures.found.0 refl) at.ensures.rows))
