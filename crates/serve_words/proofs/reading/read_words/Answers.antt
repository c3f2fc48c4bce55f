use Rattle.std.proofs.Common.{◌≡◌, ◌∙◌, Bool, true, false, Option, None, List, [], map, string_bytes, if◌then◌else◌, sym, ap, true≢false}
use Rattle.std.specs.List.{list_any}
use Rattle.clap.specs.Faults.{fault_of, is_simple_and_free}
use Rattle.clap.specs.Words.{App, Text, is_simple, subcommand_of, takes}
use Rattle.clap.proofs.WalkLemmas.{list_any-map}
use Rattle.serve_words.specs.Words.{Asked, is_option, named_words}
use Rattle.serve_words.specs.Grammar.{gate, found_in}
use Rattle.serve_words.proofs.Commands.{found_all, refused_all}
use Rattle.serve_words.proofs.reading.read_words.Goals as goal

-- what words are a command, if none is an option
abbrev unless_option : List Text → Bool → Option Asked
unless_option words option = if option then None else named_words words

pub returns-then-has_options : goal.returns-then-has_options
returns-then-has_options c =
    let words : List Text = map string_bytes c.args.words.now in
    ap (unless_option words) (c.if-has_options.ensures ∙ list_any-map is_option string_bytes c.args.words.now)

pub returns-in-Ok : goal.returns-in-Ok
returns-in-Ok c =
    let words : List Text = map string_bytes c.args.words.now in
    let none : list_any is_option words ≡ false = sym (c.if-has_options.ensures ∙ list_any-map is_option string_bytes c.args.words.now) in
    let is_gate = c.in_ok-grammar.ensures in
    let found = c.in-Ok.ensures.matches (ap is_simple is_gate) in
    let faultless : fault_of gate words ≡ [] = sym (ap (λ (a : App). fault_of a words) is_gate) ∙ c.in-Ok.ensures.kinds (ap is_simple_and_free is_gate) in
    c.command_in.ensures ∙ ap (found_in words) (found.1 ∙ ap (λ (a : App). subcommand_of a words) is_gate)
    ∙ found_all words none faultless ∙ sym (ap (unless_option words) none)

pub returns : goal.returns
returns c =
    let words : List Text = map string_bytes c.args.words.now in
    let none : list_any is_option words ≡ false = sym (c.if-has_options.ensures ∙ list_any-map is_option string_bytes c.args.words.now) in
    sym (ap (unless_option words) none ∙ refused_all words none (λ taken.
    let kind = c.in-Err.ensures.passes (ap (λ (a : App). takes a words) c.in_ok-grammar.ensures ∙ taken) in
    let bad : false ≡ true = rw (c.kind.ensures ∙ kind) at c.if-eq.ensures in
    absurd (true≢false (sym bad))))
