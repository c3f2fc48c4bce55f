-- The words after `serve`.
use Rattle.std.proofs.Common.{◌≡◌, ◌∙◌, ◌==◌, ◌&&◌, ℕ, Bool, true, false, List, [], ◌∷◌, ◌++◌, length, Option, Some, None, if◌then◌else◌, fold, nat_le, nat_lt, refl, sym, ap, ap₂, codes, arith, le-leb, ltb-false, append-nil, append_assoc}
use Rattle.std.specs.List.{list_all, list_any}
use Rattle.clap.specs.Faults.{action_fault, fault_of, level_fault, settle_fault}
use Rattle.clap.specs.Kinds.{range_kinds}
use Rattle.clap.specs.Simple.{Shape, new_rule}
use Rattle.clap.specs.Takes.{level_passes, value_passes, walk_passes}
use Rattle.clap.specs.Walk.{finished, Rule, Text, Walk, arg_by_index, nothing_held, positional, settled, walk, walked}
use Rattle.clap.specs.declared.builder.action.ArgAction.TheVariants.{Set}
use Rattle.clap.specs.declared.error.kind.ErrorKind.TheVariants as kind
use Rattle.serve_words.specs.Words.{is_option, number_to, served, serve_words}
use Rattle.serve_words.specs.Grammar.{gate, found_in, serve_in}
use Rattle.serve_words.proofs.Walks.{IsFree, at_start, first_empty, first_plain, others_plain, split_none, turn_passes_on, walked_on}
use Rattle.serve_words.proofs.Subcommands.{serve_is, shape_by, ends, rows_are, is_taken, is_faultless, settles, found_by, IsTaken}
use Rattle.serve_words.proofs.Singles.{GoEach, IsReady, after, ready, walked_each, passes_each, no_fewer}

abbrev pub serve_word : Text
serve_word = codes "serve"

abbrev rule_in : Option Rule → Rule
rule_in None = new_rule []
rule_in (Some a) = a

abbrev shape : Shape
shape = shape_by serve_word

abbrev rules : List Rule
rules = shape.rules

-- ---- the port, the workers and the accepts

abbrev three : (port workers accepts : Text) → List Text
three port workers accepts = port ∷ workers ∷ accepts ∷ []

go_three : (port workers accepts : Text) → GoEach shape at_start (three port workers accepts)
go_three port workers accepts = (ready _ refl refl refl, refl, (ready _ refl refl refl, refl, (ready _ refl refl refl, refl, tt)))

-- ---- the files
-- after these files
abbrev after_files : (port workers accepts : Text) → List Text → Walk
after_files port workers accepts files = record {
  held = record {
    rows = (settled rules (after shape (three port workers accepts)).held).rows;
    pending = Some (codes "FILES", files);
    skip = 0;
  };
  waiting = positional;
  position = 4;
  is_trailing = false;
  stopped = None;
}

-- any text is a name of a file
abbrev files_rule : Rule
files_rule = rule_in (arg_by_index rules 4)

any_text : (files : List Text) → list_all (value_passes files_rule) files ≡ true
any_text [] = refl
any_text (file ∷ files) = any_text files

-- a number of values that is no fault is at most twelve
in_range : (n : ℕ) → range_kinds 1 12 n ≡ [] → nat_le n 12 ≡ true
in_range n e = le-leb n 12 (ltb-false 12 n (by_tests (n == 0) (nat_lt n 1) (nat_lt 12 n) e))
  where
    by_tests : (none few many : Bool) → (if none then kind.InvalidValue ∷ [] else (if few then kind.TooFewValues ∷ [] else (if many then kind.TooManyValues ∷ [] else []))) ≡ [] → many ≡ false
    by_tests true few many e = absurd cc
    by_tests false true many e = absurd cc
    by_tests false false true e = absurd cc
    by_tests false false false e = refl

module _ (port workers accepts : Text) where
  files_free : (files : List Text) → IsFree (after_files port workers accepts files)
  files_free files = record { trailing = refl; stopped = refl; waiting = λ c word. refl }

  files_walked : (before files : List Text) → list_any is_option files ≡ false
      → fold (walked rules []) (after_files port workers accepts before) files ≡ after_files port workers accepts (before ++ files)
  files_walked before [] none = ap (after_files port workers accepts) (sym (append-nil before))
  files_walked before (file ∷ files) none =
      ap (λ (w : Walk). fold (walked rules []) w files) (walked_on rules [] (after_files port workers accepts before) file (files_free before) (first_plain file files none) refl)
      ∙ files_walked (before ++ file ∷ []) files (others_plain file files none)
      ∙ ap (after_files port workers accepts) (append_assoc before (file ∷ []) files)

  files_pass : (before files : List Text) → list_any is_option files ≡ false → walk_passes shape [] (after_files port workers accepts before) files ≡ true
  unfolding walk_passes
  files_pass before [] none = refl
  files_pass before (file ∷ files) none =
      ap₂ (λ (t : Bool) (w : Walk). t && walk_passes shape [] w files)
      (turn_passes_on shape [] (after_files port workers accepts before) file (files_free before) (first_plain file files none) refl refl)
      (walked_on rules [] (after_files port workers accepts before) file (files_free before) (first_plain file files none) refl)
      ∙ files_pass (before ++ file ∷ []) files (others_plain file files none)

-- ---- four words or more

module _ (port workers accepts file : Text) (files : List Text) (none : list_any is_option (port ∷ workers ∷ accepts ∷ file ∷ files) ≡ false) where
  abbrev all_words : List Text
  all_words = port ∷ workers ∷ accepts ∷ file ∷ files

  parts : (list_any is_option (three port workers accepts) ≡ false) × (list_any is_option (file ∷ files) ≡ false)
  parts = split_none (three port workers accepts) (file ∷ files) none

  file_ready : IsReady (after shape (three port workers accepts))
  file_ready = ready _ refl refl refl

  file_walked : walked rules [] (after shape (three port workers accepts)) file ≡ after_files port workers accepts (file ∷ [])
  file_walked = walked_on rules [] (after shape (three port workers accepts)) file file_ready.free (first_plain file files parts.1) refl

  serve_walked : walk rules [] nothing_held all_words ≡ after_files port workers accepts (file ∷ files)
  serve_walked =
      walked_each shape at_start (three port workers accepts) (file ∷ files) parts.0 (go_three port workers accepts)
      ∙ ap (λ (w : Walk). fold (walked rules []) w files) file_walked
      ∙ files_walked port workers accepts (file ∷ []) files (others_plain file files parts.1)

  serve_passes : walk_passes shape [] at_start all_words ≡ true
  unfolding walk_passes
  serve_passes =
      passes_each shape at_start (three port workers accepts) (file ∷ files) parts.0 (go_three port workers accepts)
      ∙ ap₂ (λ (t : Bool) (w : Walk). t && walk_passes shape [] w files)
      (turn_passes_on shape [] (after shape (three port workers accepts)) file file_ready.free (first_plain file files parts.1) refl refl) file_walked
      ∙ files_pass port workers accepts (file ∷ []) files (others_plain file files parts.1)

  serve_taken : nat_le (length (file ∷ files)) 12 ≡ true → level_passes shape [] nothing_held all_words false ≡ true
  serve_taken few =
      let n = length (file ∷ files) in
      ap₂ (λ (t : Bool) (w : Walk). t && ends shape w false) serve_passes serve_walked
      ∙ ap (λ (t : Bool). (nat_le 1 n && (nat_le n 12 && t)) && true) (any_text (file ∷ files))
      ∙ ap₂ (λ (some few : Bool). (some && (few && true)) && true) (le-leb 1 n (omega arith)) few

  -- more than twelve files are a fault
  are_few : level_fault shape [] nothing_held all_words false [] ≡ [] → nat_le (length (file ∷ files)) 12 ≡ true
  are_few faultless =
      let uses = action_fault Set shape.args_override_self files_rule (file ∷ files) (settled rules (after shape (three port workers accepts)).held).rows in
      in_range (length (file ∷ files)) (first_empty (range_kinds 1 12 (length (file ∷ files))) uses
      (sym (ap (λ (w : Walk). settle_fault rules shape.args_override_self w.held) serve_walked) ∙ settles shape all_words faultless))

-- ---- what is found, and what is taken

pub serve_found : (words : List Text) → list_any is_option words ≡ false → fault_of gate (serve_word ∷ words) ≡ [] → found_by serve_word words ≡ serve_words words
serve_found [] none faultless = absurd (no_fewer shape [] none tt refl (is_faultless serve_word _ serve_is [] faultless))
serve_found (port ∷ []) none faultless =
    absurd (no_fewer shape (port ∷ []) none (ready _ refl refl refl, refl, tt) refl (is_faultless serve_word _ serve_is (port ∷ []) faultless))
serve_found (port ∷ workers ∷ []) none faultless =
    absurd (no_fewer shape (port ∷ workers ∷ []) none (ready _ refl refl refl, refl, (ready _ refl refl refl, refl, tt)) refl
    (is_faultless serve_word _ serve_is (port ∷ workers ∷ []) faultless))
serve_found (port ∷ workers ∷ accepts ∷ []) none faultless =
    absurd (no_fewer shape (three port workers accepts) none (go_three port workers accepts) refl (is_faultless serve_word _ serve_is (three port workers accepts) faultless))
serve_found (port ∷ workers ∷ accepts ∷ file ∷ files) none faultless =
    let words = port ∷ workers ∷ accepts ∷ file ∷ files in
    let few = are_few port workers accepts file files none (is_faultless serve_word _ serve_is words faultless) in
    let numbers = served (number_to 65532 port) (number_to 4 workers) (number_to 1000000 accepts) (file ∷ files) in
    ap (found_in (serve_word ∷ words)) (rows_are serve_word _ serve_is words)
    ∙ ap (λ (w : Walk). serve_in (serve_word ∷ words) (finished rules w.held)) (serve_walked port workers accepts file files none)
    ∙ sym (ap₂ (λ (some few : Bool). if some && few then numbers else None) (le-leb 1 (length (file ∷ files)) (omega arith)) few)

pub serve_refused : (words : List Text) → list_any is_option words ≡ false → (IsTaken serve_word words → ⊥) → serve_words words ≡ None
serve_refused [] none refused = refl
serve_refused (port ∷ []) none refused = refl
serve_refused (port ∷ workers ∷ []) none refused = refl
serve_refused (port ∷ workers ∷ accepts ∷ []) none refused = refl
serve_refused (port ∷ workers ∷ accepts ∷ file ∷ files) none refused = by_count (nat_le (length (file ∷ files)) 12) refl
  where
    by_count : (t : Bool) → nat_le (length (file ∷ files)) 12 ≡ t → serve_words (port ∷ workers ∷ accepts ∷ file ∷ files) ≡ None
    by_count true few =
        absurd (refused (is_taken serve_word _ serve_is (port ∷ workers ∷ accepts ∷ file ∷ files) (serve_taken port workers accepts file files none few)))
    by_count false many = rw (le-leb 1 (length (file ∷ files)) (omega arith), many) refl
