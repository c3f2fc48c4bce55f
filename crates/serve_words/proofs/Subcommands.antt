-- A subcommand of the grammar: what `clap` makes of its name and the words after it is what it makes of these words.
use Rattle.std.proofs.Common.{◌≡◌, ◌∙◌, ◌&&◌, Bool, true, false, List, [], ◌∷◌, Option, Some, None, is_some, option_map, fold, refl, sym, ap, ap₂, codes}
use Rattle.std.specs.Prelude.{find}
use Rattle.std.specs.List.{list_all}
use Rattle.std.specs.Option.{option_map_or}
use Rattle.clap.specs.Faults.{check_fault, defaults_fault, entered_fault, fault_of, level_fault, settle_fault, step_fault, walk_fault}
use Rattle.clap.specs.Simple.{Shape, built, entered, label_of, names_of, new_shape, rows_at, subcommand_of}
use Rattle.clap.specs.Takes.{default_passes, entered_passes, is_valid, level_passes, settle_passes, takes, turn_passes, walk_passes}
use Rattle.clap.specs.Walk.{finished, Names, Text, Walk, answers_to, nothing_held, idle, rows_after, settled, subcommand_met, value, walk, walked}
use Rattle.serve_words.specs.Words.{Asked}
use Rattle.serve_words.specs.Grammar.{gate, found_in}
use Rattle.serve_words.proofs.Walks.{IsFree, IsPlain, at_start, first_empty, second_empty, step_is_faultless, stopped_at, stopped_walk, stopped_passes}

abbrev pub top : Shape
top = (built gate).top

-- the subcommands of the built command
abbrev pub names : Names
names = names_of (built gate)

abbrev shape_in : Option Shape → Shape
shape_in None = new_shape []
shape_in (Some s) = s

abbrev pub shape_by : Text → Shape
shape_by name = shape_in (find (λ s. answers_to name (label_of s)) (built gate).subs)

-- the subcommand of a name is the shape
pub record IsNamed (name : Text) (s : Shape) : Type 0 where
  pub stops : walked [] names at_start name ≡ stopped_at name []
  pub passes : turn_passes top names at_start name ≡ true
  pub found : find (λ s. answers_to name (label_of s)) (built gate).subs ≡ Some s
  pub own : s.name ≡ name

pub run_is : IsNamed (codes "run") (shape_by (codes "run"))
unfolding walked
run_is = record { stops = refl; passes = refl; found = refl; own = refl }

pub load_is : IsNamed (codes "load") (shape_by (codes "load"))
unfolding walked
load_is = record { stops = refl; passes = refl; found = refl; own = refl }

pub serve_is : IsNamed (codes "serve") (shape_by (codes "serve"))
unfolding walked
serve_is = record { stops = refl; passes = refl; found = refl; own = refl }

pub client_is : IsNamed (codes "client") (shape_by (codes "client"))
unfolding walked
client_is = record { stops = refl; passes = refl; found = refl; own = refl }

pub lift_is : IsNamed (codes "lift") (shape_by (codes "lift"))
unfolding walked
lift_is = record { stops = refl; passes = refl; found = refl; own = refl }

-- what is asked for by what `clap` finds in a name and the words after it
abbrev pub found_by : Text → List Text → Option Asked
found_by name words = found_in (name ∷ words) (subcommand_of gate (name ∷ words))

abbrev pub IsTaken : Text → List Text → Type 0
IsTaken name words = takes gate (name ∷ words) ≡ true

-- what is asked of a walk at its end
abbrev pub ends : Shape → Walk → Bool → Bool
ends s w has_subcommand = settle_passes s.rules s.args_override_self w.held && (list_all default_passes s.rules && is_valid s (finished s.rules w.held) has_subcommand)

abbrev takes_by : Walk → Bool → Bool
takes_by w passes = entered_passes (built gate) w.stopped && (passes && ends top w (is_some (entered (built gate) w.stopped)))

module _ (name : Text) (s : Shape) (is : IsNamed name s) (words : List Text) where
  walk_is : walk [] names nothing_held (name ∷ words) ≡ stopped_at name words
  walk_is = ap (λ (w : Walk). fold (walked [] names) w words) is.stops ∙ stopped_walk [] names name [] words

  pub rows_are : subcommand_of gate (name ∷ words) ≡ Some (name, rows_after s.rules [] words)
  rows_are =
      ap (λ (w : Walk). entered (built gate) w.stopped) walk_is
      ∙ ap (λ (found : Option Shape). option_map (λ (s : Shape). rows_at s words) found) is.found
      ∙ ap (λ (own : Text). Some (own, rows_after s.rules [] words)) is.own

  top_passes : walk_passes top names at_start (name ∷ words) ≡ true
  unfolding walk_passes
  top_passes = ap₂ (λ (t : Bool) (w : Walk). t && walk_passes top names w words) is.passes is.stops ∙ stopped_passes top names name [] words

  -- the words are taken where the subcommand takes those after its name
  pub is_taken : level_passes s [] nothing_held words false ≡ true → takes gate (name ∷ words) ≡ true
  is_taken level =
      ap₂ takes_by walk_is top_passes
      ∙ ap (λ (found : Option Shape). option_map_or (λ (s : Shape). level_passes s [] nothing_held words false) found true && true) is.found
      ∙ ap (λ (t : Bool). t && true) level

  -- words without a fault have none after the name
  pub is_faultless : fault_of gate (name ∷ words) ≡ [] → level_fault s [] nothing_held words false [] ≡ []
  is_faultless faultless =
      sym (ap (λ (found : Option Shape). option_map_or (λ (s : Shape). level_fault s [] nothing_held words false []) found []) is.found)
      ∙ sym (ap (λ (w : Walk). entered_fault (built gate) w.stopped) walk_is)
      ∙ first_empty _ _ (second_empty _ _ faultless)

-- a fault of a level stands in its walk, where its last argument is settled, or in what is missing
module _ (s : Shape) (words : List Text) (faultless : level_fault s [] nothing_held words false [] ≡ []) where
  pub settles : settle_fault s.rules s.args_override_self (walk s.rules [] nothing_held words).held ≡ []
  settles = first_empty _ _ (second_empty _ _ faultless)

  pub checks : check_fault s (finished s.rules (walk s.rules [] nothing_held words).held) false ≡ []
  checks =
      let end = (walk s.rules [] nothing_held words).held in
      second_empty (defaults_fault (settled s.rules end).rows s.rules) (check_fault s (finished s.rules end) false)
      (second_empty (settle_fault s.rules s.args_override_self end) _ (second_empty (walk_fault s [] at_start words) _ faultless))

-- a first word that names no subcommand is a fault
pub named_first : (word : Text) (words : List Text) → IsPlain word → subcommand_met names idle word ≡ None → fault_of gate (word ∷ words) ≡ [] → ⊥
unfolding walk_fault
named_first word words is none faultless =
    let free : IsFree at_start = record { trailing = refl; stopped = refl; waiting = λ c word. refl } in
    absurd_of (step_is_faultless top names at_start word free is none (first_empty _ _ (first_empty _ _ faultless)))
  where
    absurd_of : step_fault top 1 nothing_held value ≡ [] → ⊥
    absurd_of e = absurd cc
