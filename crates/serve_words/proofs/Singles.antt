-- Words that go to the positionals of a subcommand, one each.
use Rattle.std.proofs.Common.{◌≡◌, ◌∙◌, ◌&&◌, Bool, true, false, List, [], ◌∷◌, ◌++◌, None, fold, refl, sym, ap, ap₂, subst, append-nil}
use Rattle.std.specs.List.{list_any}
use Rattle.clap.specs.Faults.{check_fault, level_fault, step_fault, turn_fault, walk_fault}
use Rattle.clap.specs.Simple.{Shape}
use Rattle.clap.specs.Takes.{level_passes, step_passes, walk_passes}
use Rattle.clap.specs.Walk.{finished, Text, Walk, idle, nothing_held, subcommand_met, value, walk, walked}
use Rattle.clap.specs.declared.error.kind.ErrorKind.TheVariants as kind
use Rattle.serve_words.specs.Words.{is_option}
use Rattle.serve_words.proofs.Walks.{IsFree, at_start, first_empty, second_empty, first_plain, others_plain, split_none, step_is_faultless, taken, turn_passes_on, walked_on}
use Rattle.serve_words.proofs.Subcommands.{ends, checks}

-- the walk takes any word that is no option as a value
pub record IsReady (w : Walk) : Type 0 where
  pub free : IsFree w
  pub idles : (word : Text) → subcommand_met [] w.waiting word ≡ None

pub ready : (w : Walk) → w.is_trailing ≡ false → w.stopped ≡ None → w.waiting ≡ idle → IsReady w
ready w trailing stopped idles = record {
  free = record { trailing = trailing; stopped = stopped; waiting = λ c word. rw idles refl };
  idles = λ word. rw idles refl;
}

-- each of these words goes to the next positional
abbrev pub GoEach : Shape → Walk → List Text → Type 0
GoEach s w [] = Unit {0}
GoEach s w (word ∷ words) = IsReady w × (step_passes s w.position w.held value ≡ true) × GoEach s (taken s.rules w word) words

-- the walk after them
abbrev pub after : Shape → List Text → Walk
after s words = fold (taken s.rules) at_start words

module _ (s : Shape) where
  step_is : (w : Walk) (word : Text) (words : List Text) → list_any is_option (word ∷ words) ≡ false → IsReady w → walked s.rules [] w word ≡ taken s.rules w word
  step_is w word words none is = walked_on s.rules [] w word is.free (first_plain word words none) (is.idles word)

  pub walked_each : (w : Walk) (words more : List Text) → list_any is_option words ≡ false → GoEach s w words
      → fold (walked s.rules []) w (words ++ more) ≡ fold (walked s.rules []) (fold (taken s.rules) w words) more
  walked_each w [] more none go = refl
  walked_each w (word ∷ words) more none go =
      ap (λ (v : Walk). fold (walked s.rules []) v (words ++ more)) (step_is w word words none go.0)
      ∙ walked_each (taken s.rules w word) words more (others_plain word words none) go.2

  pub passes_each : (w : Walk) (words more : List Text) → list_any is_option words ≡ false → GoEach s w words
      → walk_passes s [] w (words ++ more) ≡ walk_passes s [] (fold (taken s.rules) w words) more
  unfolding walk_passes
  passes_each w [] more none go = refl
  passes_each w (word ∷ words) more none go =
      ap₂ (λ (t : Bool) (v : Walk). t && walk_passes s [] v (words ++ more))
      (turn_passes_on s [] w word go.0.free (first_plain word words none) (go.0.idles word) go.1) (step_is w word words none go.0)
      ∙ passes_each (taken s.rules w word) words more (others_plain word words none) go.2

  -- a walk without a fault has none after these words
  faultless_each : (w : Walk) (words more : List Text) → list_any is_option words ≡ false → GoEach s w words
      → walk_fault s [] w (words ++ more) ≡ [] → walk_fault s [] (fold (taken s.rules) w words) more ≡ []
  unfolding walk_fault
  faultless_each w [] more none go faultless = faultless
  faultless_each w (word ∷ words) more none go faultless =
      faultless_each (taken s.rules w word) words more (others_plain word words none) go.2
      (subst (λ (v : Walk). walk_fault s [] v (words ++ more) ≡ []) (step_is w word words none go.0) (second_empty (turn_fault s [] w word) _ faultless))

  module _ (words : List Text) (none : list_any is_option words ≡ false) (go : GoEach s at_start words) where
    pub walk_is : walk s.rules [] nothing_held words ≡ after s words
    walk_is = ap (λ (ws : List Text). fold (walked s.rules []) at_start ws) (sym (append-nil words)) ∙ walked_each at_start words [] none go

    pub are_taken : ends s (after s words) false ≡ true → level_passes s [] nothing_held words false ≡ true
    unfolding walk_passes
    are_taken well =
        ap₂ (λ (t : Bool) (w : Walk). t && ends s w false)
        (ap (walk_passes s [] at_start) (sym (append-nil words)) ∙ passes_each at_start words [] none go) walk_is
        ∙ well

    -- fewer words are a fault, since a required one is missing
    pub no_fewer : check_fault s (finished s.rules (after s words).held) false ≡ kind.MissingRequiredArgument ∷ []
        → level_fault s [] nothing_held words false [] ≡ [] → ⊥
    no_fewer missing faultless =
        let bad : kind.MissingRequiredArgument ∷ [] ≡ [] =
        sym missing ∙ (sym (ap (λ (w : Walk). check_fault s (finished s.rules w.held) false) walk_is) ∙ checks s words faultless) in
        absurd cc

  -- a further word is a fault, since no positional takes it
  pub no_more : (words : List Text) (word : Text) (more : List Text) → list_any is_option (words ++ word ∷ more) ≡ false → GoEach s at_start words → IsReady (after s words)
      → step_fault s (after s words).position (after s words).held value ≡ kind.UnknownArgument ∷ []
      → level_fault s [] nothing_held (words ++ word ∷ more) false [] ≡ [] → ⊥
  unfolding walk_fault
  no_more words word more none go is stray faultless =
      let parts = split_none words (word ∷ more) none in
      let later : walk_fault s [] (after s words) (word ∷ more) ≡ [] = faultless_each at_start words (word ∷ more) parts.0 go (first_empty _ _ faultless) in
      let at_word : turn_fault s [] (after s words) word ≡ [] = first_empty _ _ later in
      let step = step_is_faultless s [] (after s words) word is.free (first_plain word more parts.1) (is.idles word) at_word in
      let bad : kind.UnknownArgument ∷ [] ≡ [] = sym stray ∙ step in
      absurd cc
