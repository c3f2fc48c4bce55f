-- What `clap`'s walk makes of words that are no options.
use Rattle.std.proofs.Common.{◌≡◌, ◌∙◌, ◌==◌, ◌&&◌, ◌||◌, Bool, true, false, List, [], ◌∷◌, ◌++◌, Option, Some, None, is_some, if◌then◌else◌, fold, refl, sym, ap, ap₂, true≢false, append-nil, append_assoc}
use Rattle.std.specs.List.{list_any}
use Rattle.std.specs.Str.{bytes_eq}
use Rattle.std.proofs.lemmas.Slice.Eq.{bytes_eq-Decides}
use Rattle.clap.specs.Lexer.{long_of, short_of}
use Rattle.clap.specs.Faults.{step_fault, turn_fault, word_fault}
use Rattle.clap.specs.Kinds.{Kinds, or_else}
use Rattle.clap.specs.Simple.{Shape}
use Rattle.clap.specs.Takes.{step_passes, turn_passes, walk_passes, word_passes}
use Rattle.clap.specs.Walk.{Held, Names, Rule, Step, Text, Walk, idle, value, after_step, arg_by_index, nothing_held, plain_word, subcommand_met, to_positional, walk_from, walked, walked_from, word_met}
use Rattle.serve_words.specs.Words.{is_option}

-- before the first word
abbrev pub at_start : Walk
at_start = walk_from nothing_held

-- ---- words

abbrev dashes : Text
dashes = 45 ∷ 45 ∷ []

-- a word that is neither a flag nor the two dashes
pub record IsPlain (word : Text) : Type 0 where
  pub long : long_of word ≡ None
  pub short : short_of word ≡ None
  pub other : bytes_eq word dashes ≡ false

no_dashes : (word : Text) → is_option word ≡ false → bytes_eq word dashes ≡ false
no_dashes word is = by_test (bytes_eq word dashes) refl
  where
    by_test : (t : Bool) → bytes_eq word dashes ≡ t → bytes_eq word dashes ≡ false
    by_test false e = e
    by_test true e = absurd (true≢false (sym (ap is_option ((bytes_eq-Decides word dashes).0 e)) ∙ is))

pub plain : (word : Text) → is_option word ≡ false → IsPlain word
plain [] is = record { long = refl; short = refl; other = refl }
plain (b ∷ []) is = by_dash (b == 45) refl
  where
    by_dash : (t : Bool) → b == 45 ≡ t → IsPlain (b ∷ [])
    by_dash true e = record { long = rw e refl; short = rw e refl; other = no_dashes (b ∷ []) is }
    by_dash false e = record { long = rw e refl; short = rw e refl; other = no_dashes (b ∷ []) is }
plain (b ∷ d ∷ bs) is = record { long = rw is refl; short = rw is refl; other = no_dashes (b ∷ d ∷ bs) is }

neither : (s t : Bool) → s || t ≡ false → (s ≡ false) × (t ≡ false)
neither false t e = (refl, e)
neither true t e = absurd (true≢false e)

-- the first of words without options, and the others
pub first_plain : (word : Text) (words : List Text) → list_any is_option (word ∷ words) ≡ false → IsPlain word
first_plain word words none = plain word (neither (is_option word) (list_any is_option words) none).0

pub others_plain : (word : Text) (words : List Text) → list_any is_option (word ∷ words) ≡ false → list_any is_option words ≡ false
others_plain word words none = (neither (is_option word) (list_any is_option words) none).1

-- two parts of words without options have none
pub split_none : (words more : List Text) → list_any is_option (words ++ more) ≡ false → (list_any is_option words ≡ false) × (list_any is_option more ≡ false)
split_none [] more none = (refl, none)
split_none (word ∷ words) more none =
    let parts = neither (is_option word) (list_any is_option (words ++ more)) none in
    let later = split_none words more parts.1 in
    (ap₂ (λ (s t : Bool). s || t) parts.0 later.0, later.1)

-- ---- kinds of faults

pub first_empty : (a b : Kinds) → or_else a b ≡ [] → a ≡ []
first_empty [] b e = refl
first_empty (k ∷ ks) b e = e

pub second_empty : (a b : Kinds) → or_else a b ≡ [] → b ≡ []
second_empty [] b e = e
second_empty (k ∷ ks) b e = absurd cc

-- ---- a word for a positional

-- the walk is at no flag, no subcommand and no option that waits for a value
pub record IsFree (w : Walk) : Type 0 where
  pub trailing : w.is_trailing ≡ false
  pub stopped : w.stopped ≡ None
  pub waiting : (c : List Rule) (word : Text) → plain_word c w.waiting word w.held ≡ (w.held, value)

-- the walk after a word that went to its positional
abbrev pub taken : List Rule → Walk → Text → Walk
taken c w word = to_positional c (arg_by_index c w.position) word w w.held

pub is_value : (c : List Rule) (names : Names) (w : Walk) (word : Text) → IsFree w → IsPlain word → subcommand_met names w.waiting word ≡ None
    → word_met c names w.is_trailing w.waiting w.position word w.held ≡ (w.held, value)
is_value c names w word free is none = rw (free.trailing, none, is.other, is.long, is.short) (free.waiting c word)

pub walked_on : (c : List Rule) (names : Names) (w : Walk) (word : Text) → IsFree w → IsPlain word → subcommand_met names w.waiting word ≡ None
    → walked c names w word ≡ taken c w word
unfolding walked
walked_on c names w word free is none =
    ap (λ (o : Option (Text × List Text)). walked_from c names o w word) free.stopped
    ∙ ap (λ (met : Held × Step). after_step c word w met.0 met.1) (is_value c names w word free is none)

word_passes_on : (s : Shape) (names : Names) (w : Walk) (word : Text) → IsFree w → IsPlain word → subcommand_met names w.waiting word ≡ None
    → word_passes s names w.is_trailing w.waiting word w.held ≡ true
word_passes_on s names w word free is none = rw (free.trailing, none, is.other, is.long, is.short) refl

pub turn_passes_on : (s : Shape) (names : Names) (w : Walk) (word : Text) → IsFree w → IsPlain word → subcommand_met names w.waiting word ≡ None
    → step_passes s w.position w.held value ≡ true → turn_passes s names w word ≡ true
turn_passes_on s names w word free is none step =
    let met = word_met s.rules names w.is_trailing w.waiting w.position word w.held in
    ap (λ (o : Option (Text × List Text)). is_some o || (word_passes s names w.is_trailing w.waiting word w.held && step_passes s w.position met.0 met.1)) free.stopped
    ∙ ap₂ (λ (t : Bool) (m : Held × Step). t && step_passes s w.position m.0 m.1) (word_passes_on s names w word free is none) (is_value s.rules names w word free is none)
    ∙ step

-- a turn without a fault has none where the word goes
pub step_is_faultless : (s : Shape) (names : Names) (w : Walk) (word : Text) → IsFree w → IsPlain word → subcommand_met names w.waiting word ≡ None
    → turn_fault s names w word ≡ [] → step_fault s w.position w.held value ≡ []
step_is_faultless s names w word free is none faultless =
    let met = word_met s.rules names w.is_trailing w.waiting w.position word w.held in
    let both = or_else (word_fault s names w.is_trailing w.waiting word w.held) (step_fault s w.position met.0 met.1) in
    sym (ap (λ (m : Held × Step). step_fault s w.position m.0 m.1) (is_value s.rules names w word free is none))
    ∙ second_empty _ _ (sym (ap (λ (o : Option (Text × List Text)). if is_some o then [] else both) free.stopped) ∙ faultless)

-- ---- after a subcommand

-- the walk that stopped at a subcommand, with the words after it
abbrev pub stopped_at : Text → List Text → Walk
stopped_at name words = record { held = nothing_held; waiting = idle; position = 1; is_trailing = false; stopped = Some (name, words) }

pub stopped_walk : (c : List Rule) (names : Names) (name : Text) (before words : List Text) → fold (walked c names) (stopped_at name before) words ≡ stopped_at name (before ++ words)
unfolding walked
stopped_walk c names name before [] = ap (stopped_at name) (sym (append-nil before))
stopped_walk c names name before (word ∷ words) = stopped_walk c names name (before ++ word ∷ []) words ∙ ap (stopped_at name) (append_assoc before (word ∷ []) words)

pub stopped_passes : (s : Shape) (names : Names) (name : Text) (before words : List Text) → walk_passes s names (stopped_at name before) words ≡ true
unfolding walked walk_passes
stopped_passes s names name before [] = refl
stopped_passes s names name before (word ∷ words) = stopped_passes s names name (before ++ word ∷ []) words
