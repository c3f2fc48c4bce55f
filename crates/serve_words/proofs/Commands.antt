-- What `clap` makes of words is what the grammar makes of them.
use Rattle.std.proofs.Common.{◌≡◌, ◌∙◌, Bool, true, false, List, [], ◌∷◌, None, refl, sym, ap, subst, codes}
use Rattle.std.specs.List.{list_any}
use Rattle.std.specs.Str.{bytes_eq}
use Rattle.std.proofs.lemmas.Bool.Decides.{not_from_Decides}
use Rattle.std.proofs.lemmas.Slice.Eq.{bytes_eq-Decides}
use Rattle.clap.specs.Faults.{fault_of}
use Rattle.clap.specs.Simple.{Shape, subcommand_of}
use Rattle.clap.specs.Takes.{takes}
use Rattle.clap.specs.Walk.{finished, Text, Walk, idle, subcommand_met}
use Rattle.serve_words.specs.Words.{is_option, named_words, run_words, load_words, client_words, lift_words}
use Rattle.serve_words.specs.Grammar.{gate, found_in, file_in, seed_in, client_in, lift_in}
use Rattle.serve_words.proofs.Walks.{IsPlain, at_start, first_plain, others_plain}
use Rattle.serve_words.proofs.Subcommands.{run_is, load_is, client_is, lift_is, names, shape_by, found_by, IsTaken, rows_are, is_taken, is_faultless, named_first}
use Rattle.serve_words.proofs.Singles.{GoEach, ready, walk_is, are_taken, no_fewer, no_more}
use Rattle.serve_words.proofs.Serve.{serve_word, serve_found, serve_refused}

abbrev run_word : Text
run_word = codes "run"

abbrev load_word : Text
load_word = codes "load"

abbrev client_word : Text
client_word = codes "client"

abbrev lift_word : Text
lift_word = codes "lift"

-- ---- `run`

abbrev run_shape : Shape
run_shape = shape_by run_word

file_goes : (file : Text) → GoEach run_shape at_start (file ∷ [])
file_goes file = (ready _ refl refl refl, refl, tt)

run_found : (words : List Text) → list_any is_option words ≡ false → fault_of gate (run_word ∷ words) ≡ [] → found_by run_word words ≡ run_words words
run_found [] none faultless = absurd (no_fewer run_shape [] none tt refl (is_faultless run_word _ run_is [] faultless))
run_found (file ∷ []) none faultless =
    ap (found_in (run_word ∷ file ∷ [])) (rows_are run_word _ run_is (file ∷ []))
    ∙ ap (λ (w : Walk). file_in (finished run_shape.rules w.held)) (walk_is run_shape (file ∷ []) none (file_goes file))
run_found (file ∷ more ∷ words) none faultless =
    absurd (no_more run_shape (file ∷ []) more words none (file_goes file) (ready _ refl refl refl) refl (is_faultless run_word _ run_is (file ∷ more ∷ words) faultless))

run_refused : (words : List Text) → list_any is_option words ≡ false → (IsTaken run_word words → ⊥) → run_words words ≡ None
run_refused [] none refused = refl
run_refused (file ∷ []) none refused = absurd (refused (is_taken run_word _ run_is (file ∷ []) (are_taken run_shape (file ∷ []) none (file_goes file) refl)))
run_refused (file ∷ more ∷ words) none refused = refl

-- ---- `load`

abbrev load_shape : Shape
load_shape = shape_by load_word

seed_goes : (seed : Text) → GoEach load_shape at_start (seed ∷ [])
seed_goes seed = (ready _ refl refl refl, refl, tt)

load_found : (words : List Text) → list_any is_option words ≡ false → fault_of gate (load_word ∷ words) ≡ [] → found_by load_word words ≡ load_words words
load_found [] none faultless = absurd (no_fewer load_shape [] none tt refl (is_faultless load_word _ load_is [] faultless))
load_found (seed ∷ []) none faultless =
    ap (found_in (load_word ∷ seed ∷ [])) (rows_are load_word _ load_is (seed ∷ []))
    ∙ ap (λ (w : Walk). seed_in (finished load_shape.rules w.held)) (walk_is load_shape (seed ∷ []) none (seed_goes seed))
load_found (seed ∷ more ∷ words) none faultless =
    absurd (no_more load_shape (seed ∷ []) more words none (seed_goes seed) (ready _ refl refl refl) refl (is_faultless load_word _ load_is (seed ∷ more ∷ words) faultless))

load_refused : (words : List Text) → list_any is_option words ≡ false → (IsTaken load_word words → ⊥) → load_words words ≡ None
load_refused [] none refused = refl
load_refused (seed ∷ []) none refused = absurd (refused (is_taken load_word _ load_is (seed ∷ []) (are_taken load_shape (seed ∷ []) none (seed_goes seed) refl)))
load_refused (seed ∷ more ∷ words) none refused = refl

-- ---- `client`

abbrev client_shape : Shape
client_shape = shape_by client_word

abbrev four : (url token intents count : Text) → List Text
four url token intents count = url ∷ token ∷ intents ∷ count ∷ []

all_go : (url token intents count : Text) → GoEach client_shape at_start (four url token intents count)
all_go url token intents count =
    (ready _ refl refl refl, refl, (ready _ refl refl refl, refl, (ready _ refl refl refl, refl, (ready _ refl refl refl, refl, tt))))

client_found : (words : List Text) → list_any is_option words ≡ false → fault_of gate (client_word ∷ words) ≡ [] → found_by client_word words ≡ client_words words
client_found [] none faultless = absurd (no_fewer client_shape [] none tt refl (is_faultless client_word _ client_is [] faultless))
client_found (url ∷ []) none faultless =
    absurd (no_fewer client_shape (url ∷ []) none (ready _ refl refl refl, refl, tt) refl (is_faultless client_word _ client_is (url ∷ []) faultless))
client_found (url ∷ token ∷ []) none faultless =
    absurd (no_fewer client_shape (url ∷ token ∷ []) none (ready _ refl refl refl, refl, (ready _ refl refl refl, refl, tt)) refl
    (is_faultless client_word _ client_is (url ∷ token ∷ []) faultless))
client_found (url ∷ token ∷ intents ∷ []) none faultless =
    absurd (no_fewer client_shape (url ∷ token ∷ intents ∷ []) none (ready _ refl refl refl, refl, (ready _ refl refl refl, refl, (ready _ refl refl refl, refl, tt))) refl
    (is_faultless client_word _ client_is (url ∷ token ∷ intents ∷ []) faultless))
client_found (url ∷ token ∷ intents ∷ count ∷ []) none faultless =
    let words = four url token intents count in
    ap (found_in (client_word ∷ words)) (rows_are client_word _ client_is words)
    ∙ ap (λ (w : Walk). client_in (finished client_shape.rules w.held)) (walk_is client_shape words none (all_go url token intents count))
client_found (url ∷ token ∷ intents ∷ count ∷ more ∷ words) none faultless =
    absurd (no_more client_shape (four url token intents count) more words none (all_go url token intents count) (ready _ refl refl refl) refl
    (is_faultless client_word _ client_is (url ∷ token ∷ intents ∷ count ∷ more ∷ words) faultless))

client_refused : (words : List Text) → list_any is_option words ≡ false → (IsTaken client_word words → ⊥) → client_words words ≡ None
client_refused [] none refused = refl
client_refused (url ∷ []) none refused = refl
client_refused (url ∷ token ∷ []) none refused = refl
client_refused (url ∷ token ∷ intents ∷ []) none refused = refl
client_refused (url ∷ token ∷ intents ∷ count ∷ []) none refused =
    let words = four url token intents count in
    absurd (refused (is_taken client_word _ client_is words (are_taken client_shape words none (all_go url token intents count) refl)))
client_refused (url ∷ token ∷ intents ∷ count ∷ more ∷ words) none refused = refl

-- ---- `lift`

abbrev lift_shape : Shape
lift_shape = shape_by lift_word

lifted_goes : (file : Text) → GoEach lift_shape at_start (file ∷ [])
lifted_goes file = (ready _ refl refl refl, refl, tt)

lift_found : (words : List Text) → list_any is_option words ≡ false → fault_of gate (lift_word ∷ words) ≡ [] → found_by lift_word words ≡ lift_words words
lift_found [] none faultless = absurd (no_fewer lift_shape [] none tt refl (is_faultless lift_word _ lift_is [] faultless))
lift_found (file ∷ []) none faultless =
    ap (found_in (lift_word ∷ file ∷ [])) (rows_are lift_word _ lift_is (file ∷ []))
    ∙ ap (λ (w : Walk). lift_in (finished lift_shape.rules w.held)) (walk_is lift_shape (file ∷ []) none (lifted_goes file))
lift_found (file ∷ more ∷ words) none faultless =
    absurd (no_more lift_shape (file ∷ []) more words none (lifted_goes file) (ready _ refl refl refl) refl (is_faultless lift_word _ lift_is (file ∷ more ∷ words) faultless))

lift_refused : (words : List Text) → list_any is_option words ≡ false → (IsTaken lift_word words → ⊥) → lift_words words ≡ None
lift_refused [] none refused = refl
lift_refused (file ∷ []) none refused = absurd (refused (is_taken lift_word _ lift_is (file ∷ []) (are_taken lift_shape (file ∷ []) none (lifted_goes file) refl)))
lift_refused (file ∷ more ∷ words) none refused = refl

-- ---- the first word

-- a word that names none of the five
not_named : (word : Text) → bytes_eq run_word word ≡ false → bytes_eq load_word word ≡ false → bytes_eq serve_word word ≡ false → bytes_eq client_word word ≡ false → bytes_eq lift_word word ≡ false → subcommand_met names idle word ≡ None
not_named word not_run not_load not_serve not_client not_lift = rw (not_run, not_load, not_serve, not_client, not_lift) refl

differs : (a b : Text) → bytes_eq a b ≡ false → bytes_eq b a ≡ false
differs a b e = by_test (bytes_eq b a) refl
  where
    by_test : (t : Bool) → bytes_eq b a ≡ t → bytes_eq b a ≡ false
    by_test false same = same
    by_test true same = absurd (not_from_Decides _ (bytes_eq-Decides a b) e (sym ((bytes_eq-Decides b a).0 same)))

-- what holds of words that begin with each of the five names, and of those that begin with none
module _ (P : Text → Type 0) where
  by_name : (name : Text) → P run_word → P load_word → P serve_word → P client_word → P lift_word
      → (bytes_eq name run_word ≡ false → bytes_eq name load_word ≡ false → bytes_eq name serve_word ≡ false → bytes_eq name client_word ≡ false → bytes_eq name lift_word ≡ false → P name) → P name
  by_name name of_run of_load of_serve of_client of_lift other = by_run (bytes_eq name run_word) refl
    where
      is : (word : Text) → P word → bytes_eq name word ≡ true → P name
      is word holds same = subst P (sym ((bytes_eq-Decides name word).0 same)) holds

      by_lift : bytes_eq name run_word ≡ false → bytes_eq name load_word ≡ false → bytes_eq name serve_word ≡ false → bytes_eq name client_word ≡ false → (t : Bool) → bytes_eq name lift_word ≡ t → P name
      by_lift not_run not_load not_serve not_client true same = is lift_word of_lift same
      by_lift not_run not_load not_serve not_client false not_lift = other not_run not_load not_serve not_client not_lift

      by_client : bytes_eq name run_word ≡ false → bytes_eq name load_word ≡ false → bytes_eq name serve_word ≡ false → (t : Bool) → bytes_eq name client_word ≡ t → P name
      by_client not_run not_load not_serve true same = is client_word of_client same
      by_client not_run not_load not_serve false not_client = by_lift not_run not_load not_serve not_client (bytes_eq name lift_word) refl

      by_serve : bytes_eq name run_word ≡ false → bytes_eq name load_word ≡ false → (t : Bool) → bytes_eq name serve_word ≡ t → P name
      by_serve not_run not_load true same = is serve_word of_serve same
      by_serve not_run not_load false not_serve = by_client not_run not_load not_serve (bytes_eq name client_word) refl

      by_load : bytes_eq name run_word ≡ false → (t : Bool) → bytes_eq name load_word ≡ t → P name
      by_load not_run true same = is load_word of_load same
      by_load not_run false not_load = by_serve not_run not_load (bytes_eq name serve_word) refl

      by_run : (t : Bool) → bytes_eq name run_word ≡ t → P name
      by_run true same = is run_word of_run same
      by_run false not_run = by_load not_run (bytes_eq name load_word) refl

-- ---- what is found, and what is taken

-- what is found is what is asked for
pub found_all : (words : List Text) → list_any is_option words ≡ false → fault_of gate words ≡ [] → found_in words (subcommand_of gate words) ≡ named_words words
found_all [] none faultless = refl
found_all (name ∷ words) none faultless =
    let later = others_plain name words none in
    by_name (λ (name : Text). IsPlain name → fault_of gate (name ∷ words) ≡ [] → found_by name words ≡ named_words (name ∷ words)) name
    (λ is. run_found words later) (λ is. load_found words later) (λ is. serve_found words later) (λ is. client_found words later) (λ is. lift_found words later)
    (λ not_run not_load not_serve not_client not_lift is faultless. absurd (named_first name words is
    (not_named name (differs name run_word not_run) (differs name load_word not_load) (differs name serve_word not_serve) (differs name client_word not_client) (differs name lift_word not_lift)) faultless))
    (first_plain name words none) faultless

-- what `clap` refuses is not in the grammar
pub refused_all : (words : List Text) → list_any is_option words ≡ false → (takes gate words ≡ true → ⊥) → named_words words ≡ None
refused_all [] none refused = refl
refused_all (name ∷ words) none refused =
    let later = others_plain name words none in
    by_name (λ (name : Text). (IsTaken name words → ⊥) → named_words (name ∷ words) ≡ None) name
    (run_refused words later) (load_refused words later) (serve_refused words later) (client_refused words later) (lift_refused words later)
    (λ not_run not_load not_serve not_client not_lift refused. rw (not_run, not_load, not_serve, not_client, not_lift) refl)
    refused
