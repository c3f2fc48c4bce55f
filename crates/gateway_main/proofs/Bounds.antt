-- What the grammar says of the numbers of `serve`.
use Rattle.std.proofs.Common.{◌≡◌, ℕ, ◌≤◌, List, [], ◌∷◌, length, Bool, true, false, ◌&&◌, nat_le, Option, Some, None, if◌then◌else◌, option_map, codes, refl, subst, arith}
use Rattle.std.proofs.lemmas.Bool.Decides.{nat_tests}
use Rattle.std.specs.Prelude.{option_and_then}
use Rattle.std.specs.List.{list_any}
use Rattle.std.specs.Str.{bytes_eq}
use Rattle.serve_words.specs.Words.{Asked, load, serve, is_option, number_of, number_to, url_of, token_of, intents_of, served, followed, run_words, load_words, serve_words, client_words, lift_words, named_words, command_of}

-- the bounds of what `serve` asks for
pub record AreBounded (port workers : ℕ) (files : List (List ℕ)) : Type 0 where
  pub port_most : port ≤ 65532
  pub workers_least : 1 ≤ workers
  pub workers_most : workers ≤ 4
  pub files_least : 1 ≤ length files
  pub files_most : length files ≤ 12

-- a number from 1 to `most`
record IsTo (most n : ℕ) : Type 0 where
  least : 1 ≤ n
  within : n ≤ most

tested : (a b : Bool) → (a && b) ≡ true → (a ≡ true) × (b ≡ true)
tested true true e = (refl, refl)
tested true false e = absurd cc
tested false b e = absurd cc

is_to : (most : ℕ) (word : List ℕ) (n : ℕ) → number_to most word ≡ Some n → IsTo most n
is_to most word n e = by_number (number_of word) e
  where
    by_test : (m : ℕ) (b : Bool) → (nat_le 1 m && nat_le m most) ≡ b → (if b then Some m else None) ≡ Some n → IsTo most n
    by_test m false t e = absurd cc
    by_test m true t e =
        let both = tested (nat_le 1 m) (nat_le m most) t in
        let same : m ≡ n = cc in
        subst (λ k. IsTo most k) same (record { least = grind (arith, nat_tests, both.0); within = grind (arith, nat_tests, both.1) })

    by_number : (found : Option ℕ) → option_and_then (λ m. if nat_le 1 m && nat_le m most then Some m else None) found ≡ Some n → IsTo most n
    by_number None e = absurd cc
    by_number (Some m) e = by_test m (nat_le 1 m && nat_le m most) refl e

module _ (port workers accepts : ℕ) (files : List (List ℕ)) where
  abbrev Is : Option Asked → Type 0
  Is found = found ≡ Some (serve port workers accepts files)

  of_run : (words : List (List ℕ)) → Is (run_words words) → ⊥
  of_run [] e = absurd cc
  of_run (file ∷ []) e = absurd cc
  of_run (file ∷ more ∷ words) e = absurd cc

  of_lift : (words : List (List ℕ)) → Is (lift_words words) → ⊥
  of_lift [] e = absurd cc
  of_lift (file ∷ []) e = absurd cc
  of_lift (file ∷ more ∷ words) e = absurd cc

  of_seed : (seed : Option ℕ) → Is (option_map load seed) → ⊥
  of_seed None e = absurd cc
  of_seed (Some n) e = absurd cc

  of_load : (words : List (List ℕ)) → Is (load_words words) → ⊥
  of_load [] e = absurd cc
  of_load (seed ∷ []) e = of_seed (number_of seed) e
  of_load (seed ∷ more ∷ words) e = absurd cc

  of_served : (p w a : Option ℕ) (fs : List (List ℕ)) → Is (served p w a fs) → (p ≡ Some port) × ((w ≡ Some workers) × (fs ≡ files))
  of_served None w a fs e = absurd cc
  of_served (Some p) None a fs e = absurd cc
  of_served (Some p) (Some w) None fs e = absurd cc
  of_served (Some p) (Some w) (Some a) fs e = (cc, (cc, cc))

  of_serve : (words : List (List ℕ)) → Is (serve_words words) → AreBounded port workers files
  of_serve [] e = absurd cc
  of_serve (p ∷ []) e = absurd cc
  of_serve (p ∷ w ∷ []) e = absurd cc
  of_serve (p ∷ w ∷ a ∷ fs) e = by_test (nat_le 1 (length fs) && nat_le (length fs) 12) refl e
    where
      by_test : (b : Bool) → (nat_le 1 (length fs) && nat_le (length fs) 12) ≡ b → Is (if b then served (number_to 65532 p) (number_to 4 w) (number_to 1000000 a) fs else None) → AreBounded port workers files
      by_test false t e = absurd cc
      by_test true t e =
          let both = tested (nat_le 1 (length fs)) (nat_le (length fs) 12) t in
          let are = of_served (number_to 65532 p) (number_to 4 w) (number_to 1000000 a) fs e in
          let at_port = is_to 65532 p port are.0 in
          let of_workers = is_to 4 w workers are.1.0 in
          subst (λ fs. AreBounded port workers fs) are.1.1 (record {
            port_most = at_port.within;
            workers_least = of_workers.least;
            workers_most = of_workers.within;
            files_least = grind (arith, nat_tests, both.0);
            files_most = grind (arith, nat_tests, both.1);
          })

  of_followed : (url token : Option (List ℕ)) (intents count : Option ℕ) → Is (followed url token intents count) → ⊥
  of_followed None token intents count e = absurd cc
  of_followed (Some url) None intents count e = absurd cc
  of_followed (Some url) (Some token) None count e = absurd cc
  of_followed (Some url) (Some token) (Some intents) None e = absurd cc
  of_followed (Some url) (Some token) (Some intents) (Some count) e = absurd cc

  of_client : (words : List (List ℕ)) → Is (client_words words) → ⊥
  of_client [] e = absurd cc
  of_client (url ∷ []) e = absurd cc
  of_client (url ∷ token ∷ []) e = absurd cc
  of_client (url ∷ token ∷ intents ∷ []) e = absurd cc
  of_client (url ∷ token ∷ intents ∷ count ∷ []) e = of_followed (url_of url) (token_of token) (intents_of intents) (number_to 1000000 count) e
  of_client (url ∷ token ∷ intents ∷ count ∷ more ∷ words) e = absurd cc

  of_names : (words : List (List ℕ)) → Is (named_words words) → AreBounded port workers files
  of_names [] e = absurd cc
  of_names (name ∷ words) e =
      by_tests (bytes_eq name (codes "run")) (bytes_eq name (codes "load")) (bytes_eq name (codes "serve")) (bytes_eq name (codes "client")) (bytes_eq name (codes "lift")) e
    where
      by_tests : (a b c d f : Bool)
          → Is (if a then run_words words else (if b then load_words words else (if c then serve_words words else (if d then client_words words else (if f then lift_words words else None)))))
          → AreBounded port workers files
      by_tests true b c d f e = absurd (of_run words e)
      by_tests false true c d f e = absurd (of_load words e)
      by_tests false false true d f e = of_serve words e
      by_tests false false false true f e = absurd (of_client words e)
      by_tests false false false false true e = absurd (of_lift words e)
      by_tests false false false false false e = absurd cc

  pub are_bounded : (words : List (List ℕ)) → Is (command_of words) → AreBounded port workers files
  are_bounded words e = by_option (list_any is_option words) e
    where
      by_option : (b : Bool) → Is (if b then None else named_words words) → AreBounded port workers files
      by_option true e = absurd cc
      by_option false e = of_names words e
