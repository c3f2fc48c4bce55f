-- The longest suffix within two limits.
use Rattle.std.proofs.Common.{◌≡◌, ℕ, ◌+◌, ◌-◌, ◌<◌, ◌≤◌, Bool, true, false, List, [], ◌∷◌, ◌++◌, length, drop, refl, sym, ap, ◌∙◌, arith, length-append, append_assoc, append-nil, suc, inl, inr, ◌⊎◌}
use Rattle.std.specs.Prelude.{sum_by, slice_get, Some, if◌then◌else◌}
use Rattle.std.proofs.lemmas.Bool.{cases_lt, false≢true}
use Rattle.std.proofs.lemmas.Bool.Decides.{nat_tests}
use Rattle.std.proofs.lemmas.List.{drop-drop}
use Rattle.std.proofs.lemmas.List.Sums.{sum_by-append, sum_by-cons}
use Rattle.circular_buffer.specs.Buffer.{keep_last}
use Rattle.replay_ring.specs.Replay.{is_within, longest_suffix, IsLongestSuffix, fresh, pushed, pushed_all, replay_of, texts_after}

-- one more text at the end takes one place and its bytes
is_within-push : (i b : ℕ) (t : List ℕ) (xs : List (List ℕ)) → 0 < i → length t ≤ b → is_within i b (xs ++ t ∷ []) ≡ is_within (i - 1) (b - length t) xs
unfolding is_within
is_within-push i b t xs room fits =
    grind (arith, nat_tests, length-append xs (t ∷ []), sum_by-append length xs (t ∷ []), sum_by-cons length t [])

is_within-none : (i b : ℕ) → is_within i b [] ≡ true
unfolding is_within
is_within-none i b = grind (arith, nat_tests)

-- a list that is past a limit stays so with more at its end
is_within-more : (i b : ℕ) (xs ys : List (List ℕ)) → is_within i b xs ≡ false → is_within i b (xs ++ ys) ≡ false
unfolding is_within
is_within-more i b xs ys past =
    grind (arith, nat_tests, past, length-append xs ys, sum_by-append length xs ys)

is_within-long : (i b : ℕ) (t : List ℕ) (xs : List (List ℕ)) → (b < length t) ⊎ (i ≡ 0) → is_within i b (xs ++ t ∷ []) ≡ false
unfolding is_within
is_within-long i b t xs (inl long) =
    grind (arith, nat_tests, sum_by-append length xs (t ∷ []), sum_by-cons length t [])
is_within-long i b t xs (inr none) =
    grind (arith, nat_tests, none, length-append xs (t ∷ []))

append_either : (c : Bool) (xs ys zs : List (List ℕ)) → (if c then xs ++ zs else (ys ++ zs)) ≡ (if c then xs else ys) ++ zs
append_either true xs ys zs = refl
append_either false xs ys zs = refl

-- a text that fits stays, after what then fits beside it
pub longest_suffix-push : (i b : ℕ) (t : List ℕ) (xs : List (List ℕ)) → 0 < i → length t ≤ b → longest_suffix i b (xs ++ t ∷ []) ≡ longest_suffix (i - 1) (b - length t) xs ++ t ∷ []
unfolding longest_suffix
longest_suffix-push i b t [] room fits =
    rw (is_within-push i b t [] room fits, is_within-none (i - 1) (b - length t)) refl
longest_suffix-push i b t (x ∷ xs) room fits =
    rw (is_within-push i b t (x ∷ xs) room fits, longest_suffix-push i b t xs room fits)
    (append_either (is_within (i - 1) (b - length t) (x ∷ xs)) (x ∷ xs) (longest_suffix (i - 1) (b - length t) xs) (t ∷ []))

-- a text that is too long by itself leaves nothing, nor does any where none may be held
pub longest_suffix-long : (i b : ℕ) (t : List ℕ) (xs : List (List ℕ)) → (b < length t) ⊎ (i ≡ 0) → longest_suffix i b (xs ++ t ∷ []) ≡ []
unfolding longest_suffix
longest_suffix-long i b t [] long = rw (is_within-long i b t [] long) refl
longest_suffix-long i b t (x ∷ xs) long = rw (is_within-long i b t (x ∷ xs) long) (longest_suffix-long i b t xs long)

again_either : (i b : ℕ) (x : List ℕ) (xs ys : List (List ℕ)) (c : Bool) → is_within i b (x ∷ xs) ≡ c → longest_suffix i b (longest_suffix i b xs ++ ys) ≡ longest_suffix i b (xs ++ ys) → longest_suffix i b ((if c then x ∷ xs else longest_suffix i b xs) ++ ys) ≡ longest_suffix i b (x ∷ (xs ++ ys))
unfolding longest_suffix
again_either i b x xs ys true fits later = refl
again_either i b x xs ys false past later = rw (is_within-more i b (x ∷ xs) ys past) later

-- what was dropped once is never held again
pub longest_suffix-again : (i b : ℕ) (xs ys : List (List ℕ)) → longest_suffix i b (longest_suffix i b xs ++ ys) ≡ longest_suffix i b (xs ++ ys)
unfolding longest_suffix
longest_suffix-again i b [] ys = refl
longest_suffix-again i b (x ∷ xs) ys =
    again_either i b x xs ys (is_within i b (x ∷ xs)) refl (longest_suffix-again i b xs ys)

-- a list within the limits stays whole
pub longest_suffix-all : (i b : ℕ) (xs : List (List ℕ)) → length xs ≤ i → sum_by length xs ≤ b → longest_suffix i b xs ≡ xs
unfolding longest_suffix
longest_suffix-all i b [] few short = refl
longest_suffix-all i b (x ∷ xs) few short =
    let fits : is_within i b (x ∷ xs) ≡ true = unfold is_within in grind (arith, nat_tests, few, short) in
    rw fits refl

-- the first text of a list that is past a limit goes
pub longest_suffix-past : (i b : ℕ) (xs : List (List ℕ)) → (i < length xs) ⊎ (b < sum_by length xs) → longest_suffix i b (drop 1 xs) ≡ longest_suffix i b xs
unfolding longest_suffix
longest_suffix-past i b [] past = refl
longest_suffix-past i b (x ∷ xs) past =
    let fails : is_within i b (x ∷ xs) ≡ false = unfold is_within in grind (arith, nat_tests, past) in
    rw fails refl

-- a longest suffix is within the limits, and it is what it is called
keep_last-cons : (n : ℕ) (x : List ℕ) (xs : List (List ℕ)) → n ≤ length xs → keep_last n (x ∷ xs) ≡ keep_last n xs
keep_last-cons n x xs few = let e : length (x ∷ xs) - n ≡ suc (length xs - n) = omega arith in rw e refl

keep_last-all : (xs : List (List ℕ)) → keep_last (length xs) xs ≡ xs
keep_last-all xs = let e : length xs - length xs ≡ 0 = omega arith in rw e refl

length_either : (i b : ℕ) (x : List ℕ) (xs : List (List ℕ)) (c : Bool) → length (longest_suffix i b xs) ≤ length xs → length (if c then x ∷ xs else longest_suffix i b xs) ≤ length (x ∷ xs)
length_either i b x xs true later = omega arith
length_either i b x xs false later = omega arith

pub length-longest_suffix : (i b : ℕ) (xs : List (List ℕ)) → length (longest_suffix i b xs) ≤ length xs
unfolding longest_suffix
length-longest_suffix i b [] = omega arith
length-longest_suffix i b (x ∷ xs) =
    length_either i b x xs (is_within i b (x ∷ xs)) (length-longest_suffix i b xs)

longest_either : (i b : ℕ) (x : List ℕ) (xs : List (List ℕ)) (c : Bool) → is_within i b (x ∷ xs) ≡ c → IsLongestSuffix i b xs (longest_suffix i b xs) → IsLongestSuffix i b (x ∷ xs) (if c then x ∷ xs else longest_suffix i b xs)
longest_either i b x xs true fits later = record {
  suffix = sym (keep_last-all (x ∷ xs));
  within = fits;
  longest = λ n more most. absurd (omega arith);
}
longest_either i b x xs false past later = record {
  suffix = later.suffix ∙ sym (keep_last-cons (length (longest_suffix i b xs)) x xs (length-longest_suffix i b xs));
  within = later.within;
  longest = λ n more most. elim (cases_lt n (length (x ∷ xs))) [
    | inl below ↦
        let few : n ≤ length xs = omega arith in
        rw (keep_last-cons n x xs few) (later.longest n more few)
    | inr whole ↦
        let all : n ≡ length (x ∷ xs) = omega arith in
        rw (all, keep_last-all (x ∷ xs), past) false≢true
  ];
}

pub longest_suffix-is_longest : (i b : ℕ) (texts : List (List ℕ)) → IsLongestSuffix i b texts (longest_suffix i b texts)
unfolding longest_suffix
longest_suffix-is_longest i b [] = record {
  suffix = refl;
  within = is_within-none i b;
  longest = λ n more most. absurd (omega arith);
}
longest_suffix-is_longest i b (x ∷ xs) =
    longest_either i b x xs (is_within i b (x ∷ xs)) refl (longest_suffix-is_longest i b xs)

-- a push on what is kept of some texts
pub pushed-replay_of : (i b : ℕ) (texts : List (List ℕ)) (t : List ℕ) → pushed (replay_of i b texts) t ≡ replay_of i b (texts ++ t ∷ [])
pushed-replay_of i b texts t = rw (longest_suffix-again i b texts (t ∷ []), length-append texts (t ∷ [])) refl

pushed_all-replay_of : (i b : ℕ) (before texts : List (List ℕ)) → pushed_all (replay_of i b before) texts ≡ replay_of i b (before ++ texts)
pushed_all-replay_of i b before [] = rw append-nil refl
pushed_all-replay_of i b before (t ∷ texts) =
    rw (pushed-replay_of i b before t, pushed_all-replay_of i b (before ++ t ∷ []) texts, append_assoc before (t ∷ []) texts)
    refl

-- after any pushes on a new buffer
pub pushed_all-fresh : (i b : ℕ) (texts : List (List ℕ)) → pushed_all (fresh i b) texts ≡ replay_of i b texts
unfolding longest_suffix
pushed_all-fresh i b texts = pushed_all-replay_of i b [] texts

-- the texts after a number that is covered
pub texts_after-replay_of : (i b : ℕ) (texts : List (List ℕ)) (q : ℕ) → length texts - length (longest_suffix i b texts) ≤ q → q ≤ length texts → texts_after (replay_of i b texts) q ≡ drop q texts
texts_after-replay_of i b texts q held past =
    let kept = longest_suffix i b texts in
    let few : length kept ≤ length texts = length-longest_suffix i b texts in
    let at : (length texts - length kept) + (length kept - (length texts - q)) ≡ q = omega arith in
    ap (λ xs. drop (length kept - (length texts - q)) xs) (longest_suffix-is_longest i b texts).suffix
    ∙ (drop-drop (length kept - (length texts - q)) (length texts - length kept) texts ∙ ap (λ k. drop k texts) at)

-- what a push leaves: one place and the text's bytes are made free, and then it is appended
is_within-few : (i b : ℕ) (xs : List (List ℕ)) → is_within i b xs ≡ true → length xs ≤ i
unfolding is_within
is_within-few i b xs fits = grind (arith, nat_tests, fits)

few_left : (n b : ℕ) (xs : List (List ℕ)) → 0 < n → length (longest_suffix (n - 1) b xs) < n
few_left n b xs room =
    omega (arith, is_within-few (n - 1) b (longest_suffix (n - 1) b xs) (longest_suffix-is_longest (n - 1) b xs).within)

is_within-short : (i b : ℕ) (xs : List (List ℕ)) → is_within i b xs ≡ true → sum_by length xs ≤ b
unfolding is_within
is_within-short i b xs fits = grind (arith, nat_tests, fits)

kept_all : (n b : ℕ) (t : List ℕ) (xs : List (List ℕ)) → 0 < n → keep_last n (longest_suffix (n - 1) b xs ++ t ∷ []) ≡ longest_suffix (n - 1) b xs ++ t ∷ []
kept_all n b t xs room =
    let none : length (longest_suffix (n - 1) b xs ++ t ∷ []) - n ≡ 0 =
    omega (arith, few_left n b xs room, length-append (longest_suffix (n - 1) b xs) (t ∷ [])) in
    rw none refl

-- a list that has a first text
pub sum_by-first : (xs : List (List ℕ)) (t : List ℕ) → slice_get xs 0 ≡ Some t → sum_by length xs ≡ length t + sum_by length (drop 1 xs)
sum_by-first [] t first = cc
sum_by-first (x ∷ xs) t first =
    let same : x ≡ t = cc in
    rw (← same) (sum_by-cons length x xs)

pub length-first : (xs : List (List ℕ)) (t : List ℕ) → slice_get xs 0 ≡ Some t → length xs ≡ suc (length (drop 1 xs))
length-first [] t first = cc
length-first (x ∷ xs) t first = refl

-- what the push of a text that fits leaves
pub record FitsBack (n b : ℕ) (t : List ℕ) (xs left : List (List ℕ)) : Type 0 where
  pub items : left ≡ longest_suffix n b (xs ++ t ∷ [])
  pub counted : sum_by length (longest_suffix (n - 1) (b - length t) xs) + length t ≡ sum_by length left
  pub within : sum_by length left ≤ b
  pub numbered : length left ≤ length xs + 1

pub fits_back : (n b : ℕ) (t : List ℕ) (xs : List (List ℕ)) → 0 < n → length t ≤ b → FitsBack n b t xs (keep_last n (longest_suffix (n - 1) (b - length t) xs ++ t ∷ []))
fits_back n b t xs room fits =
    let before = longest_suffix (n - 1) (b - length t) xs in
    let bytes : sum_by length (before ++ t ∷ []) ≡ sum_by length before + length t =
    rw (sum_by-append length before (t ∷ []), sum_by-cons length t []) (omega arith) in
    let count : length (before ++ t ∷ []) ≡ length before + 1 = length-append before (t ∷ []) in
    let short =
    is_within-short (n - 1) (b - length t) before (longest_suffix-is_longest (n - 1) (b - length t) xs).within in
    let few = length-longest_suffix (n - 1) (b - length t) xs in
    rw (kept_all n (b - length t) t xs room)
    (record {
      items = sym (longest_suffix-push n b t xs room fits);
      counted = sym bytes;
      within = omega (arith, bytes, short, fits);
      numbered = omega (arith, count, few);
    })
