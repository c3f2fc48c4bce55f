-- The last of the entries, and a copy of all of them, one by one.
use Rattle.std.proofs.Common.{◌≡◌, ℕ, suc, ◌≤◌, ◌+◌, Bool, true, false, [], ◌∷◌, ◌++◌, length, None, refl, sym, ap, ◌∙◌, subst, arith, append_assoc}
use Rattle.std.specs.Prelude.{nat_eq}
use Rattle.std.specs.Map.{lookup, lookup_entry, remove_entry}
use Rattle.std.proofs.lemmas.Bool.Decides.{nat_tests}
use Rattle.lru.specs.LruCache.{LruCache, demoted, put_entries}
use Rattle.guild_model.specs.declared.message.MessageHead.{MessageHead}
use Rattle.guild_model.specs.Heads.{IsIndex}
use Rattle.guild_model.proofs.Arrivals.{Entries, no_entry, take_all}

-- ---- the last of the entries

pub left_last : (bs : Entries) (e : ℕ × MessageHead) → lookup (nat_eq e.0) bs ≡ None → remove_entry (nat_eq e.0) (bs ++ e ∷ []) ≡ bs
left_last [] e none = grind (arith, nat_tests)
left_last (b ∷ bs) e none = grind (arith, nat_tests, left_last bs e)

missed : (test : ℕ → Bool) (xs ys : Entries) (e : ℕ × MessageHead) → lookup test (xs ++ e ∷ ys) ≡ None → test e.0 ≡ false
missed test [] ys e none = grind arith
missed test (x ∷ xs) ys e none = grind (arith, missed test xs ys e)

pub none_before : (xs ys : Entries) (e : ℕ × MessageHead) → IsIndex (xs ++ e ∷ ys) → lookup (nat_eq e.0) xs ≡ None
none_before [] ys e h = refl
none_before (x ∷ xs) ys e h =
    let other : nat_eq x.0 e.0 ≡ false = missed (nat_eq x.0) xs ys e h.1 in
    let rest : lookup (nat_eq e.0) xs ≡ None = none_before xs ys e h.2 in
    let turned_round : nat_eq e.0 x.0 ≡ false = grind (arith, nat_tests) in
    rw turned_round rest

-- ---- a copy, one by one

length_joined : (xs ys : Entries) → length (xs ++ ys) ≡ length xs + length ys
length_joined [] ys = omega arith
length_joined (x ∷ xs) ys = let e = length_joined xs ys in omega (arith, e)

demoted_first : (es : Entries) (e : ℕ × MessageHead) → demoted (nat_eq e.0) (e ∷ es) ≡ es ++ e ∷ []
demoted_first es e = by_test (nat_eq e.0 e.0) (grind (arith, nat_tests)) refl
  where
    by_test : (b : Bool) → b ≡ true → nat_eq e.0 e.0 ≡ b → demoted (nat_eq e.0) (e ∷ es) ≡ es ++ e ∷ []
    by_test true so is = rw is refl
    by_test false so is = absurd (cc)

pub copied_one : (copy : LruCache ℕ MessageHead) (rest es : Entries) (e : ℕ × MessageHead) → IsIndex es → length es ≤ 16384 → copy.cap ≡ 16384 → copy.entries ++ e ∷ rest ≡ es
    → demoted (nat_eq e.0) (put_entries nat_eq copy e.0 e.1) ++ rest ≡ es
copied_one copy rest es e h le room is =
    let index : IsIndex (copy.entries ++ e ∷ rest) = subst IsIndex (sym is) h in
    let none : lookup_entry (nat_eq e.0) copy.entries ≡ None = no_entry (nat_eq e.0) copy.entries (none_before copy.entries rest e index) in
    let count : length es ≡ length copy.entries + suc (length rest) = sym (ap length is) ∙ length_joined copy.entries (e ∷ rest) in
    let fits : length copy.entries ≤ 16383 = omega (arith, count, le) in
    let put : put_entries nat_eq copy e.0 e.1 ≡ e ∷ copy.entries = rw (none, room, take_all 16383 copy.entries fits) refl in
    ap (λ (xs : Entries). demoted (nat_eq e.0) xs ++ rest) put ∙ (ap (λ xs. xs ++ rest) (demoted_first copy.entries e) ∙ (append_assoc copy.entries (e ∷ []) rest ∙ is))
