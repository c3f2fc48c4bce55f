-- Messages as they are kept, under their ids and the newest first, and as the list that a clause sees.
use Rattle.std.proofs.Common.{◌≡◌, ℕ, zero, suc, ◌≤◌, ◌<◌, Bool, true, false, not, List, [], ◌∷◌, ◌++◌, take, drop, length, Some, None, if◌then◌else◌, refl, sym, ap, ◌∙◌, subst, arith}
use Rattle.std.specs.Prelude.{◌==◌, nat_eq, nat_lt, filter}
use Rattle.std.specs.Map.{lookup, lookup_entry, remove_entry, set_value}
use Rattle.std.proofs.lemmas.Bool.Decides.{nat_tests}
use Rattle.lru.specs.LruCache.{LruCache, lru_cache, put_entries}
use Rattle.collections.specs.ById.{changed_id, or_else}
use Rattle.collections.proofs.Mapped.{or_else-none}
use Rattle.guild_model.specs.declared.message.MessageHead.{MessageHead}
use Rattle.guild_model.specs.Heads.{head_id, find_head, arrived, without_head, arrivals, IsIndex, IsKept}

abbrev pub Entries : Type 0
Entries = List (ℕ × MessageHead)

-- ---- what one more message changes

find_more : (id : ℕ) (xs : List MessageHead) (h : MessageHead) → find_head id (xs ++ h ∷ []) ≡ or_else (find_head id xs) (if h.id == id then Some h else None)
find_more id [] h = refl
find_more id (x ∷ xs) h = grind (arith, nat_tests, find_more id xs h)

length_more : (h : MessageHead) (xs : List MessageHead) → length (xs ++ h ∷ []) ≡ suc (length xs)
length_more h [] = refl
length_more h (x ∷ xs) = ap suc (length_more h xs)

pub length_arrivals : (es : Entries) → length (arrivals es) ≡ length es
length_arrivals [] = refl
length_arrivals (e ∷ es) = length_more e.1 (arrivals es) ∙ ap suc (length_arrivals es)

pub filter_more : (p : MessageHead → Bool) (xs : List MessageHead) (h : MessageHead) → filter p (xs ++ h ∷ []) ≡ (if p h then filter p xs ++ h ∷ [] else filter p xs)
filter_more p [] h = refl
filter_more p (x ∷ xs) h = grind (arith, filter_more p xs h)

-- ---- a look-up

pub found_so : (id : ℕ) (es : Entries) → IsIndex es → lookup (nat_eq id) es ≡ find_head id (arrivals es)
found_so id [] h = refl
found_so id (e ∷ es) h = by_test (nat_eq id e.0) refl (found_so id es h.2)
  where
    by_test : (b : Bool) → nat_eq id e.0 ≡ b → lookup (nat_eq id) es ≡ find_head id (arrivals es) → (if b then Some e.1 else lookup (nat_eq id) es) ≡ find_head id (arrivals es ++ e.1 ∷ [])
    by_test true is rest =
        let same : id ≡ e.0 = grind (arith, nat_tests) in
        let none : find_head id (arrivals es) ≡ None = sym rest ∙ subst (λ (k : ℕ). lookup (nat_eq k) es ≡ None) (sym same) h.1 in
        let here : (e.1.id == id) ≡ true = grind (arith, nat_tests, h.0, same) in
        sym (find_more id (arrivals es) e.1 ∙ rw (none, here) refl)
    by_test false is rest =
        let other : (e.1.id == id) ≡ false = grind (arith, nat_tests, h.0) in
        rest ∙ sym (find_more id (arrivals es) e.1 ∙ rw other (or_else-none (find_head id (arrivals es))))

pub no_entry : (test : ℕ → Bool) (es : Entries) → lookup test es ≡ None → lookup_entry test es ≡ None
no_entry test [] e = refl
no_entry test (x ∷ es) e = by_test (test x.0) e (no_entry test es)
  where
    by_test : (b : Bool) → (if b then Some x.1 else lookup test es) ≡ None → (lookup test es ≡ None → lookup_entry test es ≡ None) → (if b then Some x else lookup_entry test es) ≡ None
    by_test true e rest = absurd (cc)
    by_test false e rest = rest e

-- ---- a message goes

without_more : (id : ℕ) (xs : List MessageHead) → find_head id xs ≡ None → without_head id xs ≡ xs
without_more id [] e = refl
without_more id (x ∷ xs) e = grind (arith, nat_tests, without_more id xs)

pub gone_so : (id : ℕ) (es : Entries) → IsIndex es → arrivals (remove_entry (nat_eq id) es) ≡ without_head id (arrivals es)
gone_so id [] h = refl
gone_so id (e ∷ es) h = by_test (nat_eq id e.0) refl (gone_so id es h.2)
  where
    others : MessageHead → Bool
    others m = not (head_id m == id)

    by_test : (b : Bool) → nat_eq id e.0 ≡ b → arrivals (remove_entry (nat_eq id) es) ≡ without_head id (arrivals es)
        → arrivals (if b then es else e ∷ remove_entry (nat_eq id) es) ≡ without_head id (arrivals es ++ e.1 ∷ [])
    by_test true is rest =
        let same : id ≡ e.0 = grind (arith, nat_tests) in
        let none : find_head id (arrivals es) ≡ None = sym (found_so id es h.2) ∙ subst (λ (k : ℕ). lookup (nat_eq k) es ≡ None) (sym same) h.1 in
        let here : others e.1 ≡ false = grind (arith, nat_tests, h.0, same) in
        sym (filter_more others (arrivals es) e.1 ∙ rw here (without_more id (arrivals es) none))
    by_test false is rest =
        let other : others e.1 ≡ true = grind (arith, nat_tests, h.0) in
        ap (λ xs. xs ++ e.1 ∷ []) rest ∙ sym (filter_more others (arrivals es) e.1 ∙ rw other refl)

none_gone : (test other : ℕ → Bool) (es : Entries) → lookup other es ≡ None → lookup other (remove_entry test es) ≡ None
none_gone test other [] e = refl
none_gone test other (x ∷ es) e = by_tests (test x.0) (other x.0) refl e (none_gone test other es)
  where
    by_tests : (b c : Bool) → other x.0 ≡ c → (if c then Some x.1 else lookup other es) ≡ None → (lookup other es ≡ None → lookup other (remove_entry test es) ≡ None)
        → lookup other (if b then es else x ∷ remove_entry test es) ≡ None
    by_tests b true is e rest = absurd (cc)
    by_tests true false is e rest = e
    by_tests false false is e rest = rw is (rest e)

pub index_left : (test : ℕ → Bool) (es : Entries) → IsIndex es → IsIndex (remove_entry test es)
index_left test [] h = tt
index_left test (e ∷ es) h = by_test (test e.0) (index_left test es h.2)
  where
    by_test : (b : Bool) → IsIndex (remove_entry test es) → IsIndex (if b then es else e ∷ remove_entry test es)
    by_test true rest = h.2
    by_test false rest = (h.0, none_gone test (nat_eq e.0) es h.1, rest)

pub fewer : (test : ℕ → Bool) (es : Entries) → length (remove_entry test es) ≤ length es
fewer test [] = omega arith
fewer test (e ∷ es) = grind (arith, fewer test es)

-- ---- a message comes

pub none_taken : (test : ℕ → Bool) (n : ℕ) (es : Entries) → lookup test es ≡ None → lookup test (take n es) ≡ None
none_taken test zero es e = refl
none_taken test (suc n) [] e = refl
none_taken test (suc n) (x ∷ es) e = by_test (test x.0) e (none_taken test n es)
  where
    by_test : (b : Bool) → (if b then Some x.1 else lookup test es) ≡ None → (lookup test es ≡ None → lookup test (take n es) ≡ None) → (if b then Some x.1 else lookup test (take n es)) ≡ None
    by_test true e rest = absurd (cc)
    by_test false e rest = rest e

pub index_taken : (n : ℕ) (es : Entries) → IsIndex es → IsIndex (take n es)
index_taken zero es h = tt
index_taken (suc n) [] h = tt
index_taken (suc n) (e ∷ es) h = (h.0, none_taken (nat_eq e.0) n es h.1, index_taken n es h.2)

drop_more : (xs : List MessageHead) (h : MessageHead) → 0 < length xs → drop 1 (xs ++ h ∷ []) ≡ drop 1 xs ++ h ∷ []
drop_more [] h lt = absurd (omega (arith, lt))
drop_more (x ∷ xs) h lt = refl

arrivals_taken : (n : ℕ) (es : Entries) → length es ≡ suc n → arrivals (take n es) ≡ drop 1 (arrivals es)
arrivals_taken n [] e = absurd (omega (arith, e))
arrivals_taken zero (x ∷ []) e = refl
arrivals_taken zero (x ∷ y ∷ es) e = absurd (omega (arith, e))
arrivals_taken (suc n) (x ∷ es) e =
    let shorter : length es ≡ suc n = omega (arith, e) in
    let some : 0 < length (arrivals es) = let l = length_arrivals es in omega (arith, l, shorter) in
    ap (λ xs. xs ++ x.1 ∷ []) (arrivals_taken n es shorter) ∙ sym (drop_more (arrivals es) x.1 some)

pub take_all : (n : ℕ) (es : Entries) → length es ≤ n → take n es ≡ es
take_all zero [] le = refl
take_all zero (e ∷ es) le = absurd (omega (arith, le))
take_all (suc n) [] le = refl
take_all (suc n) (e ∷ es) le = ap (λ xs. e ∷ xs) (take_all n es (omega (arith, le)))

length_taken : (n : ℕ) (es : Entries) → length (take n es) ≤ n
length_taken zero es = omega arith
length_taken (suc n) [] = omega arith
length_taken (suc n) (e ∷ es) = let le = length_taken n es in omega (arith, le)

came_so : (head : MessageHead) (es : Entries) → length es ≤ 16384 → arrivals ((head.id, head) ∷ take 16383 es) ≡ arrived head (arrivals es)
came_so head es le = by_test (nat_lt (length (arrivals es)) 16384) refl
  where
    by_test : (b : Bool) → nat_lt (length (arrivals es)) 16384 ≡ b → arrivals (take 16383 es) ++ head ∷ [] ≡ (if b then arrivals es else drop 1 (arrivals es)) ++ head ∷ []
    by_test true is =
        let below : length (arrivals es) < 16384 = grind (arith, nat_tests) in
        let l = length_arrivals es in
        ap (λ (es : Entries). arrivals es ++ head ∷ []) (take_all 16383 es (omega (arith, l, below)))
    by_test false is =
        let full : 16384 ≤ length (arrivals es) = grind (arith, nat_tests) in
        let l = length_arrivals es in
        ap (λ xs. xs ++ head ∷ []) (arrivals_taken 16383 es (omega (arith, l, full, le)))

-- ---- what each change of what is kept comes to

pub free_entry : (id : ℕ) (es : Entries) → IsIndex es → find_head id (arrivals es) ≡ None → lookup (nat_eq id) es ≡ None
free_entry id es h free = found_so id es h ∙ free

pub put_new : (c : LruCache ℕ MessageHead) (head : MessageHead) → IsKept c → find_head head.id (arrivals c.entries) ≡ None → put_entries nat_eq c head.id head ≡ (head.id, head) ∷ take 16383 c.entries
put_new c head k free = rw (no_entry (nat_eq head.id) c.entries (free_entry head.id c.entries k.index free), k.room) refl

pub came_as : (c : LruCache ℕ MessageHead) (head : MessageHead) → IsKept c → find_head head.id (arrivals c.entries) ≡ None → arrivals (put_entries nat_eq c head.id head) ≡ arrived head (arrivals c.entries)
came_as c head k free = rw (put_new c head k free) (came_so head c.entries k.few)

pub came_kept : (c : LruCache ℕ MessageHead) (head : MessageHead) → IsKept c → find_head head.id (arrivals c.entries) ≡ None → IsKept (lru_cache (put_entries nat_eq c head.id head) c.cap)
came_kept c head k free = rw (put_new c head k free) (record {
  index = (refl, none_taken (nat_eq head.id) 16383 c.entries (free_entry head.id c.entries k.index free), index_taken 16383 c.entries k.index);
  few = let le = length_taken 16383 c.entries in omega (arith, le);
  room = k.room;
})

pub gone_kept : (c : LruCache ℕ MessageHead) (id : ℕ) → IsKept c → IsKept (lru_cache (remove_entry (nat_eq id) c.entries) c.cap)
gone_kept c id k = record {
  index = index_left (nat_eq id) c.entries k.index;
  few = let le = fewer (nat_eq id) c.entries in omega (arith, le, k.few);
  room = k.room;
}

-- ---- a message is changed in its channel

none_set : (test other : ℕ → Bool) (w : MessageHead) (es : Entries) → lookup other es ≡ None → lookup other (set_value test es w) ≡ None
none_set test other w [] e = refl
none_set test other w (x ∷ es) e = by_tests (test x.0) (other x.0) refl e (none_set test other w es)
  where
    by_tests : (b c : Bool) → other x.0 ≡ c → (if c then Some x.1 else lookup other es) ≡ None → (lookup other es ≡ None → lookup other (set_value test es w) ≡ None)
        → lookup other (if b then (x.0, w) ∷ es else x ∷ set_value test es w) ≡ None
    by_tests b true is e rest = absurd (cc)
    by_tests true false is e rest = rw is e
    by_tests false false is e rest = rw is (rest e)

index_set : (id : ℕ) (w : MessageHead) (es : Entries) → w.id ≡ id → IsIndex es → IsIndex (set_value (nat_eq id) es w)
index_set id w [] same h = tt
index_set id w (e ∷ es) same h = by_test (nat_eq id e.0) refl (index_set id w es same h.2)
  where
    by_test : (b : Bool) → nat_eq id e.0 ≡ b → IsIndex (set_value (nat_eq id) es w) → IsIndex (if b then (e.0, w) ∷ es else e ∷ set_value (nat_eq id) es w)
    by_test true is rest = let at : id ≡ e.0 = grind (arith, nat_tests) in (same ∙ at, h.1, h.2)
    by_test false is rest = (h.0, none_set (nat_eq id) (nat_eq e.0) w es h.1, rest)

length_set : (test : ℕ → Bool) (w : MessageHead) (es : Entries) → length (set_value test es w) ≡ length es
length_set test w [] = refl
length_set test w (e ∷ es) = grind (arith, length_set test w es)

changed_more : (id : ℕ) (f : MessageHead → MessageHead) (xs : List MessageHead) (h : MessageHead) → find_head id xs ≡ None
    → changed_id head_id id f (xs ++ h ∷ []) ≡ xs ++ (if h.id == id then f h else h) ∷ []
changed_more id f [] h e = grind (arith, nat_tests)
changed_more id f (x ∷ xs) h e = grind (arith, nat_tests, changed_more id f xs h)

changed_before : (id : ℕ) (f : MessageHead → MessageHead) (xs : List MessageHead) (h : MessageHead) → (h.id == id) ≡ false
    → changed_id head_id id f (xs ++ h ∷ []) ≡ changed_id head_id id f xs ++ h ∷ []
changed_before id f [] h e = grind (arith, nat_tests)
changed_before id f (x ∷ xs) h e = grind (arith, nat_tests, changed_before id f xs h)

pub set_so : (id : ℕ) (f : MessageHead → MessageHead) (was : MessageHead) (es : Entries) → IsIndex es → lookup (nat_eq id) es ≡ Some was
    → arrivals (set_value (nat_eq id) es (f was)) ≡ changed_id head_id id f (arrivals es)
set_so id f was [] h e = absurd (cc)
set_so id f was (x ∷ es) h e = by_test (nat_eq id x.0) refl e (set_so id f was es h.2)
  where
    by_test : (b : Bool) → nat_eq id x.0 ≡ b → (if b then Some x.1 else lookup (nat_eq id) es) ≡ Some was
        → (lookup (nat_eq id) es ≡ Some was → arrivals (set_value (nat_eq id) es (f was)) ≡ changed_id head_id id f (arrivals es))
        → arrivals (if b then (x.0, f was) ∷ es else x ∷ set_value (nat_eq id) es (f was)) ≡ changed_id head_id id f (arrivals es ++ x.1 ∷ [])
    by_test true is e rest =
        let same : id ≡ x.0 = grind (arith, nat_tests) in
        let it : x.1 ≡ was = cc in
        let none : find_head id (arrivals es) ≡ None = sym (found_so id es h.2) ∙ subst (λ (k : ℕ). lookup (nat_eq k) es ≡ None) (sym same) h.1 in
        let here : (x.1.id == id) ≡ true = grind (arith, nat_tests, h.0, same) in
        sym (changed_more id f (arrivals es) x.1 none ∙ rw here (ap (λ (m : MessageHead). arrivals es ++ f m ∷ []) it))
    by_test false is e rest =
        let other : (x.1.id == id) ≡ false = grind (arith, nat_tests, h.0) in
        ap (λ xs. xs ++ x.1 ∷ []) (rest e) ∙ sym (changed_before id f (arrivals es) x.1 other)

pub set_kept : (c : LruCache ℕ MessageHead) (id : ℕ) (w : MessageHead) → w.id ≡ id → IsKept c → IsKept (lru_cache (set_value (nat_eq id) c.entries w) c.cap)
set_kept c id w same k = record {
  index = index_set id w c.entries same k.index;
  few = let e = length_set (nat_eq id) w c.entries in omega (arith, e, k.few);
  room = k.room;
}

pub its_id : (id : ℕ) (was : MessageHead) (es : Entries) → IsIndex es → lookup (nat_eq id) es ≡ Some was → was.id ≡ id
its_id id was [] h e = absurd (cc)
its_id id was (x ∷ es) h e = by_test (nat_eq id x.0) refl e (its_id id was es h.2)
  where
    by_test : (b : Bool) → nat_eq id x.0 ≡ b → (if b then Some x.1 else lookup (nat_eq id) es) ≡ Some was → (lookup (nat_eq id) es ≡ Some was → was.id ≡ id) → was.id ≡ id
    by_test true is e rest = let same : id ≡ x.0 = grind (arith, nat_tests) in let it : x.1 ≡ was = cc in ap (λ (m : MessageHead). m.id) (sym it) ∙ (h.0 ∙ sym same)
    by_test false is e rest = rest e

pub unset : (id : ℕ) (f : MessageHead → MessageHead) (xs : List MessageHead) → find_head id xs ≡ None → changed_id head_id id f xs ≡ xs
unset id f [] e = refl
unset id f (x ∷ xs) e = grind (arith, nat_tests, unset id f xs)
