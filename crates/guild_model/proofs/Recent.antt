-- The kept messages stay apart and few under each change.
use Rattle.std.proofs.Common.{◌≡◌, ℕ, suc, ◌≤◌, Bool, true, false, List, [], ◌∷◌, ◌++◌, drop, length, if◌then◌else◌, refl, ap, ◌∙◌, arith}
use Rattle.std.specs.Prelude.{◌==◌, nat_lt, filter}
use Rattle.std.proofs.lemmas.Bool.Decides.{nat_tests}
use Rattle.collections.specs.ById.{changed_id}
use Rattle.collections.proofs.Has.{has-changed}
use Rattle.guild_model.specs.declared.message.MessageHead.{MessageHead}
use Rattle.guild_model.specs.Heads.{head_id, has_head, arrived, AreApart, AreRecent}

none_left : (p : MessageHead → Bool) (id : ℕ) (heads : List MessageHead) → has_head id heads ≡ false → has_head id (filter p heads) ≡ false
none_left p id [] e = refl
none_left p id (h ∷ heads) e = grind (arith, nat_tests, none_left p id heads)

apart_if : (b : Bool) (h : MessageHead) (heads : List MessageHead) → has_head h.id heads ≡ false → AreApart heads → AreApart (if b then h ∷ heads else heads)
apart_if true h heads e a = (e, a)
apart_if false h heads e a = a

apart_left : (p : MessageHead → Bool) (heads : List MessageHead) → AreApart heads → AreApart (filter p heads)
apart_left p [] a = tt
apart_left p (h ∷ heads) a = apart_if (p h) h (filter p heads) (none_left p h.id heads a.0) (apart_left p heads a.1)

few_left : (p : MessageHead → Bool) (heads : List MessageHead) → length (filter p heads) ≤ length heads
few_left p [] = omega arith
few_left p (h ∷ heads) = grind (arith, few_left p heads)

pub recent_left : (p : MessageHead → Bool) (heads : List MessageHead) → AreRecent heads → AreRecent (filter p heads)
recent_left p heads r = record { apart = apart_left p heads r.apart; few = let le = few_left p heads in omega (arith, le, r.few) }

none_more : (h : MessageHead) (id : ℕ) (heads : List MessageHead) → has_head id heads ≡ false → (h.id == id) ≡ false → has_head id (heads ++ h ∷ []) ≡ false
none_more h id [] e other = grind (arith, nat_tests)
none_more h id (x ∷ heads) e other = grind (arith, nat_tests, none_more h id heads)

pub apart_more : (h : MessageHead) (heads : List MessageHead) → has_head h.id heads ≡ false → AreApart heads → AreApart (heads ++ h ∷ [])
apart_more h [] e a = (refl, tt)
apart_more h (x ∷ heads) e a =
    let other : (h.id == x.id) ≡ false = grind (arith, nat_tests) in
    let none : has_head h.id heads ≡ false = grind (arith, nat_tests) in
    (none_more h x.id heads a.0 other, apart_more h heads none a.1)

none_dropped : (id : ℕ) (heads : List MessageHead) → has_head id heads ≡ false → has_head id (drop 1 heads) ≡ false
none_dropped id [] e = refl
none_dropped id (x ∷ heads) e = grind (arith, nat_tests)

apart_dropped : (heads : List MessageHead) → AreApart heads → AreApart (drop 1 heads)
apart_dropped [] a = tt
apart_dropped (x ∷ heads) a = a.1

length_more : (h : MessageHead) (heads : List MessageHead) → length (heads ++ h ∷ []) ≡ suc (length heads)
length_more h [] = refl
length_more h (x ∷ heads) = ap suc (length_more h heads)

length_dropped : (h : MessageHead) (heads : List MessageHead) → nat_lt (length heads) 16384 ≡ false → suc (length (drop 1 heads)) ≡ length heads
length_dropped h [] e = absurd (cc)
length_dropped h (x ∷ heads) e = refl

pub recent_more : (h : MessageHead) (heads : List MessageHead) → has_head h.id heads ≡ false → AreRecent heads → AreRecent (arrived h heads)
recent_more h heads e r = by_test (nat_lt (length heads) 16384) refl
  where
    by_test : (b : Bool) → nat_lt (length heads) 16384 ≡ b → AreRecent ((if b then heads else drop 1 heads) ++ h ∷ [])
    by_test true is = record { apart = apart_more h heads e r.apart; few = grind (arith, nat_tests, length_more h heads) }
    by_test false is = record {
      apart = apart_more h (drop 1 heads) (none_dropped h.id heads e) (apart_dropped heads r.apart);
      few = let one = length_more h (drop 1 heads) in let less = length_dropped h heads is in omega (arith, one, less, r.few);
    }

pub recent_changed : (id : ℕ) (f : MessageHead → MessageHead) (heads : List MessageHead) → ((h : MessageHead) → head_id (f h) ≡ head_id h) → AreRecent heads → AreRecent (changed_id head_id id f heads)
recent_changed id f heads same r = record { apart = apart_changed heads r.apart; few = let e = length_changed heads in omega (arith, e, r.few) }
  where
    apart_changed_if : (b : Bool) (x : MessageHead) (xs : List MessageHead) → AreApart (x ∷ xs) → AreApart (changed_id head_id id f xs) → AreApart (if b then f x ∷ xs else x ∷ changed_id head_id id f xs)
    apart_changed_if true x xs a rest = (ap (λ i. has_head i xs) (same x) ∙ a.0, a.1)
    apart_changed_if false x xs a rest = (has-changed head_id id f same x.id xs ∙ a.0, rest)

    apart_changed : (xs : List MessageHead) → AreApart xs → AreApart (changed_id head_id id f xs)
    apart_changed [] a = tt
    apart_changed (x ∷ xs) a = apart_changed_if (head_id x == id) x xs a (apart_changed xs a.1)

    length_changed : (xs : List MessageHead) → length (changed_id head_id id f xs) ≡ length xs
    length_changed [] = refl
    length_changed (x ∷ xs) = grind (arith, length_changed xs)
