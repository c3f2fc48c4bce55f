-- Lists of members that a client knows, as members come, change and go.
use Rattle.std.proofs.Common.{◌≡◌, ℕ, suc, ◌+◌, ◌-◌, ◌≤◌, Bool, true, false, not, ◌&&◌, ◌||◌, List, [], ◌∷◌, Option, Some, None, if◌then◌else◌, refl, sym, ap, ◌∙◌, arith}
use Rattle.std.specs.Prelude.{◌==◌, filter, length, cond}
use Rattle.std.proofs.lemmas.Bool.{eqb-true}
use Rattle.std.proofs.lemmas.Bool.Decides.{nat_tests}
use Rattle.collections.specs.ById.{find_id, put_id, changed_id, IsById, keep_if, without_id}
use Rattle.collections.proofs.Ids.{IsById-put, find_above}
use Rattle.collections.proofs.Finds.{key-found, same_by_id, find-put, find-without, find-filter, IsById-filter}
use Rattle.collections.proofs.Has.{has-put, has-without}
use Rattle.guild_model.specs.declared.member.Member.{Member}
use Rattle.guild_model.specs.Record.{own_id, member_id}
use Rattle.perm_bits.specs.Bits.{has_bit}
use Rattle.dispatch_types.specs.declared.view.OpenView.{OpenView}
use Rattle.dispatch_types.specs.declared.view.ThreadView.{ThreadView}
use Rattle.dispatch_types.specs.Projection.{told, listed, is_known}

-- a member that is told is known
pub known-put : (m : Member) (known : List ℕ) (xs : List Member) → IsById member_id xs → put_id member_id m (filter (is_known known) xs) ≡ filter (is_known (put_id own_id m.user.id known)) (put_id member_id m xs)
known-put m known xs h =
    let put : IsById member_id (put_id member_id m xs) = IsById-put member_id m xs h in
    same_by_id member_id _ _ (IsById-put member_id m _ (IsById-filter member_id (is_known known) xs h)) (IsById-filter member_id (is_known (put_id own_id m.user.id known)) _ put)
    (λ id. find-put member_id m id (filter (is_known known) xs)
    ∙ (ap (λ o. if m.user.id == id then Some m else o) (find-filter member_id (is_known known) id xs h)
    ∙ (at id (find_id member_id id xs) (λ x e. key-found member_id id xs x e)
    ∙ sym (find-filter member_id (is_known (put_id own_id m.user.id known)) id _ put ∙ ap (keep_if (is_known (put_id own_id m.user.id known))) (find-put member_id m id xs)))))
  where
    knows : (x : Member) → is_known (put_id own_id m.user.id known) x ≡ ((m.user.id == x.user.id) || is_known known x)
    knows x = has-put own_id m.user.id x.user.id known

    at : (id : ℕ) (o : Option Member) → ((x : Member) → o ≡ Some x → x.user.id ≡ id) → (if m.user.id == id then Some m else keep_if (is_known known) o) ≡ keep_if (is_known (put_id own_id m.user.id known)) (if m.user.id == id then Some m else o)
    at id None is = let e = knows m in grind (arith, nat_tests, e)
    at id (Some x) is = let e = knows m in let k = knows x in let i : x.user.id ≡ id = is x refl in grind (arith, nat_tests, e, k, i)

-- one that goes is known no longer
pub known-without : (user : ℕ) (known : List ℕ) (xs : List Member) → IsById member_id xs → without_id member_id user (filter (is_known known) xs) ≡ filter (is_known (without_id own_id user known)) (without_id member_id user xs)
known-without user known xs h =
    let others : Member → Bool = λ x. not (x.user.id == user) in
    let left : IsById member_id (without_id member_id user xs) = IsById-filter member_id others xs h in
    same_by_id member_id _ _ (IsById-filter member_id others _ (IsById-filter member_id (is_known known) xs h)) (IsById-filter member_id (is_known (without_id own_id user known)) _ left)
    (λ id. find-without member_id user id (filter (is_known known) xs)
    ∙ (ap (λ o. if user == id then None else o) (find-filter member_id (is_known known) id xs h)
    ∙ (at id (find_id member_id id xs) (λ x e. key-found member_id id xs x e)
    ∙ sym (find-filter member_id (is_known (without_id own_id user known)) id _ left ∙ ap (keep_if (is_known (without_id own_id user known))) (find-without member_id user id xs)))))
  where
    knows : (x : Member) → is_known (without_id own_id user known) x ≡ (not (user == x.user.id) && is_known known x)
    knows x = has-without own_id user x.user.id known

    at : (id : ℕ) (o : Option Member) → ((x : Member) → o ≡ Some x → x.user.id ≡ id) → (if user == id then None else keep_if (is_known known) o) ≡ keep_if (is_known (without_id own_id user known)) (if user == id then None else o)
    at id None is = grind arith
    at id (Some x) is = let k = knows x in let i : x.user.id ≡ id = is x refl in grind (arith, nat_tests, k, i)

-- how many members there are
pub length-changed : (id : ℕ) (f : Member → Member) (xs : List Member) → length (changed_id member_id id f xs) ≡ length xs
length-changed id f [] = refl
length-changed id f (x ∷ xs) = grind (arith, length-changed id f xs)

pub length-put : (m : Member) (xs : List Member) → find_id member_id m.user.id xs ≡ None → length (put_id member_id m xs) ≡ length xs + 1
length-put m [] none = refl
length-put m (x ∷ xs) none = grind (arith, nat_tests, length-put m xs)

without-none : (user : ℕ) (xs : List Member) → find_id member_id user xs ≡ None → without_id member_id user xs ≡ xs
without-none user [] none = refl
without-none user (x ∷ xs) none = grind (arith, nat_tests, without-none user xs)

pub length-without : (user : ℕ) (m : Member) (xs : List Member) → IsById member_id xs → find_id member_id user xs ≡ Some m → length (without_id member_id user xs) ≡ length xs - 1
length-without user m [] h found = absurd (cc)
length-without user m (x ∷ xs) h found = by_head (x.user.id == user) refl found (λ e. length-without user m xs h.1 e)
  where
    some-long : find_id member_id user xs ≡ Some m → 1 ≤ length xs
    some-long found = by_list xs found
      where
        by_list : (ys : List Member) → find_id member_id user ys ≡ Some m → 1 ≤ length ys
        by_list [] e = absurd (cc)
        by_list (y ∷ ys) e = omega arith

    by_head : (b : Bool) → (x.user.id == user) ≡ b → (if b then Some x else find_id member_id user xs) ≡ Some m → (find_id member_id user xs ≡ Some m → length (without_id member_id user xs) ≡ length xs - 1) → length (cond (not b) (x ∷ without_id member_id user xs) (without_id member_id user xs)) ≡ suc (length xs) - 1
    by_head true here e rest =
        let at : x.user.id ≡ user = eqb-true x.user.id user here in
        let none : find_id member_id user xs ≡ None = find_above member_id user x.user.id xs (omega arith) h.0 in
        ap (λ (ys : List Member). length ys) (without-none user xs none) ∙ omega arith
    by_head false here e rest = let left = rest e in let long = some-long e in omega (arith, left, long)

-- what is listed and told where an intent asks for it
pub listed-same : {T : Type 0} (intents bit : ℕ) (xs ys : List T) → (has_bit intents bit ≡ true → xs ≡ ys) → listed intents bit xs ≡ listed intents bit ys
listed-same intents bit xs ys same = by_bit (has_bit intents bit) same
  where
    by_bit : (b : Bool) → (b ≡ true → xs ≡ ys) → (if b then xs else []) ≡ (if b then ys else [])
    by_bit true same = same refl
    by_bit false same = refl

pub told-same : {T : Type 0} (intents bit : ℕ) (x y : T) → (has_bit intents bit ≡ true → x ≡ y) → told intents bit x ≡ told intents bit y
told-same intents bit x y same = by_bit (has_bit intents bit) same
  where
    by_bit : (b : Bool) → (b ≡ true → x ≡ y) → (if b then Some x else None) ≡ (if b then Some y else None)
    by_bit true same = ap (λ z. Some z) (same refl)
    by_bit false same = refl

-- a list that is listed, changed, and listed again
pub listed-again : {T : Type 0} (intents bit : ℕ) (f : List T → List T) (xs : List T) → listed intents bit (f (listed intents bit xs)) ≡ listed intents bit (f xs)
listed-again intents bit f xs = by_bit (has_bit intents bit)
  where
    by_bit : (b : Bool) → (if b then f (if b then xs else []) else []) ≡ (if b then f xs else [])
    by_bit true = refl
    by_bit false = refl

-- views that differ in the members, their count and the threads at most
pub same-parts : (w : OpenView) {ms ms' : List Member} {count count' : Option ℕ} {ts ts' : List ThreadView} → ms ≡ ms' → count ≡ count' → ts ≡ ts'
    → record w { members = ms; member_count = count; threads = ts } ≡ record w { members = ms'; member_count = count'; threads = ts' }
same-parts w {ms = ms} {ms' = ms'} {count = count} {count' = count'} {ts = ts} {ts' = ts'} members counts threads =
    ap (λ (x : List Member). record w { members = x; member_count = count; threads = ts }) members
    ∙ (ap (λ x. record w { members = ms'; member_count = x; threads = ts }) counts
    ∙ ap (λ (x : List ThreadView). record w { members = ms'; member_count = count'; threads = x }) threads)
