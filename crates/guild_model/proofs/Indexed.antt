-- The index of messages by channel still agrees with the kept messages where these have changed.
use Rattle.std.proofs.Common.{◌≡◌, ℕ, zero, suc, ◌≤◌, ◌<◌, Bool, true, false, not, List, [], ◌∷◌, ◌++◌, take, length, Option, Some, None, if◌then◌else◌, refl, sym, ap, ◌∙◌, subst, arith}
use Rattle.std.specs.Prelude.{◌==◌, nat_eq, filter, slice_get}
use Rattle.std.specs.Map.{lookup, remove_entry, set_value}
use Rattle.std.proofs.lemmas.Bool.Decides.{nat_tests}
use Rattle.lru.specs.LruCache.{LruCache, put_entries, displaced}
use Rattle.guild_model.specs.declared.message.MessageHead.{MessageHead}
use Rattle.guild_model.specs.ChannelIndex.{is_indexed, Joins, Leaves, IsBare}
use Rattle.guild_model.specs.Heads.{find_head, without_channel, arrivals, IsIndex, IsKept, is_head_in, AreIndexed}
use Rattle.guild_model.proofs.Arrivals.{Entries, take_all, filter_more, put_new, free_entry}
use Rattle.guild_model.proofs.Copies.{none_before, left_last}

abbrev pub Pairs : Type 0
Pairs = List (ℕ × ℕ)

some_same : {T : Type 0} {x y : T} → Some x ≡ Some y → x ≡ y
some_same e = cc

-- ---- a message comes

pub joined : (head : MessageHead) (es : Entries) (ps qs : Pairs) → lookup (nat_eq head.id) es ≡ None → AreIndexed ps es → Joins ps head.channel head.id qs → AreIndexed qs ((head.id, head) ∷ es)
joined head es ps qs free indexed joins channel id = by_test (nat_eq id head.id) refl
  where
    by_test : (b : Bool) → nat_eq id head.id ≡ b → is_indexed qs channel id ≡ is_head_in channel (if b then Some head else lookup (nat_eq id) es)
    by_test true is =
        let same : id ≡ head.id = grind (arith, nat_tests) in
        let here : (head.id == id) ≡ true = grind (arith, nat_tests) in
        let none : is_indexed ps channel id ≡ false = indexed channel id ∙ ap (λ (i : ℕ). is_head_in channel (lookup (nat_eq i) es)) same ∙ rw free refl in
        joins channel id ∙ rw (here, none) (grind arith)
    by_test false is =
        let other : (head.id == id) ≡ false = grind (arith, nat_tests) in
        joins channel id ∙ rw (other, indexed channel id) (grind arith)

-- ---- a message goes

pub gone_lookup : (i id : ℕ) (es : Entries) → IsIndex es → lookup (nat_eq i) (remove_entry (nat_eq id) es) ≡ (if nat_eq i id then None else lookup (nat_eq i) es)
gone_lookup i id [] h = grind arith
gone_lookup i id (e ∷ es) h = by_tests (nat_eq id e.0) (nat_eq i e.0) refl refl (gone_lookup i id es h.2)
  where
    by_tests : (b c : Bool) → nat_eq id e.0 ≡ b → nat_eq i e.0 ≡ c → lookup (nat_eq i) (remove_entry (nat_eq id) es) ≡ (if nat_eq i id then None else lookup (nat_eq i) es)
        → lookup (nat_eq i) (if b then es else e ∷ remove_entry (nat_eq id) es) ≡ (if nat_eq i id then None else (if c then Some e.1 else lookup (nat_eq i) es))
    by_tests true true here is rest =
        let same : nat_eq i id ≡ true = grind (arith, nat_tests) in
        let at : i ≡ e.0 = grind (arith, nat_tests) in
        rw same (ap (λ (k : ℕ). lookup (nat_eq k) es) at ∙ h.1)
    by_tests true false here is rest = let other : nat_eq i id ≡ false = grind (arith, nat_tests) in rw other refl
    by_tests false true here is rest = let other : nat_eq i id ≡ false = grind (arith, nat_tests) in rw (other, is) refl
    by_tests false false here is rest = rw is rest

pub left : (id : ℕ) (h : MessageHead) (es : Entries) (ps qs : Pairs) → IsIndex es → lookup (nat_eq id) es ≡ Some h → AreIndexed ps es → Leaves ps h.channel id qs → AreIndexed qs (remove_entry (nat_eq id) es)
left id h es ps qs index found indexed leaves channel i = by_test (nat_eq i id) refl
  where
    by_test : (b : Bool) → nat_eq i id ≡ b → is_indexed qs channel i ≡ is_head_in channel (lookup (nat_eq i) (remove_entry (nat_eq id) es))
    by_test true is =
        let same : i ≡ id = grind (arith, nat_tests) in
        let here : (id == i) ≡ true = grind (arith, nat_tests) in
        let there : is_indexed ps channel i ≡ (h.channel == channel) = indexed channel i ∙ ap (λ (k : ℕ). is_head_in channel (lookup (nat_eq k) es)) same ∙ rw found refl in
        leaves channel i ∙ rw (here, there, gone_lookup i id es index, is) (grind arith)
    by_test false is =
        let other : (id == i) ≡ false = grind (arith, nat_tests) in
        leaves channel i ∙ rw (other, indexed channel i, gone_lookup i id es index, is) (grind arith)

none_removed : (test : ℕ → Bool) (es : Entries) → lookup test es ≡ None → remove_entry test es ≡ es
none_removed test [] e = refl
none_removed test (x ∷ es) e = by_test (test x.0) e (none_removed test es)
  where
    by_test : (b : Bool) → (if b then Some x.1 else lookup test es) ≡ None → (lookup test es ≡ None → remove_entry test es ≡ es) → (if b then es else x ∷ remove_entry test es) ≡ x ∷ es
    by_test true e rest = absurd (cc)
    by_test false e rest = ap (λ xs. x ∷ xs) (rest e)

pub not_there : (id : ℕ) (es : Entries) (ps : Pairs) → lookup (nat_eq id) es ≡ None → AreIndexed ps es → AreIndexed ps (remove_entry (nat_eq id) es)
not_there id es ps none indexed = subst (AreIndexed ps) (sym (none_removed (nat_eq id) es none)) indexed

-- ---- the oldest goes where a new one comes

none_past : (n : ℕ) (es : Entries) → slice_get es n ≡ None → length es ≤ n
none_past n [] e = omega arith
none_past zero (x ∷ es) e = absurd (cc)
none_past (suc n) (x ∷ es) e = let le = none_past n es e in omega (arith, le)

last_at : (n : ℕ) (es : Entries) (e : ℕ × MessageHead) → slice_get es n ≡ Some e → length es ≤ suc n → es ≡ take n es ++ e ∷ []
last_at n [] e is le = absurd (cc)
last_at zero (x ∷ []) e is le = ap (λ y. y ∷ []) (some_same is)
last_at zero (x ∷ y ∷ es) e is le = absurd (omega (arith, le))
last_at (suc n) (x ∷ es) e is le = ap (λ xs. x ∷ xs) (last_at n es e is (omega (arith, le)))

found_last : (test : ℕ → Bool) (bs : Entries) (e : ℕ × MessageHead) → lookup test bs ≡ None → test e.0 ≡ true → lookup test (bs ++ e ∷ []) ≡ Some e.1
found_last test [] e none is = rw is refl
found_last test (b ∷ bs) e none is = grind (arith, found_last test bs e)

pushed_out : (c : LruCache ℕ MessageHead) (head : MessageHead) → IsKept c → find_head head.id (arrivals c.entries) ≡ None → displaced nat_eq c head.id head ≡ slice_get c.entries 16383
pushed_out c head k free = rw (free_entry head.id c.entries k.index free, k.room) refl

pub came : (c : LruCache ℕ MessageHead) (head : MessageHead) (ps qs : Pairs) → IsKept c → find_head head.id (arrivals c.entries) ≡ None → displaced nat_eq c head.id head ≡ None
    → AreIndexed ps c.entries → Joins ps head.channel head.id qs → AreIndexed qs (put_entries nat_eq c head.id head)
came c head ps qs k free none indexed joins =
    let few : length c.entries ≤ 16383 = none_past 16383 c.entries (sym (pushed_out c head k free) ∙ none) in
    let all : put_entries nat_eq c head.id head ≡ (head.id, head) ∷ c.entries = put_new c head k free ∙ ap (λ (es : Entries). (head.id, head) ∷ es) (take_all 16383 c.entries few) in
    subst (AreIndexed qs) (sym all) (joined head c.entries ps qs (free_entry head.id c.entries k.index free) indexed joins)

pub came_full : (c : LruCache ℕ MessageHead) (head : MessageHead) (o : ℕ × MessageHead) (ps qs rs : Pairs) → IsKept c → find_head head.id (arrivals c.entries) ≡ None → displaced nat_eq c head.id head ≡ Some o
    → AreIndexed ps c.entries → Joins ps head.channel head.id qs → Leaves qs o.1.channel o.0 rs → AreIndexed rs (put_entries nat_eq c head.id head)
came_full c head o ps qs rs k free some indexed joins leaves =
    let bs : Entries = take 16383 c.entries in
    let first : ℕ × MessageHead = (head.id, head) in
    let split : c.entries ≡ bs ++ o ∷ [] = last_at 16383 c.entries o (sym (pushed_out c head k free) ∙ some) k.few in
    let none : lookup (nat_eq head.id) c.entries ≡ None = free_entry head.id c.entries k.index free in
    let index : IsIndex (first ∷ (bs ++ o ∷ [])) = subst (λ (es : Entries). IsIndex (first ∷ es)) split (refl, none, k.index) in
    let all : AreIndexed qs (first ∷ (bs ++ o ∷ [])) = subst (λ (es : Entries). AreIndexed qs (first ∷ es)) split (joined head c.entries ps qs none indexed joins) in
    let before : lookup (nat_eq o.0) (first ∷ bs) ≡ None = none_before (first ∷ bs) [] o index in
    let found : lookup (nat_eq o.0) (first ∷ (bs ++ o ∷ [])) ≡ Some o.1 = found_last (nat_eq o.0) (first ∷ bs) o before (grind (arith, nat_tests)) in
    subst (AreIndexed rs) (left_last (first ∷ bs) o before ∙ sym (put_new c head k free)) (left o.0 o.1 (first ∷ (bs ++ o ∷ [])) qs rs index found all leaves)

-- ---- a channel goes

pub channel_kept : (channel id : ℕ) (h : MessageHead) (es : Entries) → lookup (nat_eq id) es ≡ Some h → (h.channel == channel) ≡ true
    → without_channel channel (arrivals (remove_entry (nat_eq id) es)) ≡ without_channel channel (arrivals es)
channel_kept channel id h [] found there = refl
channel_kept channel id h (x ∷ es) found there = by_test (nat_eq id x.0) found (channel_kept channel id h es)
  where
    elsewhere : MessageHead → Bool
    elsewhere m = not (m.channel == channel)

    by_test : (b : Bool) → (if b then Some x.1 else lookup (nat_eq id) es) ≡ Some h
        → (lookup (nat_eq id) es ≡ Some h → (h.channel == channel) ≡ true → filter elsewhere (arrivals (remove_entry (nat_eq id) es)) ≡ filter elsewhere (arrivals es))
        → filter elsewhere (arrivals (if b then es else x ∷ remove_entry (nat_eq id) es)) ≡ filter elsewhere (arrivals es ++ x.1 ∷ [])
    by_test true found rest =
        let here : elsewhere x.1 ≡ false = ap (λ (m : MessageHead). elsewhere m) (some_same found) ∙ rw there refl in
        sym (filter_more elsewhere (arrivals es) x.1 ∙ rw here refl)
    by_test false found rest =
        filter_more elsewhere (arrivals (remove_entry (nat_eq id) es)) x.1 ∙ (rw (rest found there) refl ∙ sym (filter_more elsewhere (arrivals es) x.1))

pub one_less : (id : ℕ) (h : MessageHead) (es : Entries) → lookup (nat_eq id) es ≡ Some h → length (remove_entry (nat_eq id) es) < length es
one_less id h [] found = absurd (cc)
one_less id h (x ∷ es) found = by_test (nat_eq id x.0) found (one_less id h es)
  where
    by_test : (b : Bool) → (if b then Some x.1 else lookup (nat_eq id) es) ≡ Some h → (lookup (nat_eq id) es ≡ Some h → length (remove_entry (nat_eq id) es) < length es)
        → length (if b then es else x ∷ remove_entry (nat_eq id) es) < suc (length es)
    by_test true found rest = omega arith
    by_test false found rest = let lt = rest found in omega (arith, lt)

all_elsewhere : (channel : ℕ) (es : Entries) → IsIndex es → ((id : ℕ) → is_head_in channel (lookup (nat_eq id) es) ≡ false) → without_channel channel (arrivals es) ≡ arrivals es
all_elsewhere channel [] index none = refl
all_elsewhere channel (x ∷ es) index none =
    let same : nat_eq x.0 x.0 ≡ true = grind (arith, nat_tests) in
    let here : (x.1.channel == channel) ≡ false = sym (rw same refl) ∙ none x.0 in
    let rest : without_channel channel (arrivals es) ≡ arrivals es = all_elsewhere channel es index.2 (λ id. by_test id (nat_eq id x.0) refl (none id)) in
    filter_more (λ (m : MessageHead). not (m.channel == channel)) (arrivals es) x.1 ∙ rw (here, rest) refl
  where
    by_test : (id : ℕ) (b : Bool) → nat_eq id x.0 ≡ b → is_head_in channel (if b then Some x.1 else lookup (nat_eq id) es) ≡ false → is_head_in channel (lookup (nat_eq id) es) ≡ false
    by_test id true is e = let at : id ≡ x.0 = grind (arith, nat_tests) in ap (λ (k : ℕ). is_head_in channel (lookup (nat_eq k) es)) at ∙ rw index.1 refl
    by_test id false is e = e

pub channel_gone : (channel : ℕ) (es : Entries) (ps : Pairs) → IsIndex es → AreIndexed ps es → IsBare ps channel → without_channel channel (arrivals es) ≡ arrivals es
channel_gone channel es ps index indexed bare = all_elsewhere channel es index (λ id. sym (indexed channel id) ∙ bare id)

-- ---- a message is changed where it stands

same_channels : (id : ℕ) (was w : MessageHead) (es : Entries) → lookup (nat_eq id) es ≡ Some was → w.channel ≡ was.channel
    → (channel i : ℕ) → is_head_in channel (lookup (nat_eq i) (set_value (nat_eq id) es w)) ≡ is_head_in channel (lookup (nat_eq i) es)
same_channels id was w [] found same channel i = refl
same_channels id was w (x ∷ es) found same channel i = by_tests (nat_eq id x.0) (nat_eq i x.0) refl found (λ e. same_channels id was w es e same channel i)
  where
    by_tests : (b c : Bool) → nat_eq i x.0 ≡ c → (if b then Some x.1 else lookup (nat_eq id) es) ≡ Some was
        → (lookup (nat_eq id) es ≡ Some was → is_head_in channel (lookup (nat_eq i) (set_value (nat_eq id) es w)) ≡ is_head_in channel (lookup (nat_eq i) es))
        → is_head_in channel (lookup (nat_eq i) (if b then (x.0, w) ∷ es else x ∷ set_value (nat_eq id) es w)) ≡ is_head_in channel (if c then Some x.1 else lookup (nat_eq i) es)
    by_tests true true is found rest = rw is (ap (λ (p : ℕ). p == channel) (same ∙ ap (λ (m : MessageHead). m.channel) (sym (some_same found))))
    by_tests true false is found rest = rw is refl
    by_tests false true is found rest = rw is refl
    by_tests false false is found rest = rw is (rest found)

pub set_indexed : (id : ℕ) (was w : MessageHead) (es : Entries) (ps : Pairs) → lookup (nat_eq id) es ≡ Some was → w.channel ≡ was.channel → AreIndexed ps es → AreIndexed ps (set_value (nat_eq id) es w)
set_indexed id was w es ps found same indexed channel i = indexed channel i ∙ sym (same_channels id was w es found same channel i)

-- ---- what stands in a channel is kept

pub found_there : (channel id : ℕ) (es : Entries) (ps : Pairs) → AreIndexed ps es → is_indexed ps channel id ≡ true → (h : MessageHead) × (lookup (nat_eq id) es ≡ Some h) × ((h.channel == channel) ≡ true)
found_there channel id es ps indexed there = by_case (lookup (nat_eq id) es) refl (sym (indexed channel id) ∙ there)
  where
    by_case : (o : Option MessageHead) → lookup (nat_eq id) es ≡ o → is_head_in channel o ≡ true → (h : MessageHead) × (lookup (nat_eq id) es ≡ Some h) × ((h.channel == channel) ≡ true)
    by_case None is e = absurd (cc)
    by_case (Some h) is e = (h, is, e)

pub next_gone : (channel id : ℕ) (es : Entries) (ps : Pairs) → AreIndexed ps es → is_indexed ps channel id ≡ true
    → (length (remove_entry (nat_eq id) es) < length es) × (without_channel channel (arrivals (remove_entry (nat_eq id) es)) ≡ without_channel channel (arrivals es))
next_gone channel id es ps indexed there = let f = found_there channel id es ps indexed there in (one_less id f.0 es f.1, channel_kept channel id f.0 es f.1 f.2)
