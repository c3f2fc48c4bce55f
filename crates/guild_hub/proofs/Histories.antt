-- A history that grows tells a log that goes on.
use Rattle.std.proofs.Common.{◌≡◌, ◌≤◌, ◌+◌, ℕ, true, false, true≢false, List, [], ◌∷◌, ◌++◌, length, sym, refl, ap, ◌∙◌, subst, append-nil, arith}
use mathlib.Core.List.{IsPrefix, cons≢nil}
use mathlib.Core.Path.{ap₂}
use Rattle.logbook.specs.Pages.{Book}
use Rattle.edit_apply.specs.declared.Edit.{Edit}
use Rattle.guild_hub.specs.declared.item.Item.{Item}
use Rattle.guild_hub.specs.declared.item.Item.TheVariants.{Entry, Seal}
use Rattle.guild_hub.specs.Items.{edits_of, has_seal, seals, IsFinal, log_of}
use Rattle.guild_hub.specs.Logs.{Hub, published, with_entry, with_seal, GoesOn}

abbrev pub hub_of : ℕ → Book → Hub
hub_of guild book = record { guild = guild; book = book }

abbrev tail_of : {E : Type 0} → List E → List E
tail_of [] = []
tail_of (x ∷ xs) = xs

abbrev head_or : {E : Type 0} → E → List E → E
head_or d [] = d
head_or d (x ∷ xs) = x

pub final_front : (xs ys : List Item) → IsFinal (xs ++ ys) → IsFinal xs
final_front [] ys f = tt
final_front (Entry e ∷ xs) ys f = final_front xs ys f
final_front (Seal ∷ []) ys f = refl
final_front (Seal ∷ x ∷ xs) ys f = absurd (cons≢nil f)

nothing_after : (xs ys : List Item) → IsFinal (xs ++ ys) → has_seal xs ≡ true → ys ≡ []
nothing_after [] ys f s = absurd (true≢false (sym s))
nothing_after (Entry e ∷ xs) ys f s = nothing_after xs ys f s
nothing_after (Seal ∷ []) ys f s = f
nothing_after (Seal ∷ x ∷ xs) ys f s = absurd (cons≢nil f)

edits_join : (xs ys : List Item) → edits_of (xs ++ ys) ≡ edits_of xs ++ edits_of ys
edits_join [] ys = refl
edits_join (Entry e ∷ xs) ys = ap (λ l. e ∷ l) (edits_join xs ys)
edits_join (Seal ∷ xs) ys = edits_join xs ys

-- the number of items is that of the entries, and one more with the seal
pub items_counted : (xs : List Item) → IsFinal xs → length xs ≡ length (edits_of xs) + seals (has_seal xs)
items_counted [] f = refl
items_counted (Entry e ∷ xs) f = omega (arith, items_counted xs f)
items_counted (Seal ∷ xs) f = rw f refl

-- an entry more, where there is no seal
pub entry_more : (xs : List Item) (e : Edit) → IsFinal xs → has_seal xs ≡ false
    → IsFinal (xs ++ Entry e ∷ []) × (edits_of (xs ++ Entry e ∷ []) ≡ edits_of xs ++ e ∷ []) × (has_seal (xs ++ Entry e ∷ []) ≡ false)
entry_more [] e f s = (tt, refl, refl)
entry_more (Entry x ∷ xs) e f s = let more = entry_more xs e f s in (more.0, ap (λ l. x ∷ l) more.1, more.2)
entry_more (Seal ∷ xs) e f s = absurd (true≢false s)

-- the seal, where there is none
pub seal_more : (xs : List Item) → IsFinal xs → has_seal xs ≡ false
    → IsFinal (xs ++ Seal ∷ []) × (edits_of (xs ++ Seal ∷ []) ≡ edits_of xs) × (has_seal (xs ++ Seal ∷ []) ≡ true)
seal_more [] f s = (refl, refl, refl)
seal_more (Entry x ∷ xs) f s = let more = seal_more xs f s in (more.0, ap (λ l. x ∷ l) more.1, more.2)
seal_more (Seal ∷ xs) f s = absurd (true≢false s)

-- of two beginnings of one list the shorter begins the longer
shorter_begins : {E : Type 0} (xs ys zs : List E) → IsPrefix xs zs → IsPrefix ys zs → length xs ≤ length ys → IsPrefix xs ys
shorter_begins [] ys zs p q short = (ys, refl)
shorter_begins (x ∷ xs) [] zs p q short = absurd (omega arith)
shorter_begins (x ∷ xs) (y ∷ ys) [] p q short = absurd (cons≢nil p.1)
shorter_begins (x ∷ xs) (y ∷ ys) (z ∷ zs) p q short =
    let rest = shorter_begins xs ys zs (p.0, ap tail_of p.1) (q.0, ap tail_of q.1) (omega arith) in (
      rest.0,
      ap₂ (λ h t. h ∷ t) (ap (head_or x) p.1 ∙ sym (ap (head_or x) q.1)) rest.1,
    )

pub tells_later : (guild : ℕ) (book : Book) (xs ys : List Item) → IsFinal ys → IsPrefix xs ys → GoesOn (log_of guild book xs) (log_of guild book ys)
tells_later guild book xs ys f p =
    let whole : IsFinal (xs ++ p.0) = subst IsFinal (sym p.1) f in record {
      hub = refl;
      entries = (edits_of p.0, sym (edits_join xs p.0) ∙ ap edits_of p.1);
      final = λ s. ap (log_of guild book) (sym p.1 ∙ ap (λ l. xs ++ l) (nothing_after xs p.0 whole s) ∙ append-nil xs);
    }

-- of two notes of one history that one is earlier which tells fewer items
pub compared : (g h : ℕ) (b d : Book) (xs ys zs : List Item) → hub_of g b ≡ hub_of h d → IsFinal xs → IsFinal ys → IsPrefix xs zs → IsPrefix ys zs
    → length (edits_of xs) + seals (has_seal xs) ≤ length (edits_of ys) + seals (has_seal ys) → GoesOn (log_of g b xs) (log_of h d ys)
compared g h b d xs ys zs same f f' p q short =
    let on = tells_later g b xs ys f' (shorter_begins xs ys zs p q (omega (arith, items_counted xs f, items_counted ys f'))) in
    subst (GoesOn (log_of g b xs)) (ap (λ hub. published hub (edits_of ys) (has_seal ys)) same) on

pub entry_told : (guild : ℕ) (book : Book) (xs : List Item) (e : Edit) → IsFinal xs → has_seal xs ≡ false → log_of guild book (xs ++ Entry e ∷ []) ≡ with_entry (log_of guild book xs) e
entry_told guild book xs e f s =
    let more = entry_more xs e f s in
    ap₂ (λ es b. published (record { guild = guild; book = book }) es b) more.1 (more.2 ∙ sym s)

pub seal_told : (guild : ℕ) (book : Book) (xs : List Item) → IsFinal xs → has_seal xs ≡ false → log_of guild book (xs ++ Seal ∷ []) ≡ with_seal (log_of guild book xs)
seal_told guild book xs f s =
    let more = seal_more xs f s in
    ap₂ (λ es b. published (record { guild = guild; book = book }) es b) more.1 more.2

-- where there is no seal, the items are the entries
pub all_entries : (xs : List Item) → IsFinal xs → has_seal xs ≡ false → length xs ≡ length (edits_of xs)
all_entries xs f s = omega (arith, items_counted xs f, ap seals s)
