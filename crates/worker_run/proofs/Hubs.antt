-- What readers of hubs have seen, input by input.
use Rattle.std.proofs.Common.{◌≡◌, ℕ, ◌<◌, zero, suc, Bool, true, false, not-suc-le-zero, List, [], ◌∷◌, ◌++◌, if◌then◌else◌, Some, None, IfSome, length, get_or, set, take, take-append-drop, append_assoc, append-nil, refl, sym, ap, ap₂, subst, ◌∙◌, arith}
use Rattle.std.specs.Prelude.{◌==◌, All}
use Rattle.std.proofs.lemmas.Bool.{eqb-true, eq-eqb, or_parts}
use Rattle.std.proofs.lemmas.List.Elements.{All-cons, All-head, All-tail}
use mathlib.Core.List.{IsPrefix}
use Rattle.edit_apply.specs.declared.Edit.{Edit}
use Rattle.guild_hub.specs.Logs.{Published, GoesOn}
use Rattle.guild_hub.specs.Sights.{Segment, Seeing, end_of, with_more}
use Rattle.world_law.specs.Inputs.{Input, Look, Rebase, Open, Frame, Lost, Closed, Tick}
use Rattle.worker_run.specs.Turns.{looked_at}
use Rattle.worker_run.specs.Hubs.{kept_part, seen_by, seen_by_all, handled_by, handled_by_all, AreInOrder, passed, Reads, IsReader, AllRead, IsApart}
use Rattle.guild_places.specs.Places.{guilds_of, has_guild, AreDistinct}

-- ---- fronts of logs

pub front_itself : {A : Type 0} (xs : List A) → IsPrefix xs xs
front_itself xs = ([], append-nil xs)

pub front_on : {A : Type 0} (xs ys zs : List A) → IsPrefix xs ys → IsPrefix ys zs → IsPrefix xs zs
front_on xs ys zs p q = (p.0 ++ q.0, sym (append_assoc xs p.0 q.0) ∙ (ap (λ l. l ++ q.0) p.1 ∙ q.1))

pub front_taken : {A : Type 0} (n : ℕ) (xs : List A) → IsPrefix (take n xs) xs
front_taken n xs = (_, take-append-drop n xs)

pub goes_itself : (log : Published) → GoesOn log log
goes_itself log = record { hub = refl; entries = front_itself log.entries; final = λ s. refl }

pub goes_further : (a b c : Published) → GoesOn a b → GoesOn b c → GoesOn a c
goes_further a b c first second = record {
  hub = second.hub ∙ first.hub;
  entries = front_on a.entries b.entries c.entries first.entries second.entries;
  final = λ s. second.final (ap (λ (l : Published). l.sealed) (first.final s) ∙ s) ∙ first.final s;
}

-- ---- inputs after others

seen_join : (g : ℕ) (s : Segment) (is js : List Input) → seen_by_all g s (is ++ js) ≡ seen_by_all g (seen_by_all g s is) js
seen_join g s [] js = refl
seen_join g s (i ∷ is) js = seen_join g (seen_by g s i) is js

handled_join : (g : ℕ) (done : List Edit) (is js : List Input) → handled_by_all g done (is ++ js) ≡ handled_by_all g (handled_by_all g done is) js
handled_join g done [] js = refl
handled_join g done (i ∷ is) js = handled_join g (handled_by g done i) is js

order_join : (g : ℕ) (done : List Edit) (is js : List Input) (log later : List Edit) → AreInOrder g done is log → AreInOrder g (handled_by_all g done is) js later → AreInOrder g done (is ++ js) later
order_join g done [] js log later first second = second
order_join g done (i ∷ is) js log later first second = (first.0, order_join g (handled_by g done i) is js log later first.1 second)

pub reads_join : (is js : List Input) (a b c : ℕ × Seeing) → Reads is a b → Reads js b c → Reads (is ++ js) a c
reads_join is js a b c first second =
    let last : seen_by_all b.0 b.1.last js ≡ seen_by_all a.0 a.1.last (is ++ js) = ap (λ s. seen_by_all b.0 s js) first.last ∙ (ap (λ g. seen_by_all g (seen_by_all a.0 a.1.last is) js) first.guild ∙ sym (seen_join a.0 a.1.last is js)) in
    let passes : handled_by_all b.0 (passed b.1) js ≡ handled_by_all a.0 (passed a.1) (is ++ js) = ap (λ l. handled_by_all b.0 l js) first.passes ∙ (ap (λ g. handled_by_all g (handled_by_all a.0 (passed a.1) is) js) first.guild ∙ sym (handled_join a.0 (passed a.1) is js)) in
    let order : AreInOrder a.0 (handled_by_all a.0 (passed a.1) is) js c.1.log.entries = subst (λ l. AreInOrder a.0 l js c.1.log.entries) first.passes (subst (λ g. AreInOrder g (passed b.1) js c.1.log.entries) first.guild second.order) in
    record {
      guild = second.guild ∙ first.guild;
      hub = second.hub ∙ first.hub;
      last = second.last ∙ last;
      passes = second.passes ∙ passes;
      order = order_join a.0 (passed a.1) is js b.1.log.entries c.1.log.entries first.order order;
      log = goes_further a.1.log b.1.log c.1.log first.log second.log;
      fits = second.fits;
      mark = second.mark ∙ first.mark;
      quit = λ q. second.quit (first.quit q);
    }

-- ---- inputs of others

-- a reader that makes no input
pub reads_none : (a : ℕ × Seeing) → IsReader a → Reads [] a a
reads_none a reader = record {
  guild = refl;
  hub = refl;
  last = refl;
  passes = refl;
  order = front_taken (end_of a.1.last) a.1.log.entries;
  log = goes_itself a.1.log;
  fits = reader.1;
  mark = refl;
  quit = λ q. q;
}

-- a test whether a guild is the same
pub same_then : {A : Type 0} (g : ℕ) (x y : A) → (if g == g then x else y) ≡ x
same_then g x y = ap (λ b. if b then x else y) (eq-eqb g g refl)

same_if : {A : Type 0} (b : Bool) (x y : A) → b ≡ false → (if b then x else y) ≡ y
same_if b x y e = ap (λ c. if c then x else y) e

seen_apart : (g : ℕ) (s : Segment) (i : Input) → IsApart g i → seen_by g s i ≡ s
seen_apart g s (Look h es) apart = same_if (h == g) (with_more s es) s apart
seen_apart g s (Rebase h log) apart = same_if (h == g) (kept_part g log) s apart
seen_apart g s (Open conn) apart = refl
seen_apart g s (Frame conn text) apart = refl
seen_apart g s (Lost conn) apart = refl
seen_apart g s (Closed conn code) apart = refl
seen_apart g s (Tick now) apart = refl

pub handled_apart : (g : ℕ) (done : List Edit) (i : Input) → IsApart g i → handled_by g done i ≡ done
handled_apart g done (Look h es) apart = same_if (h == g) (done ++ es) done apart
handled_apart g done (Rebase h log) apart = same_if (h == g) log done apart
handled_apart g done (Open conn) apart = refl
handled_apart g done (Frame conn text) apart = refl
handled_apart g done (Lost conn) apart = refl
handled_apart g done (Closed conn code) apart = refl
handled_apart g done (Tick now) apart = refl

-- an input of another guild, or of none, leaves a reader
pub reads_apart : (i : Input) (a : ℕ × Seeing) → IsReader a → IsApart a.0 i → Reads (i ∷ []) a a
reads_apart i a reader apart =
    let same : passed a.1 ≡ handled_by a.0 (passed a.1) i = sym (handled_apart a.0 (passed a.1) i apart) in
    let front : IsPrefix (passed a.1) a.1.log.entries = front_taken (end_of a.1.last) a.1.log.entries in
    record {
      guild = refl;
      hub = refl;
      last = sym (seen_apart a.0 a.1.last i apart);
      passes = same;
      order = (subst (λ l. IsPrefix (passed a.1) l) same (front_itself (passed a.1)), subst (λ l. IsPrefix l a.1.log.entries) same front);
      log = goes_itself a.1.log;
      fits = reader.1;
      mark = refl;
      quit = λ q. q;
    }

pub apart_none : (g : ℕ) (i : Input) → looked_at i ≡ None → IsApart g i
apart_none g i e = subst (λ o. IfSome o (λ h. (h == g) ≡ false)) (sym e) tt

pub apart_other : (g h : ℕ) (i : Input) → looked_at i ≡ Some h → (h == g) ≡ false → IsApart g i
apart_other g h i e differ = subst (λ o. IfSome o (λ n. (n == g) ≡ false)) (sym e) differ

-- ---- readers stay readers

pub reader_kept : (is : List Input) (a b : ℕ × Seeing) → Reads is a b → IsReader a → IsReader b
reader_kept is a b reads reader = (ap (λ hub. hub.guild) reads.hub ∙ (reader.0 ∙ sym reads.guild), reads.fits)

pub readers_kept : (is : List Input) (xs ys : List (ℕ × Seeing)) → AllRead is xs ys → All IsReader xs → All IsReader ys
readers_kept is [] [] all readers = readers
readers_kept is [] (b ∷ ys) all readers = absurd all
readers_kept is (a ∷ xs) [] all readers = absurd all
readers_kept is (a ∷ xs) (b ∷ ys) all readers =
    All-cons IsReader b ys (reader_kept is a b all.0 (All-head IsReader a xs readers)) (readers_kept is xs ys all.1 (All-tail IsReader a xs readers))

pub same_guilds : (is : List Input) (xs ys : List (ℕ × Seeing)) → AllRead is xs ys → guilds_of ys ≡ guilds_of xs
same_guilds is [] [] all = refl
same_guilds is [] (b ∷ ys) all = absurd all
same_guilds is (a ∷ xs) [] all = absurd all
same_guilds is (a ∷ xs) (b ∷ ys) all = ap₂ (λ g gs. g ∷ gs) all.0.guild (same_guilds is xs ys all.1)

-- ---- all readers

pub all_read_join : (is js : List Input) (xs ys zs : List (ℕ × Seeing)) → AllRead is xs ys → AllRead js ys zs → AllRead (is ++ js) xs zs
all_read_join is js [] [] [] first second = tt
all_read_join is js [] [] (c ∷ zs) first second = absurd second
all_read_join is js [] (b ∷ ys) zs first second = absurd first
all_read_join is js (a ∷ xs) [] zs first second = absurd first
all_read_join is js (a ∷ xs) (b ∷ ys) [] first second = absurd second
all_read_join is js (a ∷ xs) (b ∷ ys) (c ∷ zs) first second = (reads_join is js a b c first.0 second.0, all_read_join is js xs ys zs first.1 second.1)

pub all_read_none : (xs : List (ℕ × Seeing)) → All IsReader xs → AllRead [] xs xs
all_read_none [] readers = tt
all_read_none (a ∷ xs) readers = (reads_none a (All-head IsReader a xs readers), all_read_none xs (All-tail IsReader a xs readers))

-- an input that is about no log leaves all
pub all_read_without : (i : Input) (xs : List (ℕ × Seeing)) → looked_at i ≡ None → All IsReader xs → AllRead (i ∷ []) xs xs
all_read_without i [] none readers = tt
all_read_without i (a ∷ xs) none readers =
    (reads_apart i a (All-head IsReader a xs readers) (apart_none a.0 i none), all_read_without i xs none (All-tail IsReader a xs readers))

differ_back : (x y : ℕ) → (x == y) ≡ false → (y == x) ≡ false
differ_back x y differ = by_id (y == x) refl
  where
    by_id : (b : Bool) → (y == x) ≡ b → b ≡ false
    by_id true same =
        let one : y ≡ x = eqb-true y x same in
        sym (subst (λ n. (n == x) ≡ true) one same) ∙ subst (λ n. (x == n) ≡ false) one differ
    by_id false e = refl

is_other : (h : ℕ) (xs : List (ℕ × Seeing)) (n : ℕ) (d : ℕ × Seeing) → n < length xs → has_guild h (guilds_of xs) ≡ false → ((get_or xs n d).0 == h) ≡ false
is_other h [] n d lt none = absurd (not-suc-le-zero lt)
is_other h (a ∷ xs) zero d lt none = (or_parts (a.0 == h) (has_guild h (guilds_of xs)) none).0
is_other h (a ∷ xs) (suc n) d lt none = is_other h xs n d (omega (arith, lt)) (or_parts (a.0 == h) (has_guild h (guilds_of xs)) none).1

-- an input of a guild that none of them has
all_read_apart : (i : Input) (g : ℕ) (xs : List (ℕ × Seeing)) → looked_at i ≡ Some g → has_guild g (guilds_of xs) ≡ false → All IsReader xs → AllRead (i ∷ []) xs xs
all_read_apart i g [] about none readers = tt
all_read_apart i g (a ∷ xs) about none readers =
    let parts = or_parts (a.0 == g) (has_guild g (guilds_of xs)) none in
    (reads_apart i a (All-head IsReader a xs readers) (apart_other a.0 g i about (differ_back a.0 g parts.0)), all_read_apart i g xs about parts.1 (All-tail IsReader a xs readers))

-- an input by the reader at one place
pub all_read_at : (i : Input) (xs : List (ℕ × Seeing)) (n : ℕ) (b d : ℕ × Seeing) → n < length xs → looked_at i ≡ Some (get_or xs n d).0
    → AreDistinct (guilds_of xs) → All IsReader xs → Reads (i ∷ []) (get_or xs n d) b → AllRead (i ∷ []) xs (set xs n b)
all_read_at i [] n b d lt about distinct readers reads = absurd (not-suc-le-zero lt)
all_read_at i (a ∷ xs) zero b d lt about distinct readers reads = (reads, all_read_apart i a.0 xs about distinct.0 (All-tail IsReader a xs readers))
all_read_at i (a ∷ xs) (suc n) b d lt about distinct readers reads =
    let g : ℕ = (get_or xs n d).0 in (
      reads_apart i a (All-head IsReader a xs readers) (apart_other a.0 g i about (is_other a.0 xs n d (omega (arith, lt)) distinct.0)),
      all_read_at i xs n b d (omega (arith, lt)) about distinct.1 (All-tail IsReader a xs readers) reads,
    )

-- the reader at one place made no input
pub all_read_none_at : (xs : List (ℕ × Seeing)) (n : ℕ) (b d : ℕ × Seeing) → n < length xs → All IsReader xs → Reads [] (get_or xs n d) b → AllRead [] xs (set xs n b)
all_read_none_at [] n b d lt readers reads = absurd (not-suc-le-zero lt)
all_read_none_at (a ∷ xs) zero b d lt readers reads = (reads, all_read_none xs (All-tail IsReader a xs readers))
all_read_none_at (a ∷ xs) (suc n) b d lt readers reads =
    (reads_none a (All-head IsReader a xs readers), all_read_none_at xs n b d (omega (arith, lt)) (All-tail IsReader a xs readers) reads)

-- the same, of the reader that was read there
pub all_read_by : (i : Input) (xs : List (ℕ × Seeing)) (n : ℕ) (r b : ℕ × Seeing) → n < length xs → r ≡ get_or xs n r → looked_at i ≡ Some r.0
    → AreDistinct (guilds_of xs) → All IsReader xs → Reads (i ∷ []) r b → AllRead (i ∷ []) xs (set xs n b)
all_read_by i xs n r b lt read about distinct readers reads =
    all_read_at i xs n b r lt (about ∙ ap (λ (x : ℕ × Seeing). Some x.0) read) distinct readers (subst (λ (x : ℕ × Seeing). Reads (i ∷ []) x b) read reads)

pub all_read_none_by : (xs : List (ℕ × Seeing)) (n : ℕ) (r b : ℕ × Seeing) → n < length xs → r ≡ get_or xs n r → All IsReader xs → Reads [] r b → AllRead [] xs (set xs n b)
all_read_none_by xs n r b lt read readers reads = all_read_none_at xs n b r lt readers (subst (λ (x : ℕ × Seeing). Reads [] x b) read reads)
