-- What was made for each entry, after one more.
use Rattle.std.proofs.Common.{◌≡◌, ℕ, ◌+◌, ◌≤◌, ◌<◌, List, [], ◌∷◌, ◌++◌, Bool, true, false, if◌then◌else◌, length, map, take, refl, sym, ap, subst, ◌∙◌, arith}
use Rattle.std.specs.Prelude.{◌==◌, ◌&&◌, filter, nat_le, All}
use Rattle.std.proofs.lemmas.List.Elements.{All-nil, All-cons, All-head, All-tail, All-append}
use Rattle.std.proofs.lemmas.List.{length-append, take-append-le}
use Rattle.std.proofs.Math.Seq.{take-length}
use Rattle.std.proofs.lemmas.Bool.{eqb-true}
use Rattle.std.proofs.lemmas.Bool.Decides.{nat_tests}
use Rattle.dispatch_types.specs.declared.viewer.Viewer.{Viewer}
use Rattle.dispatch_types.specs.declared.dispatch.Dispatch.{Dispatch}
use Rattle.edit_apply.specs.Edits.{state}
use Rattle.edit_apply.specs.declared.Edit.{Edit}
use Rattle.edit_events.specs.Due.{due}
use Rattle.session_core.specs.declared.reply.Mark.{Mark}
use Rattle.session_core.specs.declared.reply.Mark.TheVariants.{Start, Entry}
use Rattle.world_law.specs.Keeping.{Cursors}
use Rattle.world_law.specs.Entries.{EntriesHold, about_messages, first_cursors, is_for, made_for}
use Rattle.world_law.specs.Model.{Seen, cursors, seen_with}
use Rattle.world_law.specs.Sent.{SentDispatch, dispatch_of, told}
use Rattle.world_law.proofs.Lists.{append_none, by_split}
use Rattle.world_law.proofs.Quiet.{IsQuiet}
use Rattle.world_law.proofs.Folds.{same_id}

-- a session has been sent READY
abbrev pub IsBegun : List SentDispatch → Type 0
IsBegun [] = ⊥
IsBegun (t ∷ ts) = Unit {0}

abbrev pub IsOfEntry : Mark → Type 0
IsOfEntry (Entry g p) = Unit {0}
IsOfEntry _ = ⊥

-- a dispatch about messages has the mark of an entry
abbrev pub IsPlain : SentDispatch → Type 0
IsPlain t = about_messages t.dispatch ≡ true → IsOfEntry t.mark

pub record Entries (seen : Seen) (last : Cursors) (v : Viewer) (sent : List SentDispatch) : Type 0 where
  pub starts : IsBegun sent
  pub plain : All IsPlain sent
  pub holds : EntriesHold seen (first_cursors sent) last v sent

pub made-append : (g p : ℕ) (xs ys : List SentDispatch) → made_for g p (xs ++ ys) ≡ made_for g p xs ++ made_for g p ys
made-append g p [] ys = refl
made-append g p (x ∷ xs) ys = by_test (is_for g p x.mark) (made-append g p xs ys)
  where
    by_test : (b : Bool) → made_for g p (xs ++ ys) ≡ made_for g p xs ++ made_for g p ys
        → map dispatch_of (if b then x ∷ filter (λ (t : SentDispatch). is_for g p t.mark) (xs ++ ys) else filter (λ (t : SentDispatch). is_for g p t.mark) (xs ++ ys))
        ≡ map dispatch_of (if b then x ∷ filter (λ (t : SentDispatch). is_for g p t.mark) xs else filter (λ (t : SentDispatch). is_for g p t.mark) xs) ++ made_for g p ys
    by_test true rest = ap (λ ds. x.dispatch ∷ ds) rest
    by_test false rest = rest

made-told : (g p : ℕ) (mark : Mark) (b a : Cursors) (ds : List Dispatch) → made_for g p (told mark b a ds) ≡ (if is_for g p mark then ds else [])
made-told g p mark b a [] = by_test (is_for g p mark)
  where
    none : List Dispatch
    none = []

    by_test : (t : Bool) → none ≡ (if t then none else none)
    by_test true = refl
    by_test false = refl
made-told g p mark b a (d ∷ ds) = by_test (is_for g p mark) (made-told g p mark b a ds)
  where
    by_test : (t : Bool) → made_for g p (told mark b a ds) ≡ (if t then ds else [])
        → map dispatch_of (if t then record { mark = mark; dispatch = d; before = b; after = a } ∷ filter (λ (u : SentDispatch). is_for g p u.mark) (told mark b a ds) else filter (λ (u : SentDispatch). is_for g p u.mark) (told mark b a ds)) ≡ (if t then d ∷ ds else [])
    by_test true rest = ap (λ xs. d ∷ xs) rest
    by_test false rest = rest

below : (a b : ℕ) → a < b → (a == b) ≡ false
below a b lt = grind (arith, nat_tests)

above : (a b : ℕ) → b < a → (a == b) ≡ false
above a b lt = grind (arith, nat_tests)

quiet_told : (mark : Mark) (b a : Cursors) (ds : List Dispatch) → All IsQuiet ds → All IsPlain (told mark b a ds)
quiet_told mark b a [] quiet = All-nil IsPlain
quiet_told mark b a (d ∷ ds) quiet =
    All-cons IsPlain _ (told mark b a ds) (λ about. absurd (cc (All-head IsQuiet d ds quiet, about))) (quiet_told mark b a ds (All-tail IsQuiet d ds quiet))

entry_told : (g p : ℕ) (b a : Cursors) (ds : List Dispatch) → All IsPlain (told (Entry g p) b a ds)
entry_told g p b a [] = All-nil IsPlain
entry_told g p b a (d ∷ ds) = All-cons IsPlain _ (told (Entry g p) b a ds) (λ about. tt) (entry_told g p b a ds)

-- of logs that have grown
pub entries_grown : (was is : Seen) (start last : Cursors) (v : Viewer) (sent : List SentDispatch) → ((g p : ℕ) → p ≤ last g → take p (is g) ≡ take p (was g))
    → EntriesHold was start last v sent → EntriesHold is start last v sent
entries_grown was is start last v sent same old = record {
  handled = λ g front e h from upto. old.handled g front e (sym (same g (length front + 1) upto) ∙ h) from upto;
  before = old.before;
  beyond = old.beyond;
  begun = old.begun;
}

-- a session that begins
pub entries_first : (seen : Seen) (v : Viewer) (d : Dispatch) (ds : List Dispatch) → All IsQuiet (d ∷ ds) → Entries seen (cursors seen) v (told Start (cursors seen) (cursors seen) (d ∷ ds))
entries_first seen v d ds quiet = record {
  starts = tt;
  plain = quiet_told Start (cursors seen) (cursors seen) (d ∷ ds) quiet;
  holds = record {
    handled = λ g front e h from upto. absurd (omega (arith, from, upto));
    before = λ g p le. made-told g p Start (cursors seen) (cursors seen) (d ∷ ds);
    beyond = λ g p lt. made-told g p Start (cursors seen) (cursors seen) (d ∷ ds);
    begun = λ g. omega arith;
  };
}

module _ (seen : Seen) (at : ℕ) (e : Edit) (start : Cursors) (v : Viewer) (sent : List SentDispatch) (old : EntriesHold seen start (cursors seen) v sent) where
  abbrev now : Seen
  now = seen_with seen at e

  abbrev ds : List Dispatch
  ds = due (state at (seen at)) e v

  abbrev batch : List SentDispatch
  batch = told (Entry at (length (seen at) + 1)) (cursors seen) (cursors now) ds

  made : (g p : ℕ) → made_for g p (sent ++ batch) ≡ made_for g p sent ++ (if (at == g) && (length (seen at) + 1 == p) then ds else [])
  made g p = made-append g p sent batch ∙ ap (λ xs. made_for g p sent ++ xs) (made-told g p (Entry at (length (seen at) + 1)) (cursors seen) (cursors now) ds)

  none_more : (g p : ℕ) (b : Bool) → (at == g) ≡ b → (b ≡ true → (length (seen g) + 1 == p) ≡ false) → (if b && (length (seen at) + 1 == p) then ds else []) ≡ []
  none_more g p true same apart =
      let here : at ≡ g = eqb-true at g same in
      let other : (length (seen at) + 1 == p) ≡ false = subst (λ (k : ℕ). (length (seen k) + 1 == p) ≡ false) (sym here) (apart refl) in
      ap (λ t. if t then ds else []) other
  none_more g p false differ apart = refl

  -- an entry that was handled before
  as_before : (g p : ℕ) (xs : List Dispatch) → made_for g p sent ≡ xs → ((at == g) ≡ true → (length (seen g) + 1 == p) ≡ false) → made_for g p (sent ++ batch) ≡ xs
  as_before g p xs was apart =
      made g p ∙ (ap (λ ys. made_for g p sent ++ ys) (none_more g p (at == g) refl apart) ∙ (append_none (made_for g p sent) ∙ was))

  longer : (g : ℕ) (b : Bool) → (at == g) ≡ b → length (now g) ≡ (if b then length (seen g) + 1 else length (seen g))
  longer g true same = ap (λ t. length (if t then seen g ++ e ∷ [] else seen g)) same ∙ length-append (seen g) (e ∷ [])
  longer g false differ = ap (λ t. length (if t then seen g ++ e ∷ [] else seen g)) differ

  no_less : (g : ℕ) → length (seen g) ≤ length (now g)
  no_less g = by_id (at == g) (longer g (at == g) refl)
    where
      by_id : (b : Bool) → length (now g) ≡ (if b then length (seen g) + 1 else length (seen g)) → length (seen g) ≤ length (now g)
      by_id true h = omega arith
      by_id false h = omega arith

  -- the new entry itself
  newest : (g : ℕ) (front : List Edit) (x : Edit) → (at == g) ≡ true → seen g ++ e ∷ [] ≡ front ++ x ∷ [] → made_for g (length front + 1) (sent ++ batch) ≡ due (state g front) x v
  newest g front x same is =
      by_split (made_for g (length front + 1) (sent ++ batch) ≡ due (state g front) x v) (seen g) (e ∷ []) front x [] is
      (λ mid a b. absurd (omega (arith, ap length a, length-append mid (e ∷ []))))
      (λ mid a b. last mid a b)
    where
      last : (mid : List Edit) → front ≡ seen g ++ mid → e ∷ [] ≡ mid ++ x ∷ [] → made_for g (length front + 1) (sent ++ batch) ≡ due (state g front) x v
      last [] a b =
          let one : e ≡ x = cc in
          let whole : front ≡ seen g = a ∙ append_none (seen g) in
          let here : at ≡ g = eqb-true at g same in
          let P : ℕ → Type 0 = λ k. made_for k (length (seen k) + 1) (sent ++ batch) ≡ due (state k (seen k)) e v in
          let own : P at = made at (length (seen at) + 1)
          ∙ (ap (λ xs. xs ++ (if (at == at) && (length (seen at) + 1 == length (seen at) + 1) then ds else [])) (old.beyond at (length (seen at) + 1) (omega arith))
          ∙ simp (same_id at, same_id (length (seen at) + 1))) in
          let there : P g = subst P here own in
          subst (λ (es : List Edit). made_for g (length es + 1) (sent ++ batch) ≡ due (state g es) x v) (sym whole) (there ∙ ap (λ y. due (state g (seen g)) y v) one)
      last (m ∷ []) a b = absurd (cc)
      last (m ∷ n ∷ mid) a b = absurd (cc)

  handled_now : (g : ℕ) (front : List Edit) (x : Edit) (b : Bool) → (at == g) ≡ b → take (length front + 1) (if b then seen g ++ e ∷ [] else seen g) ≡ front ++ x ∷ [] → start g ≤ length front
      → length front + 1 ≤ length (if b then seen g ++ e ∷ [] else seen g) → made_for g (length front + 1) (sent ++ batch) ≡ due (state g front) x v
  handled_now g front x true same is from upto = by_length (nat_le (length front + 1) (length (seen g))) refl
    where
      by_length : (b : Bool) → nat_le (length front + 1) (length (seen g)) ≡ b → made_for g (length front + 1) (sent ++ batch) ≡ due (state g front) x v
      by_length true fits =
          let shorter : length front + 1 ≤ length (seen g) = grind (arith, nat_tests, fits) in
          as_before g (length front + 1) (due (state g front) x v)
          (old.handled g front x (sym (take-append-le (length front + 1) (seen g) (e ∷ []) shorter) ∙ is) from shorter)
          (λ t. above (length (seen g) + 1) (length front + 1) (omega (arith, shorter)))
      by_length false past =
          let longest : length (seen g) + 1 ≤ length front + 1 = grind (arith, nat_tests, past) in
          let all : length front + 1 ≡ length (seen g ++ e ∷ []) = omega (arith, longest, upto, length-append (seen g) (e ∷ [])) in
          newest g front x same (sym (take-length (seen g ++ e ∷ [])) ∙ (ap (λ n. take n (seen g ++ e ∷ [])) (sym all) ∙ is))
  handled_now g front x false differ is from upto =
      as_before g (length front + 1) (due (state g front) x v) (old.handled g front x is from upto) (λ t. absurd (cc))

  entries_more : EntriesHold now start (cursors now) v (sent ++ batch)
  entries_more = record {
    handled = λ g front x is from upto. handled_now g front x (at == g) refl is from upto;
    before = λ g p le. as_before g p [] (old.before g p le) (λ t. above (length (seen g) + 1) p (omega (arith, old.begun g, le)));
    beyond = λ g p lt. as_before g p [] (old.beyond g p (omega (arith, lt, no_less g)))
        (λ t. below (length (seen g) + 1) p (omega (arith, lt, longer g true t)));
    begun = λ g. omega (arith, old.begun g, no_less g);
  }

-- one more entry of a session that resumes
pub entries_after : (seen : Seen) (at : ℕ) (e : Edit) (v : Viewer) (sent : List SentDispatch) → Entries seen (cursors seen) v sent
    → Entries (seen_with seen at e) (cursors (seen_with seen at e)) v (sent ++ told (Entry at (length (seen at) + 1)) (cursors seen) (cursors (seen_with seen at e)) (due (state at (seen at)) e v))
entries_after seen at e v [] old = absurd (old.starts)
entries_after seen at e v (t ∷ ts) old = record {
  starts = tt;
  plain = All-append IsPlain (t ∷ ts) _ old.plain (entry_told at (length (seen at) + 1) (cursors seen) (cursors (seen_with seen at e)) (due (state at (seen at)) e v));
  holds = entries_more seen at e t.before v (t ∷ ts) old.holds;
}
