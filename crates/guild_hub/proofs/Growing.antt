-- What an entry more makes of a log.
use Rattle.std.proofs.Common.{◌≡◌, ◌≤◌, ◌<◌, ◌+◌, ◌-◌, ℕ, List, [], ◌∷◌, ◌++◌, length, take, drop, sym, refl, ap, ◌∙◌, subst, append-nil, arith}
use Rattle.std.proofs.lemmas.List.{length-append, length-drop, length-take-le, take_all, take-append-le, take-append-drop, drop-drop, drop-append-le}
use mathlib.Core.Path.{ap₂}
use Rattle.edit_apply.specs.declared.Edit.{Edit}
use Rattle.edit_apply.specs.Edits.{after}
use Rattle.guild_hub.specs.Logs.{Published, GoesOn, base_of, record_after}
use Rattle.guild_hub.specs.Marks.{has_store, EndsWithLoad}
use Rattle.guild_hub.specs.Sights.{Segment, segment, Fits, part_of, end_of, with_more}
use Rattle.guild_hub.specs.Rules.{FindsEntries}
use Rattle.guild_hub.specs.Sights.{Watching, seeing}
use Rattle.guild_hub.specs.Looks.{Looks, Lags, MayEnter, Rebases}
use Rattle.guild_hub.specs.declared.reader.Looked.{Looked}
use Rattle.guild_hub.specs.declared.reader.LookRefused.TheVariants.{Lagged, Memory}
use Rattle.guild_hub.specs.declared.reader.Rebased.{Rebased}
use Rattle.guild_hub.proofs.Marking.{stored_at_load}

-- a part of a log is a segment of it
pub part_fits : (log : Published) (base cursor : ℕ) → base ≤ cursor → cursor ≤ length log.entries → (end_of (part_of log base cursor) ≡ cursor) × Fits (part_of log base cursor) log
part_fits log base cursor up within =
    let rest : List Edit = drop base log.entries in
    let len : length (take (cursor - base) rest) ≡ cursor - base = length-take-le (cursor - base) rest (omega (arith, length-drop base log.entries)) in (
      omega (arith, len),
      record { within = omega (arith, len); basis = refl; entries = ap (λ n. take n rest) (sym len) },
    )

-- what was seen of a log is seen of it later
pub part_stays : (a b : Published) (base cursor : ℕ) → GoesOn a b → base ≤ cursor → cursor ≤ length a.entries → (part_of a base cursor ≡ part_of b base cursor) × (cursor ≤ length b.entries)
part_stays a b base cursor on up within =
    let rest = on.entries.0 in
    let es = on.entries.1 in
    let first : take base (a.entries ++ rest) ≡ take base a.entries = take-append-le base a.entries rest (omega arith) in
    let last : take (cursor - base) (drop base (a.entries ++ rest)) ≡ take (cursor - base) (drop base a.entries) =
    ap (take (cursor - base)) (drop-append-le base a.entries rest (omega arith)) ∙ take-append-le (cursor - base) (drop base a.entries) rest (omega (arith, length-drop base a.entries)) in (
      rw (on.hub, ← es, first, last) refl,
      omega (arith, ap length es, length-append a.entries rest),
    )

-- the entries after what was seen, added to it, make a part to the log's end
pub part_more : (log : Published) (base cursor : ℕ) → base ≤ cursor → cursor ≤ length log.entries → part_of log base (length log.entries) ≡ with_more (part_of log base cursor) (drop cursor log.entries)
part_more log base cursor up within =
    let es = log.entries in
    let k : ℕ = cursor - base in
    let all : take (length es - base) (drop base es) ≡ drop base es = take_all (length es - base) (drop base es) (omega (arith, length-drop base es)) in
    let there : base + k ≡ cursor = omega arith in
    let rest : drop k (drop base es) ≡ drop cursor es = drop-drop k base es ∙ ap (λ n. drop n es) there in
    rw (all, ← rest, take-append-drop k (drop base es)) refl

-- what was seen of a log is a part of it later
pub fits_later : (s : Segment) (a b : Published) → Fits s a → GoesOn a b → Fits s b
fits_later s a b fit on =
    let rest = on.entries.0 in
    let n : ℕ = length s.entries in
    let front : take s.base (a.entries ++ rest) ≡ take s.base a.entries = take-append-le s.base a.entries rest (omega (arith, fit.within)) in
    let part : take n (drop s.base (a.entries ++ rest)) ≡ take n (drop s.base a.entries) =
    ap (take n) (drop-append-le s.base a.entries rest (omega (arith, fit.within))) ∙ take-append-le n (drop s.base a.entries) rest (omega (arith, fit.within, length-drop s.base a.entries)) in record {
      within = omega (arith, fit.within, ap length on.entries.1, length-append a.entries rest);
      basis = rw (on.hub, ← on.entries.1, front) fit.basis;
      entries = rw (← on.entries.1, part) fit.entries;
    }

same_log : (a : Published) → GoesOn a a
same_log a = record { hub = refl; entries = ([], append-nil a.entries); final = λ s. refl }

-- a look that lags
pub lags : (a b : Published) (base cursor : ℕ) (enters : List Published) (q r : Watching) (low : ℕ) → GoesOn a b → base ≤ cursor → cursor ≤ length a.entries → low ≡ base_of b → cursor < low
    → r.mark ≡ q.mark → EndsWithLoad q.steps r.steps
    → Lags (seeing (part_of a base cursor) a enters q) (Lagged low cursor) (seeing (part_of b base cursor) b (enters ++ b ∷ []) r)
lags a b base cursor enters q r low on up within low_is past same load =
    let kept = part_stays a b base cursor on up within in (
      record { log = on; fits = (part_fits b base cursor up kept.1).1; mark = same; quit = stored_at_load q.steps r.steps load },
      refl,
      sym kept.0,
      low_is,
      sym (part_fits a base cursor up within).0,
      past,
    )

-- a look for which memory is out
pub gives_up : (a : Published) (base cursor : ℕ) (before after : List Published) (q r : Watching) → base ≤ cursor → cursor ≤ length a.entries → MayEnter before after
    → r.mark ≡ q.mark → EndsWithLoad q.steps r.steps
    → Lags (seeing (part_of a base cursor) a before q) Memory (seeing (part_of a base cursor) a after r)
gives_up a base cursor before after q r up within may same load = (
  record { log = same_log a; fits = (part_fits a base cursor up within).1; mark = same; quit = stored_at_load q.steps r.steps load },
  may,
  refl,
  refl,
)

-- a look that finds the entries after the cursor
pub looks : (a b : Published) (base cursor : ℕ) (enters : List Published) (q r : Watching) (looked : Looked) → GoesOn a b → base ≤ cursor → cursor ≤ length a.entries → FindsEntries cursor b looked.entries.items
    → looked.sealed ≡ b.sealed → looked.quit ≡ has_store r.steps → r.mark ≡ q.mark → EndsWithLoad q.steps r.steps
    → Looks (seeing (part_of a base cursor) a enters q) looked (seeing (part_of b base (length b.entries)) b (enters ++ b ∷ []) r)
looks a b base cursor enters q r looked on up within found sealed quit same load =
    let before = part_fits a base cursor up within in
    let kept = part_stays a b base cursor on up within in
    let whole = part_fits b base (length b.entries) (omega (arith, kept.1)) (omega arith) in record {
      steps = record { log = on; fits = whole.1; mark = same; quit = stored_at_load q.steps r.steps load };
      enters = refl;
      kept = subst (λ n. base_of b ≤ n) (sym before.0) found.0;
      entries = subst (λ n. looked.entries.items ≡ drop n b.entries) (sym before.0) found.1;
      last = part_more b base cursor up kept.1 ∙ ap₂ with_more (sym kept.0) (sym found.1);
      reaches = whole.0;
      sealed = sealed;
      quit = quit;
    }

-- a rebase that finds the record and the entries that are kept
pub rebases : (a b : Published) (base cursor : ℕ) (enters : List Published) (q : Watching) (rebased : Rebased) → GoesOn a b → rebased.base ≡ base_of b → rebased.basis ≡ record_after b (base_of b)
    → rebased.entries.items ≡ drop (base_of b) b.entries → rebased.sealed ≡ b.sealed
    → Rebases (seeing (part_of a base cursor) a enters q) rebased (seeing (part_of b rebased.base (length b.entries)) b (enters ++ b ∷ []) q)
rebases a b base cursor enters q rebased on base_is basis_is entries_is sealed =
    let n : ℕ = rebased.base in
    let es = b.entries in
    let low : n ≤ length es = omega (arith, base_is) in
    let whole = part_fits b n (length es) low (omega arith) in
    let basis : rebased.basis ≡ record_after b n = subst (λ k. rebased.basis ≡ record_after b k) (sym base_is) basis_is in
    let entries : rebased.entries.items ≡ drop n es = subst (λ k. rebased.entries.items ≡ drop k es) (sym base_is) entries_is in
    let all : take (length es - n) (drop n es) ≡ drop n es = take_all (length es - n) (drop n es) (omega (arith, length-drop n es)) in record {
      steps = record { log = on; fits = whole.1; mark = refl; quit = λ known. known };
      enters = refl;
      base = base_is;
      basis = basis;
      entries = entries;
      last = ap₂ (λ x l. segment n x l) (sym basis) (all ∙ sym entries);
      reaches = whole.0;
      sealed = sealed;
      marks = refl;
    }
