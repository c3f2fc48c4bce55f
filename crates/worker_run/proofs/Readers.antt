-- What a look or a rebase of a reader makes of it.
use Rattle.std.proofs.Common.{◌≡◌, ℕ, Bool, true, false, true≢false, List, [], ◌∷◌, ◌++◌, Some, Result, Ok, Err, OnErr, length, take, drop, take-append-drop, take_all, refl, sym, ap, subst, ◌∙◌, arith}
use Rattle.std.proofs.lemmas.List.{take-append-le}
use mathlib.Core.List.{IsPrefix}
use Rattle.guild_model.specs.Record.{Record}
use Rattle.edit_apply.specs.Edits.{state}
use Rattle.edit_apply.specs.declared.Edit.{Edit}
use Rattle.guild_hub.specs.Logs.{record_after, trimmed}
use Rattle.guild_hub.specs.Sights.{Seeing, segment, end_of, with_more}
use Rattle.guild_hub.specs.Looks.{StepsTo, Rebases}
use Rattle.guild_hub.specs.Looks.{Looks as Sees}
use Rattle.guild_hub.specs.declared.reader.Looked.{Looked}
use Rattle.guild_hub.specs.declared.reader.Rebased.{Rebased}
use Rattle.world_law.specs.Inputs.{Look, Rebase}
use Rattle.worker_core.specs.declared.io.Input.TheVariants as given
use Rattle.worker_run.specs.declared.looks.Seen.{Seen}
use Rattle.worker_run.specs.Hubs.{kept_part, handled_by, passed, Reads, IsReader}
use Rattle.worker_run.specs.Looking.{Looks}
use Rattle.worker_run.proofs.Hubs.{front_itself, front_on, front_taken, reads_none, reads_join, same_then}

-- what a reader has passed over stays a front of the log
passed_stays : (a : ℕ × Seeing) (s : Seeing) → IsReader a → StepsTo a.1 s → take (end_of a.1.last) s.log.entries ≡ passed a.1
passed_stays a s reader steps =
    ap (λ l. take (end_of a.1.last) l) (sym steps.log.entries.1) ∙ take-append-le (end_of a.1.last) a.1.log.entries steps.log.entries.0 reader.1.within

passed_whole : (s : Seeing) → end_of s.last ≡ length s.log.entries → passed s ≡ s.log.entries
passed_whole s reaches = ap (λ n. take n s.log.entries) reaches ∙ take_all (length s.log.entries) s.log.entries (omega arith)

-- a step that gave nothing
pub read_nothing : (a : ℕ × Seeing) (s : Seeing) → IsReader a → StepsTo a.1 s → s.last ≡ a.1.last → Reads [] a (a.0, s)
read_nothing a s reader steps last = record {
  guild = refl;
  hub = steps.log.hub;
  last = last;
  passes = ap (λ l. take (end_of l) s.log.entries) last ∙ passed_stays a s reader steps;
  order = front_on (passed a.1) a.1.log.entries s.log.entries (front_taken (end_of a.1.last) a.1.log.entries) steps.log.entries;
  log = steps.log;
  fits = steps.fits;
  mark = steps.mark;
  quit = steps.quit;
}

-- a step that failed
pub entered_only : (a : ℕ × Seeing) (s : Seeing) → IsReader a → s ≡ record a.1 { enters = s.enters } → Reads [] a (a.0, s)
entered_only a s reader same =
    let none : Reads [] a a = reads_none a reader in
    subst (λ (t : Seeing). Reads [] a (a.0, t)) (sym same) (record {
      guild = refl;
      hub = refl;
      last = refl;
      passes = refl;
      order = none.order;
      log = none.log;
      fits = reader.1;
      mark = refl;
      quit = λ q. q;
    })

still_reader : (a : ℕ × Seeing) (s : Seeing) → IsReader a → StepsTo a.1 s → IsReader (a.0, s)
still_reader a s reader steps = (ap (λ hub. hub.guild) steps.log.hub ∙ reader.0, steps.fits)

-- a look
look_reads : (a : ℕ × Seeing) (s : Seeing) (looked : Looked) → IsReader a → Sees a.1 looked s → Reads (Look a.0 looked.entries.items ∷ []) a (a.0, s)
look_reads a s looked reader sees =
    let g : ℕ = a.0 in
    let es : List Edit = looked.entries.items in
    let before : List Edit = passed a.1 in
    let all : before ++ es ≡ s.log.entries =
    ap (λ l. l ++ es) (sym (passed_stays a s reader sees.steps)) ∙ (ap (λ l. take (end_of a.1.last) s.log.entries ++ l) sees.entries ∙ take-append-drop (end_of a.1.last) s.log.entries) in
    let made : before ++ es ≡ handled_by g before (Look g es) = sym (same_then g (before ++ es) before) in
    record {
      guild = refl;
      hub = sees.steps.log.hub;
      last = sees.last ∙ sym (same_then g (with_more a.1.last es) a.1.last);
      passes = passed_whole s sees.reaches ∙ (sym all ∙ made);
      order = (subst (λ l. IsPrefix before l) made (es, refl), subst (λ l. IsPrefix l s.log.entries) (sym all ∙ made) (front_itself s.log.entries));
      log = sees.steps.log;
      fits = sees.steps.fits;
      mark = sees.steps.mark;
      quit = sees.steps.quit;
    }

pub look_seen : (a : ℕ × Seeing) (s : Seeing) (looked : Looked) (es : List Edit) (some : Bool) → es ≡ looked.entries.items → IsReader a → Sees a.1 looked s
    → Looks (record { input = given.Look a.0 es; some = some; sealed = looked.sealed; quit = looked.quit }) a (a.0, s)
look_seen a s looked es some same reader sees = record {
  input = Look a.0 es;
  is_given = refl;
  about = refl;
  reads = subst (λ l. Reads (Look a.0 l ∷ []) a (a.0, s)) (sym same) (look_reads a s looked reader sees);
  reader = still_reader a s reader sees.steps;
  sealed = λ e. (sym sees.sealed ∙ e, sees.reaches);
  quit = λ e. sym sees.quit ∙ e;
}

-- a rebase
rebase_reads : (a : ℕ × Seeing) (s : Seeing) (rebased : Rebased) → IsReader a → Rebases a.1 rebased s → Reads (Rebase a.0 s.log.entries ∷ []) a (a.0, s)
rebase_reads a s rebased reader sees =
    let g : ℕ = a.0 in
    let before : List Edit = passed a.1 in
    let log : List Edit = s.log.entries in
    let made : log ≡ handled_by g before (Rebase g log) = sym (same_then g log before) in
    let own : s.log.hub.guild ≡ g = (still_reader a s reader sees.steps).0 in
    let part : s.last ≡ kept_part g log =
    sees.last ∙ ap (λ (l : List Edit). segment rebased.base rebased.basis l) sees.entries
    ∙ ap (λ (r : Record). segment rebased.base r (drop rebased.base log)) sees.basis
    ∙ ap (λ (n : ℕ). segment n (record_after s.log n) (drop n log)) sees.base
    ∙ ap (λ (h : ℕ). segment (trimmed (length log)) (state h (take (trimmed (length log)) log)) (drop (trimmed (length log)) log)) own in
    record {
      guild = refl;
      hub = sees.steps.log.hub;
      last = part ∙ sym (same_then g (kept_part g log) a.1.last);
      passes = passed_whole s sees.reaches ∙ made;
      order = (
        subst (λ l. IsPrefix before l) made (front_on before a.1.log.entries log (front_taken (end_of a.1.last) a.1.log.entries) sees.steps.log.entries),
        subst (λ l. IsPrefix l log) made (front_itself log),
      );
      log = sees.steps.log;
      fits = sees.steps.fits;
      mark = sees.steps.mark;
      quit = sees.steps.quit;
    }

pub rebase_seen : (a : ℕ × Seeing) (s : Seeing) (rebased : Rebased) (es : List Edit) → es ≡ rebased.entries.items → IsReader a → Rebases a.1 rebased s
    → Looks (record { input = given.Rebase a.0 rebased.base rebased.basis es; some = true; sealed = rebased.sealed; quit = false }) a (a.0, s)
rebase_seen a s rebased es same reader sees = record {
  input = Rebase a.0 s.log.entries;
  is_given = (s.log.entries, (refl, (sees.basis ∙ ap (λ h. state h (take rebased.base s.log.entries)) (still_reader a s reader sees.steps).0, same ∙ sees.entries)));
  about = refl;
  reads = rebase_reads a s rebased reader sees;
  reader = still_reader a s reader sees.steps;
  sealed = λ e. (sym sees.sealed ∙ e, sees.reaches);
  quit = λ e. absurd (true≢false (sym e));
}

-- a look after a step that gave nothing
pub looks_later : (seen : Seen) (a mid b : ℕ × Seeing) → Reads [] a mid → Looks seen mid b → Looks seen a b
looks_later seen a mid b none looks = record {
  input = looks.input;
  is_given = looks.is_given;
  about = looks.about ∙ ap Some none.guild;
  reads = reads_join [] (looks.input ∷ []) a mid b none looks.reads;
  reader = looks.reader;
  sealed = looks.sealed;
  quit = looks.quit;
}

-- the same, where the look lags
pub lagged_then : (seen : Seen) (a : ℕ × Seeing) (s : Seeing) (b : ℕ × Seeing) → IsReader a → StepsTo a.1 s → s.last ≡ a.1.last → Looks seen (a.0, s) b → Looks seen a b
lagged_then seen a s b reader steps last looks = looks_later seen a (a.0, s) b (read_nothing a s reader steps last) looks

pub on_err : {T E P : Type 0} (r : Result T E) → P → OnErr r P
on_err (Ok x) p = tt
on_err (Err e) p = p
