-- How a reader comes to the end of a sealed log.
use Rattle.std.proofs.Common.{◌≡◌, ℕ, ◌<◌, true, List, [], ◌∷◌, ◌++◌, length, drop, append-nil, append_assoc, sym, ap, subst, refl, ◌∙◌, arith}
use Rattle.std.proofs.lemmas.Bool.Decides.{nat_tests}
use Rattle.guild_hub.specs.Logs.{Published, GoesOn, base_of, record_after}
use Rattle.guild_hub.specs.Marks.{EndsWithLoad}
use Rattle.guild_hub.specs.Sights.{Seeing, Fits, segment, end_of, has_quit}
use Rattle.guild_hub.specs.Looks.{Lags, Rebases}
use Rattle.guild_hub.specs.declared.mark_step.MarkStep.{MarkStep}
use Rattle.guild_hub.specs.declared.reader.Rebased.{Rebased}
use Rattle.guild_hub.specs.declared.reader.LookRefused.TheVariants.{Lagged}
use Rattle.load_settle.specs.Readers.{lags, seen_whole, found_whole, SeesToEnd, Stays}

pub same_log : (a : Published) → GoesOn a a
same_log a = record { hub = refl; entries = ([], append-nil a.entries); final = λ sealed. refl }

goes_further : (a b c : Published) → GoesOn a b → GoesOn b c → GoesOn a c
goes_further a b c on more = record {
  hub = more.hub ∙ on.hub;
  entries = (
    on.entries.0 ++ more.entries.0,
    sym (append_assoc a.entries on.entries.0 more.entries.0) ∙ ap (λ l. l ++ more.entries.0) on.entries.1 ∙ more.entries.1,
  );
  final = λ sealed. more.final (ap (λ (l : Published). l.sealed) (on.final sealed) ∙ sealed) ∙ on.final sealed;
}

pub stays_itself : (s : Seeing) → Stays s s
stays_itself s = record { last = refl; log = same_log s.log; mark = refl; quit = λ quit. quit }

-- what stays of a reader that learns a note first
pub stays_told : (before told after : Seeing) → GoesOn before.log told.log → told ≡ record before { log = told.log } → Stays told after → Stays before after
stays_told before told after on is stays = record {
  last = stays.last ∙ ap (λ (s : Seeing). s.last) is;
  log = goes_further before.log told.log after.log on stays.log;
  mark = stays.mark ∙ ap (λ (s : Seeing). s.mark) is;
  quit = λ quit. stays.quit (ap (λ (s : Seeing). has_quit s) is ∙ quit);
}

kept_whole : (rebased : Rebased) (found log : Published) → found ≡ log → rebased.base ≡ base_of found → rebased.basis ≡ record_after found rebased.base → rebased.entries.items ≡ drop rebased.base found.entries
    → segment rebased.base rebased.basis rebased.entries.items ≡ segment (base_of log) (record_after log (base_of log)) (drop (base_of log) log.entries)
kept_whole rebased found log same base basis entries = rw (basis, entries, base, same) refl

-- a look that lags, and a rebase
pub rebases_whole : (before mid after : Seeing) (base cursor : ℕ) (rebased : Rebased) → before.log.sealed ≡ true → EndsWithLoad before.mark_steps mid.mark_steps
    → Lags before (Lagged base cursor) mid → Rebases mid rebased after → SeesToEnd before.log before after
rebases_whole before mid after base cursor rebased sealed load lagged rebases =
    let here : mid.log ≡ before.log = lagged.0.log.final sealed in
    let same : after.log ≡ before.log = rebases.steps.log.final (ap (λ (l : Published). l.sealed) here ∙ sealed) ∙ here in
    let past : end_of before.last < base_of before.log = omega (arith, lagged.5, lagged.3, lagged.4, ap base_of here) in
    let late : lags before.log before.last ≡ true = grind (arith, nat_tests, past) in record {
      steps = record {
        log = goes_further before.log mid.log after.log lagged.0.log rebases.steps.log;
        fits = rebases.steps.fits;
        mark = rebases.steps.mark ∙ lagged.0.mark;
        quit = λ quit. rebases.steps.quit (lagged.0.quit quit);
      };
      load = subst (EndsWithLoad before.mark_steps) (sym rebases.marks) load;
      enters = rebases.enters ∙ ap (λ l. l ++ after.log ∷ []) lagged.1 ∙ append_assoc before.enters (mid.log ∷ []) (after.log ∷ []) ∙ rw (late, same, here) refl;
      log = same;
      last = rebases.last ∙ kept_whole rebased after.log before.log same rebases.base rebases.basis rebases.entries ∙ rw late refl;
      fits = subst (Fits after.last) same rebases.steps.fits;
      reaches = rebases.reaches ∙ ap (λ (l : Published). length l.entries) same;
    }

-- what a reader sees that learns a sealed log's note first
pub ends_told : (before told after : Seeing) (log : Published) → log.sealed ≡ true → GoesOn log told.log → GoesOn before.log told.log → told ≡ record before { log = told.log } → SeesToEnd told.log told after → SeesToEnd log before after
ends_told before told after log sealed note on is ends =
    let here : told.log ≡ log = note.final sealed in
    let e = subst (λ (l : Published). SeesToEnd l told after) here ends in record {
      steps = record {
        log = goes_further before.log told.log after.log on ends.steps.log;
        fits = ends.steps.fits;
        mark = ends.steps.mark ∙ ap (λ (s : Seeing). s.mark) is;
        quit = λ quit. ends.steps.quit (ap (λ (s : Seeing). has_quit s) is ∙ quit);
      };
      load = subst (λ (steps : List MarkStep). EndsWithLoad steps after.mark_steps) (ap (λ (s : Seeing). s.mark_steps) is) e.load;
      enters = e.enters ∙ ap (λ (s : Seeing). s.enters ++ found_whole log s.last) is;
      log = e.log;
      last = e.last ∙ ap (λ (s : Seeing). seen_whole log s.last) is;
      fits = e.fits;
      reaches = e.reaches;
    }
