use Rattle.std.proofs.Common.{◌≡◌, ℕ, ◌<◌, List, [], ◌∷◌, All, Result, Ok, Err, IfOk, OnErr, length, get_or, set, sym, ap, subst, ◌∙◌}
use Rattle.std.proofs.lemmas.Result.{IfOk-weaker, on_err_weaker}
use Rattle.guild_hub.specs.Sights.{Seeing}
use Rattle.worker_run.specs.declared.looks.Seen.{Seen}
use Rattle.worker_run.specs.Hubs.{Reads, IsReader, AllRead}
use Rattle.guild_places.specs.Places.{AreDistinct, guilds_of}
use Rattle.worker_run.specs.Looking.{Looks}
use Rattle.worker_run.specs.Moves.{Serving}
use Rattle.worker_run.specs.Parts.{Sees}
use Rattle.worker_run.proofs.Hubs.{same_guilds, all_read_by, all_read_none_by}
use Rattle.worker_run.proofs.Sighting.{sees_by}
use Rattle.worker_run.proofs.serving.Serving.see.Goals as goal

-- a look by the reader that was read at a place
module _ (xs : List (ℕ × Seeing)) (place : ℕ) (r b : ℕ × Seeing) (lt : place < length xs) (read : r ≡ get_or xs place r)
    (readers : All IsReader xs) (distinct : AreDistinct (guilds_of xs)) where
  sees : {E : Type 0} (q : Result Seen E) → IfOk q (λ seen. Looks seen r b) → IfOk q (λ seen. Sees place seen xs (set xs place b))
  sees q ok =
      IfOk-weaker q (λ seen. Looks seen r b) (λ seen. Sees place seen xs (set xs place b))
      (λ seen looks. sees_by xs place r b lt seen readers distinct (subst (λ (v : ℕ × Seeing). Looks seen v b) read looks)) ok

  reads_none : {E : Type 0} (q : Result Seen E) → OnErr q (Reads [] r b) → OnErr q (AllRead [] xs (set xs place b))
  reads_none q err = on_err_weaker q (all_read_none_by xs place r b lt read readers) err

  guilds_stay : {E : Type 0} (q : Result Seen E) → IfOk q (λ seen. Looks seen r b) → OnErr q (Reads [] r b) → guilds_of (set xs place b) ≡ guilds_of xs
  guilds_stay (Ok seen) ok err =
      same_guilds (ok.input ∷ []) xs (set xs place b) (all_read_by ok.input xs place r b lt read ok.about distinct readers ok.reads)
  guilds_stay (Err e) ok err = same_guilds [] xs (set xs place b) (all_read_none_by xs place r b lt read readers err)

pub invariant_of-self : goal.invariant_of-self
invariant_of-self g c =
    let xs : List (ℕ × Seeing) = c.self.inside.readers.items in
    let same : c.args.self.now.readers ≡ xs = sym (ap (λ (s : Serving). s.readers) c.self.view_is) in
    c.self.invariant ∙ sym (guilds_stay xs c.args.place c.index_mut.result.now c.look_at.new.reader
    (subst (λ (l : List (ℕ × Seeing)). c.args.place < length l) same c.requires.place) c.index_mut.ensures.value
    (subst (λ (l : List (ℕ × Seeing)). All IsReader l) same c.requires.readers.0) (subst (λ (l : List (ℕ × Seeing)). AreDistinct (guilds_of l)) same c.requires.readers.1)
    c.look_at.result c.look_at.ensures.ok c.look_at.ensures.err)

pub returns-clause-ok : goal.returns-clause-ok
returns-clause-ok g c =
    let xs : List (ℕ × Seeing) = c.self.inside.readers.items in
    let back : xs ≡ c.args.self.now.readers = ap (λ (s : Serving). s.readers) c.self.view_is in
    let same : c.args.self.now.readers ≡ xs = sym back in
    subst (λ (l : List (ℕ × Seeing)). IfOk c.look_at.result (λ seen. Sees c.args.place seen l (set xs c.args.place c.look_at.new.reader))) back
    (sees xs c.args.place c.index_mut.result.now c.look_at.new.reader
    (subst (λ (l : List (ℕ × Seeing)). c.args.place < length l) same c.requires.place) c.index_mut.ensures.value
    (subst (λ (l : List (ℕ × Seeing)). All IsReader l) same c.requires.readers.0) (subst (λ (l : List (ℕ × Seeing)). AreDistinct (guilds_of l)) same c.requires.readers.1)
    c.look_at.result c.look_at.ensures.ok)

pub returns-clause-err : goal.returns-clause-err
returns-clause-err g c =
    let xs : List (ℕ × Seeing) = c.self.inside.readers.items in
    let back : xs ≡ c.args.self.now.readers = ap (λ (s : Serving). s.readers) c.self.view_is in
    let same : c.args.self.now.readers ≡ xs = sym back in
    subst (λ (l : List (ℕ × Seeing)). OnErr c.look_at.result (AllRead [] l (set xs c.args.place c.look_at.new.reader))) back
    (reads_none xs c.args.place c.index_mut.result.now c.look_at.new.reader
    (subst (λ (l : List (ℕ × Seeing)). c.args.place < length l) same c.requires.place) c.index_mut.ensures.value
    (subst (λ (l : List (ℕ × Seeing)). All IsReader l) same c.requires.readers.0) (subst (λ (l : List (ℕ × Seeing)). AreDistinct (guilds_of l)) same c.requires.readers.1)
    c.look_at.result c.look_at.ensures.err)
