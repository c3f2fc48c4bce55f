-- Readers and the sealed logs of their hubs.
use Rattle.std.proofs.Common.{◌≡◌, ℕ, ◌<◌, ◌==◌, Bool, true, false, List, [], ◌∷◌, map, Some, if◌then◌else◌, refl, sym, ap, ap₂, ◌∙◌, subst, arith}
use Rattle.std.specs.Prelude.{Option, option_map, IsSomeAnd}
use Rattle.std.specs.List.{All, AllZip}
use Rattle.std.proofs.lemmas.Bool.Decides.{Decides-eqb, nat_tests}
use Rattle.std.proofs.lemmas.List.Elements.{All-nil, All-cons, All-head, All-tail}
use Rattle.collections.specs.ById.{IsById, AllAbove, find_id}
use Rattle.guild_hub.specs.Logs.{Published, GoesOn}
use Rattle.guild_hub.specs.Sights.{Seeing}
use Rattle.load_settle.specs.Readers.{log_under, IsLogOf, HasLog}
use Rattle.run_ends.specs.Logs.{HasPart}
use Rattle.worker_run.specs.Hubs.{HasSeenAll}
use Rattle.gate_ends.proofs.Writers.{Log, guild_of}

abbrev pub Reader : Type 0
Reader = ℕ × Seeing

-- a reader of the log's hub, beside the log's guild
abbrev pub ReadsLog : Log → Reader → Type 0
ReadsLog l r = (r.0 ≡ l.0) × (r.1.log.hub ≡ l.1.hub) × (l.1.sealed ≡ true)

-- the log stands under the reader's guild
abbrev IsUnder : List Log → Log → Reader → Type 0
IsUnder ls l r = log_under r.0 ls ≡ Some l.1

shown : Log → Published
shown l = l.1

here : (l : Log) (ls : List Log) (g : ℕ) → (l.0 == g) ≡ true → log_under g (l ∷ ls) ≡ Some l.1
here l ls g e = ap (λ (b : Bool). option_map (λ (log : Log). log.1) (if b then Some l else find_id guild_of g ls)) e

there : (l : Log) (ls : List Log) (g : ℕ) → (l.0 == g) ≡ false → log_under g (l ∷ ls) ≡ log_under g ls
there l ls g e = ap (λ (b : Bool). option_map (λ (log : Log). log.1) (if b then Some l else find_id guild_of g ls)) e

later : (l : Log) (ls ks : List Log) (rs : List Reader) → AllAbove guild_of l.0 ks → AllZip ReadsLog ks rs → AllZip (IsUnder ls) ks rs → AllZip (IsUnder (l ∷ ls)) ks rs
later l ls [] [] up of h = tt
later l ls [] (r ∷ rs) up of h = elim of [ ]
later l ls (k ∷ ks) [] up of h = elim of [ ]
later l ls (k ∷ ks) (r ∷ rs) up of h =
    let over : l.0 < r.0 = omega (arith, up.0, of.0.0) in
    let other : (l.0 == r.0) ≡ false = grind (arith, nat_tests, over) in
    (there l ls r.0 other ∙ h.0, later l ls ks rs up.1 of.1 h.1)

pub all_under : (ls : List Log) (rs : List Reader) → IsById guild_of ls → AllZip ReadsLog ls rs → AllZip (IsUnder ls) ls rs
all_under [] [] up of = tt
all_under [] (r ∷ rs) up of = elim of [ ]
all_under (l ∷ ls) [] up of = elim of [ ]
all_under (l ∷ ls) (r ∷ rs) up of = (here l ls r.0 ((Decides-eqb l.0 r.0).1 (sym of.0.0)), later l ls ls rs up.0 of.1 (all_under ls rs up.1 of.1))

-- each reader's log is among them
logs_under : (all ls : List Log) (rs : List Reader) → AllZip ReadsLog ls rs → AllZip (IsUnder all) ls rs → All (HasLog all) rs
logs_under all [] [] of under = All-nil (HasLog all)
logs_under all [] (r ∷ rs) of under = elim of [ ]
logs_under all (l ∷ ls) [] of under = elim of [ ]
logs_under all (l ∷ ls) (r ∷ rs) of under =
    All-cons (HasLog all) r rs (subst (λ (o : Option Published). IsSomeAnd o (IsLogOf r.1)) (sym under.0) (sym of.0.1, of.0.2)) (logs_under all ls rs of.1 under.1)

pub all_have_logs : (ls : List Log) (rs : List Reader) → IsById guild_of ls → AllZip ReadsLog ls rs → All (HasLog ls) rs
all_have_logs ls rs up of = logs_under ls ls rs of (all_under ls rs up of)

abbrev pub log_of : Reader → Log
log_of r = (r.0, r.1.log)

-- readers that have seen all know the sealed logs
known : (all ls : List Log) (rs : List Reader) → AllZip ReadsLog ls rs → AllZip (IsUnder all) ls rs → All (HasPart all) rs → All HasSeenAll rs → map log_of rs ≡ ls
known all [] [] of under part seen = refl
known all [] (r ∷ rs) of under part seen = elim of [ ]
known all (l ∷ ls) [] of under part seen = elim of [ ]
known all (l ∷ ls) (r ∷ rs) of under part seen =
    let goes : GoesOn r.1.log l.1 = subst (λ (o : Option Published). IsSomeAnd o (GoesOn r.1.log)) under.0 (All-head (HasPart all) r rs part) in
    let same : l.1 ≡ r.1.log = goes.final (All-head HasSeenAll r rs seen).0 in
    ap₂ (λ k ks. k ∷ ks) (ap₂ (λ (g : ℕ) (log : Published). (g, log)) of.0.0 (sym same)) (known all ls rs of.1 under.1 (All-tail (HasPart all) r rs part) (All-tail HasSeenAll r rs seen))

pub all_known : (ls : List Log) (rs : List Reader) → IsById guild_of ls → AllZip ReadsLog ls rs → All (HasPart ls) rs → All HasSeenAll rs → map log_of rs ≡ ls
all_known ls rs up of = known ls ls rs of (all_under ls rs up of)
