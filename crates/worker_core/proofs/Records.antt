-- The records of a worker's replicas are those of the model.
use Rattle.std.proofs.Common.{◌≡◌, ℕ, List, [], ◌∷◌, ◌++◌, Bool, true, false, Option, Some, None, if◌then◌else◌, map, refl, sym, ap, subst, ◌∙◌}
use Rattle.std.specs.Prelude.{◌==◌, IsSome, flat_map, is_some, option_map, nat_lt}
use Rattle.std.proofs.lemmas.Bool.{eqb-true}
use Rattle.collections.specs.ById.{find_id, has_id, put_id, IsById}
use Rattle.collections.proofs.Ids.{IsById-put}
use Rattle.collections.proofs.Finds.{same_by_id, find-put, find-map, key-found, IsById-map}
use Rattle.guild_model.specs.Record.{Record, own_id}
use Rattle.dispatch_types.specs.Fold.{contains}
use Rattle.edit_apply.specs.Edits.{state}
use Rattle.edit_apply.specs.declared.Edit.{Edit}
use Rattle.world_law.specs.Keeping.{record_id}
use Rattle.world_law.specs.Model.{Seen, record_of}
use Rattle.world_law.proofs.Logs.{state_id}
use Rattle.world_law.proofs.Found.{contains_found, find_record}
use Rattle.guild_replica.specs.Replicas.{GuildCopy}
use Rattle.worker_core.specs.InCode.{KeptWorker, bare, replica_id, guild_of}

-- a replica that is put is a record that is put
pub put_guild : (r : GuildCopy) (rs : List GuildCopy) → map guild_of (put_id replica_id r rs) ≡ put_id record_id (guild_of r) (map guild_of rs)
put_guild r [] = refl
put_guild r (x ∷ rs) = by_tests (nat_lt (replica_id r) (replica_id x)) (replica_id r == replica_id x) (put_guild r rs)
  where
    by_tests : (below same : Bool) → map guild_of (put_id replica_id r rs) ≡ put_id record_id (guild_of r) (map guild_of rs)
        → map guild_of (if below then r ∷ x ∷ rs else (if same then r ∷ rs else x ∷ put_id replica_id r rs))
        ≡ (if below then guild_of r ∷ guild_of x ∷ map guild_of rs else (if same then guild_of r ∷ map guild_of rs else guild_of x ∷ put_id record_id (guild_of r) (map guild_of rs)))
    by_tests true same rest = refl
    by_tests false true rest = refl
    by_tests false false rest = ap (λ gs. guild_of x ∷ gs) rest

-- ---- copies by their records alone

bare_key : (r : GuildCopy) → replica_id (bare r) ≡ replica_id r
bare_key r = refl

pub put_bare : (r : GuildCopy) (rs : List GuildCopy) → map bare (put_id replica_id r rs) ≡ put_id replica_id (bare r) (map bare rs)
put_bare r [] = refl
put_bare r (x ∷ rs) = by_tests (nat_lt (replica_id r) (replica_id x)) (replica_id r == replica_id x) (put_bare r rs)
  where
    by_tests : (below same : Bool) → map bare (put_id replica_id r rs) ≡ put_id replica_id (bare r) (map bare rs)
        → map bare (if below then r ∷ x ∷ rs else (if same then r ∷ rs else x ∷ put_id replica_id r rs))
        ≡ (if below then bare r ∷ bare x ∷ map bare rs else (if same then bare r ∷ map bare rs else bare x ∷ put_id replica_id (bare r) (map bare rs)))
    by_tests true same rest = refl
    by_tests false true rest = refl
    by_tests false false rest = ap (λ gs. bare x ∷ gs) rest

pub find_bare : (g : ℕ) (rs : List GuildCopy) → find_id replica_id g (map bare rs) ≡ option_map bare (find_id replica_id g rs)
find_bare g rs = find-map replica_id replica_id bare bare_key g rs

pub bare_ascend : (rs : List GuildCopy) → IsById replica_id rs → IsById replica_id (map bare rs)
bare_ascend rs ascend = IsById-map replica_id replica_id bare bare_key rs ascend

-- what is made of their records alone
pub of_bare : {B : Type 0} (f : GuildCopy → List B) → ((r : GuildCopy) → f (bare r) ≡ f r) → (rs : List GuildCopy) → flat_map f (map bare rs) ≡ flat_map f rs
of_bare f same [] = refl
of_bare f same (r ∷ rs) = ap (λ xs. xs ++ flat_map f (map bare rs)) (same r) ∙ ap (λ xs. f r ++ xs) (of_bare f same rs)

pub bare_guilds : (rs : List GuildCopy) → map guild_of (map bare rs) ≡ map guild_of rs
bare_guilds [] = refl
bare_guilds (r ∷ rs) = ap (λ gs. guild_of r ∷ gs) (bare_guilds rs)

pub has_bare : (g : ℕ) (rs : List GuildCopy) → has_id replica_id g (map bare rs) ≡ has_id replica_id g rs
has_bare g rs = ap is_some (find_bare g rs) ∙ by_found (find_id replica_id g rs)
  where
    by_found : (o : Option GuildCopy) → is_some (option_map bare o) ≡ is_some o
    by_found None = refl
    by_found (Some r) = refl

-- the logs of a worker's value, as its copies move
pub logs_moved : (inside now : KeptWorker) → inside ≡ now → (copies logs : List GuildCopy) (f : List GuildCopy → List GuildCopy) → logs ≡ f inside.machine.logs
    → record inside { copies = copies; machine = record inside.machine { logs = logs } } ≡ record now { copies = copies; machine = record now.machine { logs = f now.machine.logs } }
logs_moved inside now is copies logs f moved =
    ap (λ (ls : List GuildCopy). record inside { copies = copies; machine = record inside.machine { logs = ls } }) moved
    ∙ ap (λ (h : KeptWorker). record h { copies = copies; machine = record h.machine { logs = f h.machine.logs } }) is

-- one that is found by its record alone is found
pub is_found : (g : ℕ) (rs : List GuildCopy) → IsSome (find_id replica_id g (map bare rs)) → IsSome (find_id replica_id g rs)
is_found g rs there = by_found (find_id replica_id g rs) (subst IsSome (find_bare g rs) there)
  where
    by_found : (o : Option GuildCopy) → IsSome (option_map bare o) → IsSome o
    by_found None there = there
    by_found (Some r) there = there

-- ---- their records

own_key : (r : GuildCopy) → record_id (guild_of r) ≡ replica_id r
own_key r = refl

pub find_guild : (g : ℕ) (rs : List GuildCopy) → find_id record_id g (map guild_of rs) ≡ option_map guild_of (find_id replica_id g rs)
find_guild g rs = find-map replica_id record_id guild_of own_key g rs

keyed : (seen : Seen) (g : ℕ) → record_id (record_of seen g) ≡ g
keyed seen g = state_id g (seen g)

pub records_ascend : (seen : Seen) (gs : List ℕ) → IsById own_id gs → IsById record_id (map (record_of seen) gs)
records_ascend seen gs h = IsById-map own_id record_id (record_of seen) (keyed seen) gs h

-- the records once more of one log was handled
module _ (was is : Seen) (g : ℕ) (others : (h : ℕ) → (g == h) ≡ false → is h ≡ was h) (gs : List ℕ) (ascend : IsById own_id gs) (there : contains g gs ≡ true) (r : Record) (made : r ≡ record_of is g) where
  pub put_record : put_id record_id r (map (record_of was) gs) ≡ map (record_of is) gs
  put_record =
      let at : record_id r ≡ g = ap record_id made ∙ state_id g (is g) in
      same_by_id record_id _ _ (IsById-put record_id r _ (records_ascend was gs ascend)) (records_ascend is gs ascend)
      (λ id. find-put record_id r id (map (record_of was) gs)
      ∙ (ap (λ o. if record_id r == id then Some r else o) (find_record was id gs)
      ∙ (ap (λ n. if n == id then Some r else option_map (record_of was) (find_id own_id id gs)) at
      ∙ (by_id id (g == id) refl (find_id own_id id gs) refl ∙ sym (find_record is id gs)))))
    where
      by_id : (id : ℕ) (b : Bool) → (g == id) ≡ b → (o : Option ℕ) → find_id own_id id gs ≡ o
          → (if b then Some r else option_map (record_of was) o) ≡ option_map (record_of is) o
      by_id id true same None found =
          let here : g ≡ id = eqb-true g id same in
          let lacks : contains g gs ≡ false = ap (λ n. contains n gs) here ∙ (contains_found id gs ∙ ap is_some found) in
          absurd (cc (there, lacks))
      by_id id true same (Some n) found =
          let one : n ≡ id = key-found own_id id gs n found in
          let here : g ≡ n = eqb-true g id same ∙ sym one in
          ap Some (made ∙ ap (λ n. record_of is n) here)
      by_id id false differ None found = refl
      by_id id false differ (Some n) found =
          let one : n ≡ id = key-found own_id id gs n found in
          let apart : (g == n) ≡ false = ap (λ k. g == k) one ∙ differ in
          ap Some (ap (λ (es : List Edit). state n es) (sym (others n apart)))
