-- The records of the model's worker, by the ids of its guilds.
use Rattle.std.proofs.Common.{◌≡◌, ℕ, List, [], ◌∷◌, Bool, true, false, Option, Some, None, if◌then◌else◌, map, refl, sym, ap, ◌∙◌}
use Rattle.std.specs.Prelude.{◌==◌, ◌||◌, is_some, option_map}
use Rattle.std.proofs.lemmas.Option.{same_Some}
use Rattle.collections.specs.ById.{find_id, has_id}
use Rattle.collections.proofs.Finds.{find-map, key-found}
use Rattle.guild_model.specs.Record.{Record, own_id}
use Rattle.dispatch_types.specs.declared.dispatch.Dispatch.{Dispatch}
use Rattle.dispatch_types.specs.Fold.{contains}
use Rattle.world_law.specs.Model.{Logs, Seen, in_model, record_of}
use Rattle.world_law.specs.Keeping.{record_at, record_id}
use Rattle.world_law.proofs.Logs.{state_id}

-- a list of ids contains what it finds
pub contains_found : (id : ℕ) (gs : List ℕ) → contains id gs ≡ has_id own_id id gs
contains_found id [] = refl
contains_found id (g ∷ gs) = by_id (g == id) (contains_found id gs)
  where
    by_id : (b : Bool) → contains id gs ≡ has_id own_id id gs → (b || contains id gs) ≡ is_some (if b then Some g else find_id own_id id gs)
    by_id true rest = refl
    by_id false rest = rest

keyed : (seen : Seen) (g : ℕ) → record_id (record_of seen g) ≡ g
keyed seen g = state_id g (seen g)

pub find_record : (seen : Seen) (g : ℕ) (gs : List ℕ) → find_id record_id g (map (record_of seen) gs) ≡ option_map (record_of seen) (find_id own_id g gs)
find_record seen g gs = find-map own_id record_id (record_of seen) (keyed seen) g gs

-- a record that is found is that of the guild, which the worker follows
pub found_here : (text : ℕ → Dispatch → List ℕ) (logs : Logs) (g : ℕ) (s : Record) → record_at (in_model text) logs g ≡ Some s → (contains g logs.guilds ≡ true) × (s ≡ record_of logs.seen g)
found_here text logs g s found = by_found (find_id own_id g logs.guilds) refl
  where
    by_found : (o : Option ℕ) → find_id own_id g logs.guilds ≡ o → (contains g logs.guilds ≡ true) × (s ≡ record_of logs.seen g)
    by_found None e = absurd (cc (found, find_record logs.seen g logs.guilds, ap (λ o. option_map (record_of logs.seen) o) e))
    by_found (Some n) e =
        let one : n ≡ g = key-found own_id g logs.guilds n e in
        let some : Some (record_of logs.seen n) ≡ Some s = sym (find_record logs.seen g logs.guilds ∙ ap (λ o. option_map (record_of logs.seen) o) e) ∙ found in
        (contains_found g logs.guilds ∙ ap is_some e, sym (same_Some (record_of logs.seen n) s some) ∙ ap (record_of logs.seen) one)

-- and the record of each guild that it follows is found
pub here_found : (text : ℕ → Dispatch → List ℕ) (logs : Logs) (g : ℕ) → contains g logs.guilds ≡ true → record_at (in_model text) logs g ≡ Some (record_of logs.seen g)
here_found text logs g there = find_record logs.seen g logs.guilds ∙ by_found (find_id own_id g logs.guilds) refl
  where
    by_found : (o : Option ℕ) → find_id own_id g logs.guilds ≡ o → option_map (record_of logs.seen) o ≡ Some (record_of logs.seen g)
    by_found None e = absurd (cc (there, contains_found g logs.guilds, ap is_some e))
    by_found (Some n) e = ap (λ n. Some (record_of logs.seen n)) (key-found own_id g logs.guilds n e)
