-- The log under a guild, by its place.
use Rattle.std.proofs.Common.{◌≡◌, ℕ, ◌<◌, Bool, true, false, List, length, get_or, Some, None, IsSome, sym, ap, subst, refl, ◌∙◌}
use Rattle.std.specs.Prelude.{Option, option_map, IsSomeAnd, slice_get, ◌==◌}
use Rattle.std.proofs.lemmas.Option.{slice_get_within, get_or_from_slice_get}
use Rattle.std.proofs.lemmas.Bool.{false≢true}
use Rattle.collections.specs.ById.{find_id, with_id, count_below, IsById}
use Rattle.collections.proofs.Ids.{find_at_place}
use Rattle.guild_hub.specs.Logs.{Published}
use Rattle.load_settle.specs.Readers.{log_under}

abbrev pub Log : Type 0
Log = ℕ × Published

abbrev pub guild_of : Log → ℕ
guild_of log = log.0

abbrev shown : Log → Published
shown log = log.1

-- what is found with an id is what stood there
with_is : (guild : ℕ) (o : Option Log) → IsSome (option_map shown (with_id guild_of guild o)) → (log : Log) × (o ≡ Some log) × (with_id guild_of guild o ≡ Some log)
with_is guild None there = absurd (false≢true there)
with_is guild (Some log) there = by_test (guild_of log == guild) refl
  where
    by_test : (b : Bool) → (guild_of log == guild) ≡ b → (l : Log) × (Some log ≡ Some l) × (with_id guild_of guild (Some log) ≡ Some l)
    by_test true is = (log, refl, rw is refl)
    by_test false is = absurd (false≢true (rw is at there))

-- the log under a guild stands where as many logs are of smaller guilds
pub log_is : (guild : ℕ) (logs : List Log) → IsById guild_of logs → IsSome (log_under guild logs)
    → (log : Log) × (count_below guild_of guild logs < length logs) × ((d : Log) → get_or logs (count_below guild_of guild logs) d ≡ log) × (log_under guild logs ≡ Some log.1)
log_is guild logs up there =
    let place = count_below guild_of guild logs in
    let same : with_id guild_of guild (slice_get logs place) ≡ find_id guild_of guild logs = find_at_place guild_of guild logs up in
    let found = with_is guild (slice_get logs place) (subst (λ o. IsSome (option_map shown o)) (sym same) there) in (
      found.0,
      slice_get_within logs place found.0 found.1,
      (λ d. get_or_from_slice_get logs place found.0 d found.1),
      ap (option_map shown) (sym same ∙ found.2),
    )

pub is_there : {T : Type 0} (o : Option T) (P : T → Type 0) → IsSomeAnd o P → IsSome o
is_there None P h = absurd h
is_there (Some x) P h = refl
