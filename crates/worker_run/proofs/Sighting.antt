-- A look by one reader among all.
use Rattle.std.proofs.Common.{◌≡◌, ℕ, ◌<◌, List, Option, Some, IfSome, slice_get, All, length, get_or, set, sym, ap, subst, ◌∙◌, arith}
use Rattle.std.proofs.lemmas.List.{get_or-set_same, length-set}
use Rattle.std.proofs.lemmas.List.Folds.{list_any_at}
use Rattle.std.proofs.lemmas.Option.{slice_get-get_or}
use Rattle.guild_hub.specs.Sights.{Seeing, has_quit}
use Rattle.worker_run.specs.declared.looks.Seen.{Seen}
use Rattle.worker_run.specs.Hubs.{IsReader, HasSeenAll}
use Rattle.guild_places.specs.Places.{AreDistinct, guilds_of}
use Rattle.worker_run.specs.Looking.{Looks}
use Rattle.worker_run.specs.Parts.{Sees}
use Rattle.worker_run.proofs.Hubs.{all_read_at}
use Rattle.guild_places.proofs.Guilds.{guild_of_place, many}

module _ (rs : List (ℕ × Seeing)) (place : ℕ) (d r : ℕ × Seeing) (lt : place < length rs) where
  within : place < length (set rs place r)
  within = omega (arith, lt, length-set rs place r)

  here : get_or (set rs place r) place d ≡ r
  here = get_or-set_same rs place r d lt

  guild_here : slice_get (guilds_of rs) place ≡ Some (get_or rs place d).0
  guild_here = slice_get-get_or (guilds_of rs) place 0 (omega (arith, lt, many rs)) ∙ ap Some (guild_of_place rs place 0 d lt)

  pub sees_by : (seen : Seen) → All IsReader rs → AreDistinct (guilds_of rs) → Looks seen (get_or rs place d) r → Sees place seen rs (set rs place r)
  sees_by seen readers distinct looks = record {
    input = looks.input;
    is_given = looks.is_given;
    guild = (get_or rs place d).0;
    about = looks.about;
    at_place = guild_here;
    reads = all_read_at looks.input rs place r d lt looks.about distinct readers looks.reads;
    sealed = λ seals.
        subst (λ (o : Option (ℕ × Seeing)). IfSome o HasSeenAll) (sym (slice_get-get_or (set rs place r) place d within ∙ ap Some here)) (looks.sealed seals);
    quit = λ quits. list_any_at (λ (v : ℕ × Seeing). has_quit v.1) (set rs place r) place d within (ap (λ (v : ℕ × Seeing). has_quit v.1) here ∙ looks.quit quits);
  }
