-- The readers of hubs, when one hub more is opened.
use Rattle.std.proofs.Common.{◌≡◌, ℕ, List, [], ◌∷◌, ◌++◌, map, length, sym, ap, subst, ◌∙◌, refl}
use Rattle.std.specs.Prelude.{All, replicate}
use Rattle.std.specs.Global.{Vec}
use Rattle.std.proofs.lemmas.List.{map_push}
use Rattle.std.proofs.lemmas.List.Elements.{All-replicate, All-same}
use Rattle.guild_hub.specs.Sights.{Seeing}
use Rattle.guild_hub.specs.Writes.{Publishing}
use Rattle.run_stage.specs.Dealing.{AreFrom}
use Rattle.run_stage.specs.Hubs.{Has, HasReaders, new_reader}
use Rattle.run_stage.proofs.Numbered.{alike}

abbrev Writer : Type 0
Writer = ℕ × Publishing

abbrev Reader : Type 0
Reader = ℕ × Seeing

-- each list has a reader of one hub more
pub more_readers : (places : ℕ) (ws more : List Writer) (w : Writer) (lists longer : List (Vec Reader)) (its : List Seeing) → HasReaders places ws lists
    → more ≡ ws ++ w ∷ [] → its ≡ replicate places (new_reader w).1 → length longer ≡ length lists
    → ((had : List Reader) (one : Seeing) → All (Has had) lists → All (λ r. r ≡ one) its → All (Has (had ++ (w.0, one) ∷ [])) longer)
    → HasReaders places more longer
more_readers places ws more w lists longer its has m i long added =
    let one = (new_reader w).1 in
    let Same : Seeing → Type 0 = λ r. r ≡ one in
    let whole : map new_reader more ≡ map new_reader ws ++ new_reader w ∷ [] = ap (map new_reader) m ∙ map_push new_reader ws w in
    record {
      lists = long ∙ has.lists;
      each_has = subst (λ l. All (Has l) longer) (sym whole) (added (map new_reader ws) one has.each_has (All-same Same its (replicate places one) i (All-replicate Same places one refl)));
    }

-- the lists of readers by their numbers
pub readers_from : (places : ℕ) (ws : List Writer) (lists : List (Vec Reader)) → HasReaders places ws lists → AreFrom (λ number. Has (map new_reader ws)) 0 places lists
readers_from places ws lists has = alike (Has (map new_reader ws)) 0 places lists has.lists has.each_has
