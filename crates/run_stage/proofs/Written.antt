-- The writers and readers of new hubs.
use Rattle.std.proofs.Common.{◌≡◌, ℕ, zero, suc, ◌+◌, ◌<◌, ◌==◌, ◌||◌, false, List, [], ◌∷◌, ◌++◌, map, take, length, get_or, refl, sym, ap, ap₂, subst, ◌∙◌, arith}
use Rattle.std.specs.Prelude.{All}
use Rattle.std.specs.List.{AllZip}
use Rattle.std.proofs.lemmas.List.{take_more}
use Rattle.std.proofs.lemmas.List.Elements.{All-nil, All-cons}
use Rattle.guild_hub.specs.Logs.{published}
use Rattle.guild_hub.specs.Writes.{Publishing, publishing}
use Rattle.guild_actor.specs.Acts.{AreNew}
use Rattle.guild_places.specs.Places.{AreDistinct, guilds_of, has_guild}
use Rattle.guild_places.proofs.Guilds.{first_of, rest_of}
use Rattle.run_stage.specs.Dealing.{evens, odds, dealt_to}
use Rattle.run_stage.specs.Hubs.{IsNewWriter, IsReaderOf, IsOwnReader, new_reader}

abbrev Writer : Type 0
Writer = ℕ × Publishing

-- ---- their guilds

pub guilds_are : (guilds : List ℕ) (ws : List Writer) → AllZip IsNewWriter guilds ws → guilds_of ws ≡ guilds
guilds_are [] [] all = refl
guilds_are [] (w ∷ ws) all = absurd all
guilds_are (g ∷ gs) [] all = absurd all
guilds_are (g ∷ gs) (w ∷ ws) all = ap₂ (λ x xs. x ∷ xs) all.0.beside (guilds_are gs ws all.1)

pub distinct_guilds : (guilds : List ℕ) (ws : List Writer) → AllZip IsNewWriter guilds ws → AreDistinct guilds → AreDistinct (guilds_of ws)
distinct_guilds guilds ws all distinct = subst AreDistinct (sym (guilds_are guilds ws all)) distinct

pub guilds_of_readers : (ws : List Writer) → guilds_of (map new_reader ws) ≡ guilds_of ws
guilds_of_readers [] = refl
guilds_of_readers (w ∷ ws) = ap (λ l. w.0 ∷ l) (guilds_of_readers ws)

-- ---- new writers may publish

fresh : (p : Publishing) → p.log.entries ≡ [] → p.log.sealed ≡ false → p.spent ≡ false → p ≡ publishing (published p.log.hub [] false) p.mark false
fresh p a b c =
    ap (λ e. publishing (published p.log.hub e p.log.sealed) p.mark p.spent) a
    ∙ ap (λ s. publishing (published p.log.hub [] s) p.mark p.spent) b
    ∙ ap (λ s. publishing (published p.log.hub [] false) p.mark s) c

pub are_new : (guilds : List ℕ) (ws : List Writer) → AllZip IsNewWriter guilds ws → AreNew ws
are_new [] [] all = refl
are_new [] (w ∷ ws) all = absurd all
are_new (g ∷ gs) [] all = absurd all
are_new (g ∷ gs) (w ∷ ws) all =
    ap₂ (λ (v : Writer) vs. v ∷ vs) (ap (λ p. (w.0, p)) (fresh w.1 all.0.empty all.0.unsealed all.0.unspent)) (are_new gs ws all.1)

-- ---- one writer more

pushed : {X Y : Type 0} (Is : X → Y → Type 0) (xs : List X) (ys : List Y) (x : X) (y : Y) → AllZip Is xs ys → Is x y → AllZip Is (xs ++ x ∷ []) (ys ++ y ∷ [])
pushed Is [] [] x y all is = (is, tt)
pushed Is [] (b ∷ ys) x y all is = absurd all
pushed Is (a ∷ xs) [] x y all is = absurd all
pushed Is (a ∷ xs) (b ∷ ys) x y all is = (all.0, pushed Is xs ys x y all.1 is)

-- the writer of the next guild's hub
pub one_writer : (guilds : List ℕ) (i d : ℕ) (ws more : List Writer) (w : Writer) → i < length guilds → AllZip IsNewWriter (take i guilds) ws
    → more ≡ ws ++ w ∷ [] → IsNewWriter (get_or guilds i d) w → AllZip IsNewWriter (take (i + 1) guilds) more
one_writer guilds i d ws more w lt all m is =
    rw (take_more guilds i d lt, m) (pushed IsNewWriter (take i guilds) ws (get_or guilds i d) w all is)

-- ---- the writers that are dealt to an actor

module _ {X Y : Type 0} (Is : X → Y → Type 0) where
  zip_evens : (xs : List X) (ys : List Y) → AllZip Is xs ys → AllZip Is (evens xs) (evens ys)
  zip_evens [] [] all = tt
  zip_evens [] (y ∷ ys) all = absurd all
  zip_evens (x ∷ xs) [] all = absurd all
  zip_evens (x ∷ []) (y ∷ []) all = all
  zip_evens (x ∷ []) (y ∷ z ∷ ys) all = absurd all.1
  zip_evens (x ∷ w ∷ xs) (y ∷ []) all = absurd all.1
  zip_evens (x ∷ w ∷ xs) (y ∷ z ∷ ys) all = (all.0, zip_evens xs ys all.1.1)

  zip_odds : (xs : List X) (ys : List Y) → AllZip Is xs ys → AllZip Is (odds xs) (odds ys)
  zip_odds [] [] all = tt
  zip_odds [] (y ∷ ys) all = absurd all
  zip_odds (x ∷ xs) [] all = absurd all
  zip_odds (x ∷ []) (y ∷ []) all = tt
  zip_odds (x ∷ []) (y ∷ z ∷ ys) all = absurd all.1
  zip_odds (x ∷ w ∷ xs) (y ∷ []) all = absurd all.1
  zip_odds (x ∷ w ∷ xs) (y ∷ z ∷ ys) all = (all.1.0, zip_odds xs ys all.1.1)

  -- items that are related place by place are so where both lists are dealt
  pub dealt_zip : (holder : ℕ) (xs : List X) (ys : List Y) → AllZip Is xs ys → AllZip Is (dealt_to holder xs) (dealt_to holder ys)
  dealt_zip zero xs ys all = zip_evens xs ys all
  dealt_zip (suc n) xs ys all = zip_odds xs ys all

none_even : (g : ℕ) (gs : List ℕ) → has_guild g gs ≡ false → has_guild g (evens gs) ≡ false
none_even g [] none = refl
none_even g (x ∷ []) none = none
none_even g (x ∷ y ∷ gs) none =
    let later = rest_of (x == g) (has_guild g (y ∷ gs)) none in
    ap₂ (λ a b. a || b) (first_of (x == g) (has_guild g (y ∷ gs)) none) (none_even g gs (rest_of (y == g) (has_guild g gs) later))

none_odd : (g : ℕ) (gs : List ℕ) → has_guild g gs ≡ false → has_guild g (odds gs) ≡ false
none_odd g [] none = refl
none_odd g (x ∷ []) none = refl
none_odd g (x ∷ y ∷ gs) none =
    let later = rest_of (x == g) (has_guild g (y ∷ gs)) none in
    ap₂ (λ a b. a || b) (first_of (y == g) (has_guild g gs) later) (none_odd g gs (rest_of (y == g) (has_guild g gs) later))

distinct_evens : (gs : List ℕ) → AreDistinct gs → AreDistinct (evens gs)
distinct_evens [] distinct = tt
distinct_evens (x ∷ []) distinct = distinct
distinct_evens (x ∷ y ∷ gs) distinct = (none_even x gs (rest_of (y == x) (has_guild x gs) distinct.0), distinct_evens gs distinct.1.1)

distinct_odds : (gs : List ℕ) → AreDistinct gs → AreDistinct (odds gs)
distinct_odds [] distinct = tt
distinct_odds (x ∷ []) distinct = tt
distinct_odds (x ∷ y ∷ gs) distinct = (none_odd y gs distinct.1.0, distinct_odds gs distinct.1.1)

-- of guilds that are distinct so are those that are dealt to a holder
pub dealt_ids : (holder : ℕ) (gs : List ℕ) → AreDistinct gs → AreDistinct (dealt_to holder gs)
dealt_ids zero gs distinct = distinct_evens gs distinct
dealt_ids (suc n) gs distinct = distinct_odds gs distinct

module _ (guilds : List ℕ) (ws : List Writer) (all : AllZip IsNewWriter guilds ws) where
  -- the writers that are dealt to an actor are new writers of the guilds that are
  pub dealt_writers : (actor : ℕ) → AllZip IsNewWriter (dealt_to actor guilds) (dealt_to actor ws)
  dealt_writers actor = dealt_zip IsNewWriter actor guilds ws all

  pub dealt_new : (actor : ℕ) → AreNew (dealt_to actor ws)
  dealt_new actor = are_new (dealt_to actor guilds) (dealt_to actor ws) (dealt_writers actor)

  pub dealt_distinct : (actor : ℕ) → AreDistinct guilds → AreDistinct (guilds_of (dealt_to actor ws))
  dealt_distinct actor distinct = distinct_guilds (dealt_to actor guilds) (dealt_to actor ws) (dealt_writers actor) (dealt_ids actor guilds distinct)

-- ---- the readers

own_reader : (guild : ℕ) (w : Writer) → IsNewWriter guild w → IsOwnReader (new_reader w)
own_reader guild w is = (is.of_guild ∙ sym is.beside, record { within = omega arith; basis = refl; entries = refl })

-- the readers of new hubs are of the guilds that they stand beside
pub own_readers : (guilds : List ℕ) (ws : List Writer) → AllZip IsNewWriter guilds ws → All IsOwnReader (map new_reader ws)
own_readers [] [] all = All-nil IsOwnReader
own_readers [] (w ∷ ws) all = absurd all
own_readers (g ∷ gs) [] all = absurd all
own_readers (g ∷ gs) (w ∷ ws) all = All-cons IsOwnReader (new_reader w) (map new_reader ws) (own_reader g w all.0) (own_readers gs ws all.1)

-- the readers are of the hubs of the writers, in their order
pub readers_of : (ws : List Writer) → AllZip IsReaderOf ws (map new_reader ws)
readers_of [] = tt
readers_of (w ∷ ws) = (record { beside = refl; hub = refl }, readers_of ws)
