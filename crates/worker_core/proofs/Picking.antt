-- What is picked from a list by indexes.
use Rattle.std.proofs.Common.{◌≡◌, ℕ, zero, suc, ◌+◌, ◌<◌, List, [], ◌∷◌, ◌++◌, Some, length, map, take, get_or, refl, sym, ap, subst, ◌∙◌}
use Rattle.std.specs.Prelude.{slice_get}
use Rattle.std.proofs.lemmas.List.{length-map}
use Rattle.std.proofs.lemmas.Option.{get_or_from_slice_get}
use Rattle.worker_core.specs.Recipients.{IsLonger, Picks, picked_by}
use Rattle.worker_core.proofs.Telling.{get_at, last_taken, split_at}
use Rattle.world_law.proofs.Lists.{map_join}

-- what stands in a list at an index
pub record Item {A : Type 0} (xs : List A) (i : ℕ) : Type 0 where
  pub item : A
  pub found : slice_get xs i ≡ Some item
  pub read : get_or xs i item ≡ item

pub item_at : {A : Type 0} (xs : List A) (i : ℕ) → i < length xs → Item xs i
item_at xs i lt =
    let split = split_at xs i lt in
    let found : slice_get xs i ≡ Some split.item = ap (λ ys. slice_get ys i) split.whole ∙ (ap (λ n. slice_get (split.front ++ split.item ∷ split.back) n) split.index ∙ get_at split.front split.item split.back) in
    record { item = split.item; found = found; read = get_or_from_slice_get xs i split.item split.item found }

-- a list with more at its end has at each index what it had
pub more_at : {A : Type 0} (xs more : List A) (k : ℕ) (a : A) → slice_get xs k ≡ Some a → slice_get (xs ++ more) k ≡ Some a
more_at [] more zero a e = absurd (cc)
more_at [] more (suc k) a e = absurd (cc)
more_at (x ∷ xs) more zero a e = e
more_at (x ∷ xs) more (suc k) a e = more_at xs more k a e

module _ {A : Type 0} (items : List A) where
  first_is : (k : ℕ) (p : A) (indexes : List ℕ) (picked : List A) → Picks items (k ∷ indexes) (p ∷ picked) → slice_get items k ≡ Some p
  first_is k p indexes picked e = cc

  rest_is : (k : ℕ) (p : A) (indexes : List ℕ) (picked : List A) → Picks items (k ∷ indexes) (p ∷ picked) → Picks items indexes picked
  rest_is k p indexes picked e = cc

  -- more at the end of the list changes nothing that was picked
  pub picks_longer : (more : List A) (indexes : List ℕ) (picked : List A) → Picks items indexes picked → Picks (items ++ more) indexes picked
  picks_longer more [] [] e = refl
  picks_longer more [] (p ∷ picked) e = absurd (cc)
  picks_longer more (k ∷ indexes) [] e = absurd (cc)
  picks_longer more (k ∷ indexes) (p ∷ picked) e =
      ap (λ o. o ∷ map (slice_get (items ++ more)) indexes) (more_at items more k p (first_is k p indexes picked e))
      ∙ ap (λ os. Some p ∷ os) (picks_longer more indexes picked (rest_is k p indexes picked e))

  -- one more is picked
  pub picks_more : (indexes : List ℕ) (picked : List A) (k : ℕ) (p : A) → Picks items indexes picked → slice_get items k ≡ Some p → Picks items (indexes ++ k ∷ []) (picked ++ p ∷ [])
  picks_more indexes picked k p e at =
      map_join (slice_get items) indexes (k ∷ [])
      ∙ (ap (λ os. os ++ slice_get items k ∷ []) e
      ∙ (ap (λ o. map (λ x. Some x) picked ++ o ∷ []) at ∙ sym (map_join (λ x. Some x) picked (p ∷ []))))

  -- what is picked at an index
  pub at_index : (indexes : List ℕ) (picked : List A) (i : ℕ) (p : A) → Picks items indexes picked → slice_get picked i ≡ Some p → picked_by items (slice_get indexes i) ≡ Some p
  at_index [] [] zero p e at = absurd (cc)
  at_index [] [] (suc i) p e at = absurd (cc)
  at_index [] (q ∷ picked) i p e at = absurd (cc)
  at_index (k ∷ indexes) [] i p e at = absurd (cc)
  at_index (k ∷ indexes) (q ∷ picked) zero p e at = first_is k q indexes picked e ∙ at
  at_index (k ∷ indexes) (q ∷ picked) (suc i) p e at = at_index indexes picked i p (rest_is k q indexes picked e) at

  pub as_many_picked : (indexes : List ℕ) (picked : List A) → Picks items indexes picked → length indexes ≡ length picked
  as_many_picked indexes picked e = sym (length-map indexes (slice_get items)) ∙ (ap length e ∙ length-map picked (λ x. Some x))

-- the images of the first items of a list, and of one more
pub map_next : {A B : Type 0} (f : B → A) (xs : List B) (i : ℕ) (here : Item xs i) → i < length xs → map f (take (i + 1) xs) ≡ map f (take i xs) ++ f here.item ∷ []
map_next f xs i here lt = ap (map f) (last_taken xs i here.item lt here.read) ∙ map_join f (take i xs) (here.item ∷ [])

-- of the first items of a list their images were picked, and the next one's is
pub picks_next : {A B : Type 0} (f : B → A) (xs : List B) (i : ℕ) (here : Item xs i) (old new : List A) (indexes indexes' : List ℕ) (k : ℕ) → i < length xs
    → Picks old indexes (map f (take i xs)) → IsLonger old new → indexes' ≡ indexes ++ k ∷ [] → slice_get new k ≡ Some (f here.item)
    → Picks new indexes' (map f (take (i + 1) xs))
picks_next f xs i here old new indexes indexes' k lt picks longer pushed at =
    let kept : Picks new indexes (map f (take i xs)) = subst (λ (items : List _). Picks items indexes (map f (take i xs))) (sym longer.1) (picks_longer old longer.0 indexes (map f (take i xs)) picks) in
    let next : map f (take (i + 1) xs) ≡ map f (take i xs) ++ f here.item ∷ [] = map_next f xs i here lt in
    ap (map (slice_get new)) pushed ∙ (picks_more new indexes (map f (take i xs)) k (f here.item) kept at ∙ ap (map (λ x. Some x)) (sym next))
