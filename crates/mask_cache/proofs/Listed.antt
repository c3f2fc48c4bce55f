-- The masks in all channels, listed as the channels are.
use Rattle.std.proofs.Common.{◌≡◌, ◌+◌, ◌<◌, ◌≤◌, ℕ, zero, suc, List, [], ◌∷◌, ◌++◌, map, take, length, get_or, Option, Some, None, if◌then◌else◌, refl, sym, ap, subst, ◌∙◌, arith, eq-eqb}
use Rattle.std.specs.Prelude.{All, is_some, option_map}
use Rattle.std.specs.List.{sum_by}
use Rattle.std.specs.Option.{option_map_or}
use Rattle.std.proofs.Math.Seq.{take-suc}
use Rattle.std.proofs.lemmas.List.{map-append, take_all}
use Rattle.std.proofs.lemmas.List.Sums.{sum_by_more, sum_by_more_le}
use Rattle.std.proofs.lemmas.Bool.Decides.{nat_tests}
use Rattle.collections.specs.ById.{find_id, has_id, AllAbove, IsById}
use Rattle.collections.proofs.Finds.{key-found, found-map, find-map}
use Rattle.collections.proofs.Has.{All-found}
use Rattle.perm_bits.specs.Bits.{has_bit}
use Rattle.guild_model.specs.declared.channel.Channel.{Channel}
use Rattle.guild_model.specs.Record.{Record, own_id, channel_id}
use Rattle.guild_model.specs.Permissions.{grants}
use Rattle.overwrite_eval.specs.Looks.{looks_of, overwrite_looks}
use Rattle.overwrite_eval.specs.MaskIn.{IsMaskIn}
use Rattle.mask_cache.specs.declared.channel_mask.ChannelMask.{ChannelMask}
use Rattle.mask_cache.specs.Masks.{masked_channel, mask_of}

abbrev pub channel_looks : Channel → ℕ
channel_looks c = looks_of c.overwrites

-- the mask is what the user may do in its channel
abbrev pub IsRight : Record → ℕ → ChannelMask → Type 0
IsRight g user m = (b : ℕ) → b < 53 → has_bit m.mask b ≡ grants g user m.channel b

-- what stands at an index is found by its id
module _ {T : Type 0} (key : T → ℕ) where
  above-at : (k : ℕ) (xs : List T) (i : ℕ) (d : T) → AllAbove key k xs → i < length xs → k < key (get_or xs i d)
  above-at k [] i d h lt = absurd (omega arith)
  above-at k (x ∷ xs) zero d h lt = h.0
  above-at k (x ∷ xs) (suc i) d h lt = above-at k xs i d h.1 (omega arith)

  pub found-index : (xs : List T) (i : ℕ) (d : T) → IsById key xs → i < length xs → find_id key (key (get_or xs i d)) xs ≡ Some (get_or xs i d)
  found-index [] i d h lt = absurd (omega arith)
  found-index (x ∷ xs) zero d h lt = ap (λ b. if b then Some x else find_id key (key x) xs) (eq-eqb (key x) (key x) refl)
  found-index (x ∷ xs) (suc i) d h lt =
      let above = above-at (key x) xs i d h.0 (omega arith) in
      let rest = found-index xs i d h.1 (omega arith) in
      grind (arith, nat_tests, above, rest)

-- the channel that stands at an index
module _ (cs : List Channel) (i : ℕ) (c : Channel) (lt : i < length cs) (is : c ≡ get_or cs i c) where
  pub looks-at : (g : Record) → cs ≡ g.channels → IsById channel_id cs → overwrite_looks g c.id ≡ channel_looks c
  looks-at g same h =
      let found : find_id channel_id c.id cs ≡ Some c = subst (λ (x : Channel). find_id channel_id x.id cs ≡ Some x) (sym is) (found-index channel_id cs i c h lt) in
      ap (λ o. option_map_or (λ (c : Channel). looks_of c.overwrites) o 0) (ap (find_id channel_id c.id) (sym same) ∙ found)

  pub sum-more : sum_by channel_looks (take (i + 1) cs) ≡ sum_by channel_looks (take i cs) + channel_looks c
  sum-more = sum_by_more channel_looks cs i c lt ∙ ap (λ (x : Channel). sum_by channel_looks (take i cs) + channel_looks x) (sym is)

  pub sum-within : sum_by channel_looks (take i cs) + channel_looks c ≤ sum_by channel_looks cs
  sum-within = subst (λ (x : Channel). sum_by channel_looks (take i cs) + channel_looks x ≤ sum_by channel_looks cs) (sym is) (sum_by_more_le channel_looks cs i c lt)

  pub ids-more : (ms : List ChannelMask) (m : ChannelMask) → m.channel ≡ c.id → map masked_channel ms ≡ map channel_id (take i cs) → map masked_channel (ms ++ m ∷ []) ≡ map channel_id (take (i + 1) cs)
  ids-more ms m same e =
      map-append masked_channel ms (m ∷ [])
      ∙ (ap (λ xs. xs ++ m.channel ∷ []) e
      ∙ (ap (λ id. map channel_id (take i cs) ++ id ∷ []) (same ∙ ap channel_id is)
      ∙ (sym (map-append channel_id (take i cs) (get_or cs i c ∷ []))
      ∙ (ap (map channel_id) (sym (take-suc cs i c lt))
      ∙ ap (λ n. map channel_id (take n cs)) next))))
    where
      next : suc i ≡ i + 1
      next = omega arith

-- all of them
pub ids-all : (ms : List ChannelMask) (cs : List Channel) (n : ℕ) → length cs ≤ n → map masked_channel ms ≡ map channel_id (take n cs) → map masked_channel ms ≡ map channel_id cs
ids-all ms cs n le e = e ∙ ap (map channel_id) (take_all n cs le)

-- lists with the same ids
module _ {T U : Type 0} (key : T → ℕ) (as_key : U → ℕ) where
  above-as : (k : ℕ) (xs : List T) (ys : List U) → map key xs ≡ map as_key ys → AllAbove as_key k ys → AllAbove key k xs
  above-as k [] ys e h = tt
  above-as k (x ∷ xs) [] e h = absurd (cc)
  above-as k (x ∷ xs) (y ∷ ys) e h =
      let same : key x ≡ as_key y = cc in
      let rest : map key xs ≡ map as_key ys = cc in
      (rw same h.0, above-as k xs ys rest h.1)

  pub ascends-as : (xs : List T) (ys : List U) → map key xs ≡ map as_key ys → IsById as_key ys → IsById key xs
  ascends-as [] ys e h = tt
  ascends-as (x ∷ xs) [] e h = absurd (cc)
  ascends-as (x ∷ xs) (y ∷ ys) e h =
      let same : key x ≡ as_key y = cc in
      let rest : map key xs ≡ map as_key ys = cc in
      (rw same (above-as (as_key y) xs ys rest h.0), ascends-as xs ys rest h.1)

has-id : {T : Type 0} (key : T → ℕ) (id : ℕ) (xs : List T) → has_id own_id id (map key xs) ≡ has_id key id xs
has-id key id xs = ap (λ o. is_some o) (find-map key own_id key (λ x. refl) id xs) ∙ by_case (find_id key id xs)
  where
    by_case : (o : Option _) → is_some (option_map key o) ≡ is_some o
    by_case None = refl
    by_case (Some x) = refl

some-map : (o : Option ChannelMask) → is_some (option_map mask_of o) ≡ is_some o
some-map None = refl
some-map (Some m) = refl

pub masks-right : (g : Record) (user : ℕ) (ms : List ChannelMask) → map masked_channel ms ≡ map channel_id g.channels → All (IsRight g user) ms
    → (channel : ℕ) → IsMaskIn g user channel (option_map mask_of (find_id masked_channel channel ms))
masks-right g user ms ids right channel = record {
  there = some-map (find_id masked_channel channel ms)
      ∙ (sym (has-id masked_channel channel ms) ∙ (ap (λ xs. has_id own_id channel xs) ids ∙ has-id channel_id channel g.channels));
  bits = λ mask e b below.
      let found = found-map mask_of (find_id masked_channel channel ms) mask e in
      let is : IsRight g user found.0 = All-found masked_channel (IsRight g user) channel ms found.0 right found.1.0 in
      ap (λ m. has_bit m b) found.1.1 ∙ (is b below ∙ ap (λ id. grants g user id b) (key-found masked_channel channel ms found.0 found.1.0));
}
