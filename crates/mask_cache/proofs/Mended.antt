-- Masks after an edit, where those that it may change are worked out anew.
use Rattle.std.proofs.Common.{◌≡◌, ℕ, Bool, true, false, Some, None, if◌then◌else◌, refl, sym, ap, subst, ◌∙◌}
use Rattle.std.specs.Prelude.{◌==◌, option_map}
use Rattle.std.proofs.lemmas.Bool.{eqb-true}
use Rattle.collections.specs.ById.{find_id, has_id, put_id, without_id}
use Rattle.collections.proofs.Finds.{find-put, find-without}
use Rattle.perm_bits.specs.Bits.{has_bit}
use Rattle.guild_model.specs.Record.{Record, channel_id}
use Rattle.guild_model.specs.Permissions.{grants}
use Rattle.overwrite_eval.specs.MaskIn.{IsMaskIn}
use Rattle.mask_cache.specs.declared.channel_mask.ChannelMask.{ChannelMask}
use Rattle.mask_cache.specs.Masks.{UserMasks, MasksOf, HasSet, mask_in, mask_of, masked_channel}
use Rattle.mask_cache.specs.Law.{SameElsewhere}

module _ (changed : ℕ → Bool) (s t : Record) (user : ℕ) (was : UserMasks) (of : MasksOf s user was) (stays : SameElsewhere changed s t user) where
  same-in : (channel : ℕ) → changed channel ≡ false → IsMaskIn t user channel (mask_in was channel)
  same-in channel other =
      let same = stays.channels channel other in
      let old = of.channels channel in
      record { there = old.there ∙ sym same.there; bits = λ mask e b below. old.bits mask e b below ∙ sym (same.grants b) }

  -- the masks that do not change are kept, and the others are right
  pub mended : (is : UserMasks) → is.user ≡ was.user → is.base ≡ was.base
      → ((channel : ℕ) → changed channel ≡ false → mask_in is channel ≡ mask_in was channel)
      → ((channel : ℕ) → changed channel ≡ true → IsMaskIn t user channel (mask_in is channel)) → MasksOf t user is
  mended is same_user same_base others anew = record {
    whose = same_user ∙ of.whose;
    base = λ b below. ap (λ m. has_bit m b) same_base ∙ (of.base b below ∙ sym (stays.base b));
    channels = λ channel. by_change channel (changed channel) refl;
  }
    where
      by_change : (channel : ℕ) (b : Bool) → changed channel ≡ b → IsMaskIn t user channel (mask_in is channel)
      by_change channel true here = anew channel here
      by_change channel false other = subst (λ o. IsMaskIn t user channel o) (sym (others channel other)) (same-in channel other)

-- no mask changes
pub none-changed : (s t : Record) (user : ℕ) (was : UserMasks) → MasksOf s user was → SameElsewhere (λ id. false) s t user → MasksOf t user was
none-changed s t user was of stays = mended (λ id. false) s t user was of stays was refl refl (λ channel other. refl) (λ channel here. absurd (cc))

module _ (s t : Record) (user channel : ℕ) (was : UserMasks) (of : MasksOf s user was) (stays : SameElsewhere (λ id. channel == id) s t user) where
  -- the channel is deleted
  pub one-gone : has_id channel_id channel t.channels ≡ false → MasksOf t user (record was { channels = without_id masked_channel channel was.channels })
  one-gone gone =
      mended (λ id. channel == id) s t user was of stays (record was { channels = without_id masked_channel channel was.channels }) refl refl
      (λ other apart. found other false apart) (λ other here. none other here)
    where
      found : (other : ℕ) (b : Bool) → (channel == other) ≡ b
          → option_map mask_of (find_id masked_channel other (without_id masked_channel channel was.channels)) ≡ (if b then None else option_map mask_of (find_id masked_channel other was.channels))
      found other b is =
          ap (option_map mask_of) (find-without masked_channel channel other was.channels)
          ∙ (ap (λ here. option_map mask_of (if here then None else find_id masked_channel other was.channels)) is ∙ by_case b)
        where
          by_case : (b : Bool) → option_map mask_of (if b then None else find_id masked_channel other was.channels) ≡ (if b then None else option_map mask_of (find_id masked_channel other was.channels))
          by_case true = refl
          by_case false = refl

      none : (other : ℕ) → (channel == other) ≡ true → IsMaskIn t user other (option_map mask_of (find_id masked_channel other (without_id masked_channel channel was.channels)))
      none other here =
          let same : channel ≡ other = eqb-true channel other here in
          subst (λ o. IsMaskIn t user other o) (sym (found other true here))
          (record { there = sym (ap (λ id. has_id channel_id id t.channels) (sym same) ∙ gone); bits = λ mask e. absurd (cc) })

  -- the mask in the channel is worked out
  pub one-set : has_id channel_id channel t.channels ≡ true → (is : UserMasks) → HasSet t channel was is → MasksOf t user is
  one-set exists is set =
      subst (λ (m : UserMasks). MasksOf t user m) (sym set.set)
      (mended (λ id. channel == id) s t user was of stays (record was { channels = put_id masked_channel new was.channels }) refl refl
      (λ other apart. found other false apart) (λ other here. anew other here))
    where
      new : ChannelMask
      new = record { channel = channel; mask = set.mask }

      found : (other : ℕ) (b : Bool) → (channel == other) ≡ b
          → option_map mask_of (find_id masked_channel other (put_id masked_channel new was.channels)) ≡ (if b then Some set.mask else option_map mask_of (find_id masked_channel other was.channels))
      found other b is =
          ap (option_map mask_of) (find-put masked_channel new other was.channels)
          ∙ (ap (λ here. option_map mask_of (if here then Some new else find_id masked_channel other was.channels)) is ∙ by_case b)
        where
          by_case : (b : Bool) → option_map mask_of (if b then Some new else find_id masked_channel other was.channels) ≡ (if b then Some set.mask else option_map mask_of (find_id masked_channel other was.channels))
          by_case true = refl
          by_case false = refl

      anew : (other : ℕ) → (channel == other) ≡ true → IsMaskIn t user other (option_map mask_of (find_id masked_channel other (put_id masked_channel new was.channels)))
      anew other here =
          let same : channel ≡ other = eqb-true channel other here in
          subst (λ o. IsMaskIn t user other o) (sym (found other true here))
          (record {
            there = sym (ap (λ id. has_id channel_id id t.channels) (sym same) ∙ exists);
            bits = λ mask e b below.
                let is : set.mask ≡ mask = cc in
                ap (λ m. has_bit m b) (sym is) ∙ (set.bits b below ∙ (ap (λ u. grants t u channel b) of.whose ∙ ap (λ id. grants t user id b) same));
          })
