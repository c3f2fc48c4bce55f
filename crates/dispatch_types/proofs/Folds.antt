-- What a client makes of dispatches of another guild, and of its own.
use Rattle.std.proofs.Common.{◌≡◌, ℕ, Bool, true, false, List, [], ◌∷◌, Option, Some, if◌then◌else◌, refl, ap, ◌∙◌, eq-eqb}
use Rattle.std.specs.Prelude.{◌==◌, All}
use Rattle.std.proofs.lemmas.List.Elements.{All-head, All-tail}
use Rattle.dispatch_types.specs.declared.dispatch.Dispatch.{Dispatch}
use Rattle.dispatch_types.specs.declared.dispatch.Dispatch.TheVariants.{Ready}
use Rattle.dispatch_types.specs.GuildOf.{guild_of}
use Rattle.dispatch_types.specs.Fold.{Held, after, leaves_over, is_of, changed, purge, folded, fold_from}

module _ (intents g : ℕ) (h : Held) where
  -- a dispatch of one guild changes what is held of that guild alone
  pub changed-of : (a : ℕ) (d : Dispatch) → guild_of d ≡ Some a → changed intents g h d ≡ (if a == g then after intents d h else h)
  changed-of a (Ready ready) of = absurd (cc)
  changed-of a d of = ap (λ (o : Option ℕ). if is_of g o then after intents d h else h) of

  -- a dispatch of the guild itself, and then the purge
  pub folded-here : (d : Dispatch) → guild_of d ≡ Some g → leaves_over d ≡ false → folded intents g h d ≡ purge intents g (after intents d h)
  unfolding folded
  folded-here d of soon =
      ap (λ (b : Bool). if b then changed intents g h d else purge intents g (changed intents g h d)) soon
      ∙ ap (purge intents g) (changed-of g d of ∙ ap (λ (b : Bool). if b then after intents d h else h) (eq-eqb g g refl))

  -- and one after which nothing is purged
  pub folded-over : (d : Dispatch) → guild_of d ≡ Some g → leaves_over d ≡ true → folded intents g h d ≡ after intents d h
  unfolding folded
  folded-over d of late =
      ap (λ (b : Bool). if b then changed intents g h d else purge intents g (changed intents g h d)) late
      ∙ (changed-of g d of ∙ ap (λ (b : Bool). if b then after intents d h else h) (eq-eqb g g refl))

  -- dispatches of another guild leave what the purge leaves
  pub folded-elsewhere : (a : ℕ) (d : Dispatch) → guild_of d ≡ Some a → (a == g) ≡ false → purge intents g h ≡ h → folded intents g h d ≡ h
  unfolding folded
  folded-elsewhere a d of other stays = by_purge (leaves_over d)
    where
      same : changed intents g h d ≡ h
      same = changed-of a d of ∙ ap (λ (b : Bool). if b then after intents d h else h) other

      by_purge : (b : Bool) → (if b then changed intents g h d else purge intents g (changed intents g h d)) ≡ h
      by_purge true = same
      by_purge false = ap (purge intents g) same ∙ stays

module _ (intents g : ℕ) where
  pub fold-elsewhere : (h : Held) (a : ℕ) (ds : List Dispatch) → All (λ d. guild_of d ≡ Some a) ds → (a == g) ≡ false → purge intents g h ≡ h → fold_from intents g h ds ≡ h
  fold-elsewhere h a [] of other stays = refl
  fold-elsewhere h a (d ∷ ds) of other stays =
      let head : folded intents g h d ≡ h = folded-elsewhere intents g h a d (All-head (λ d. guild_of d ≡ Some a) d ds of) other stays in
      ap (λ (k : Held). fold_from intents g k ds) head ∙ fold-elsewhere h a ds (All-tail (λ d. guild_of d ≡ Some a) d ds of) other stays
