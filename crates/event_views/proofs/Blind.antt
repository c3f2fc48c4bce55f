-- A client without GUILDS holds no view, whatever it is told of the guild.
use Rattle.std.proofs.Common.{◌≡◌, ℕ, Bool, true, false, List, [], ◌∷◌, Option, Some, None, if◌then◌else◌, refl, sym, ap, subst, ◌∙◌}
use Rattle.std.specs.Prelude.{◌==◌, All, option_and_then}
use Rattle.std.proofs.lemmas.List.Elements.{All-head, All-tail}
use Rattle.perm_bits.specs.Bits.{has_bit}
use Rattle.intent_set.specs.Intents.{guilds}
use Rattle.guild_model.specs.declared.member.Member.{Member}
use Rattle.dispatch_types.specs.declared.view.GuildView.{GuildView}
use Rattle.dispatch_types.specs.declared.view.GuildView.TheVariants.{Unavailable, Open}
use Rattle.dispatch_types.specs.declared.dispatch.Dispatch.{Dispatch}
use Rattle.dispatch_types.specs.declared.dispatch.Dispatch.TheVariants.{GuildCreate, GuildDelete}
use Rattle.dispatch_types.specs.Projection.{told}
use Rattle.dispatch_types.specs.Fold.{Held, created, own_member, created_view, if_unavailable, on_open, view_after, after, leaves_over, changed, purged, purge, folded, fold_from}
use Rattle.dispatch_types.proofs.Folds.{changed-of}
use Rattle.event_views.proofs.Steps.{IsOf}

-- such a client
pub record IsBlind (user : ℕ) (h : Held) : Type 0 where
  pub bot : h.bot ≡ user
  pub view : h.view ≡ None

module _ (intents g : ℕ) (lacks : has_bit intents guilds ≡ false) where
  told-none : (view : GuildView) → told intents guilds view ≡ None
  told-none view = ap (λ b. if b then Some view else None) lacks

  unavailable-none : (b : Bool) → if_unavailable intents b ≡ None
  unavailable-none true = told-none Unavailable
  unavailable-none false = refl

  created-none : (bot : ℕ) (c : _) → created_view intents bot c ≡ None
  created-none bot c = by_member (own_member bot c.members)
    where
      by_member : (o : Option Member) → option_and_then (λ me. told intents guilds (Open (created intents bot c me))) o ≡ None
      by_member None = refl
      by_member (Some me) = told-none (Open (created intents bot c me))

  -- what a dispatch makes of no view
  after-none : (bot : ℕ) (d : Dispatch) → view_after intents bot d None ≡ None
  after-none bot (GuildCreate create) = created-none bot create
  after-none bot (GuildDelete delete) = unavailable-none delete.unavailable
  after-none bot _ = refl

  changed-blind : (bot a : ℕ) (h : Held) (d : Dispatch) → IsOf a d → IsBlind bot h → IsBlind bot (changed intents g h d)
  changed-blind bot a h d of blind = subst (IsBlind bot) (sym (changed-of intents g h a d of)) (by_guild (a == g))
    where
      by_guild : (b : Bool) → IsBlind bot (if b then after intents d h else h)
      by_guild true = record { bot = blind.bot; view = ap (view_after intents h.bot d) blind.view ∙ after-none h.bot d }
      by_guild false = blind

  folded-blind : (bot a : ℕ) (h : Held) (d : Dispatch) → IsOf a d → IsBlind bot h → IsBlind bot (folded intents g h d)
  unfolding folded
  folded-blind bot a h d of blind = by_purge (leaves_over d)
    where
      changes : IsBlind bot (changed intents g h d)
      changes = changed-blind bot a h d of blind

      by_purge : (b : Bool) → IsBlind bot (if b then changed intents g h d else purge intents g (changed intents g h d))
      by_purge true = changes
      by_purge false = record { bot = changes.bot; view = ap (on_open (purged intents g)) changes.view }

  pub blind-fold : (bot a : ℕ) (h : Held) (ds : List Dispatch) → All (IsOf a) ds → IsBlind bot h → IsBlind bot (fold_from intents g h ds)
  blind-fold bot a h [] of blind = blind
  blind-fold bot a h (d ∷ ds) of blind =
      blind-fold bot a (folded intents g h d) ds (All-tail (IsOf a) d ds of) (folded-blind bot a h d (All-head (IsOf a) d ds of) blind)
