-- What a dispatch makes of what is held of each guild.
use Rattle.std.proofs.Common.{◌≡◌, ℕ, Bool, true, false, Option, Some, None, if◌then◌else◌, refl, sym, ap}
use Rattle.std.specs.Prelude.{option_map}
use Rattle.dispatch_types.specs.declared.ready.Ready.{Ready as ReadyOf}
use Rattle.dispatch_types.specs.declared.dispatch.Dispatch.{Dispatch}
use Rattle.dispatch_types.specs.declared.dispatch.Dispatch.TheVariants.{Ready, Resumed}
use Rattle.dispatch_types.specs.GuildOf.{guild_of}
use Rattle.dispatch_types.specs.Fold.{Held, on_open, leaves_over, changed, purged, purge, folded}
use Rattle.client_cache.specs.declared.held.HeldGuild.{HeldGuild}
use Rattle.client_cache.specs.Sent.{ready_of}
use Rattle.client_cache.specs.Cached.{held_by, entry_purged}

module _ (intents g : ℕ) where
  -- RESUMED changes nothing
  pub changed-none : (h : Held) (d : Dispatch) → guild_of d ≡ None → ready_of d ≡ None → changed intents g h d ≡ h
  changed-none h (Ready ready) of not = absurd (cc)
  changed-none h Resumed of not = refl
  changed-none h _ of not = absurd (cc)

  -- what READY says decides
  pub changed-ready : (h : Held) (d : Dispatch) (r : ReadyOf) → ready_of d ≡ Some r → changed intents g h d ≡ changed intents g h (Ready r)
  changed-ready h (Ready ready) r is = let e : ready ≡ r = cc in ap (λ (x : ReadyOf). changed intents g h (Ready x)) e
  changed-ready h _ r is = absurd (cc)

  -- an entry that is purged
  pub purge-held : (bot : ℕ) (o : Option HeldGuild) → ((h : HeldGuild) → o ≡ Some h → h.id ≡ g) → held_by bot (option_map entry_purged o) ≡ purge intents g (held_by bot o)
  purge-held bot None is = refl
  purge-held bot (Some h) is = ap (λ (k : ℕ). held_by bot (Some (record h { view = on_open (purged intents k) h.view }))) (is h refl)

  -- the purge comes after each dispatch but THREAD_UPDATE
  pub folded-late : (d : Dispatch) (h : Held) → leaves_over d ≡ true → changed intents g h d ≡ folded intents g h d
  unfolding folded
  folded-late d h late = sym (ap (λ (b : Bool). if b then changed intents g h d else purge intents g (changed intents g h d)) late)

  pub folded-soon : (d : Dispatch) (h : Held) → leaves_over d ≡ false → purge intents g (changed intents g h d) ≡ folded intents g h d
  unfolding folded
  folded-soon d h soon = sym (ap (λ (b : Bool). if b then changed intents g h d else purge intents g (changed intents g h d)) soon)
