-- Without the intent nothing is greeted.
use Rattle.std.proofs.Common.{◌≡◌, List, [], ◌∷◌, ◌++◌, false, Option, Some, None, refl, sym, ap, ◌∙◌}
use Rattle.std.specs.Prelude.{flat_map}
use Rattle.std.proofs.lemmas.List.{append-nil}
use Rattle.perm_bits.specs.Bits.{has_bit}
use Rattle.intent_set.specs.Intents.{guilds}
use Rattle.guild_model.specs.declared.member.Member.{Member}
use Rattle.dispatch_types.specs.Serves.{served}
use Rattle.dispatch_types.specs.declared.viewer.Viewer.{Viewer}
use Rattle.world_law.specs.Greeting.{greeting_for, greeting_of}
use Rattle.guild_replica.specs.Replicas.{GuildCopy}
use Rattle.worker_core.proofs.ready.guild_creates.Goals as goal

none_greeted : (v : Viewer) (rs : List GuildCopy) → has_bit v.intents guilds ≡ false → flat_map (λ (r : GuildCopy). greeting_of v r.guild) rs ≡ []
none_greeted v [] lacks = refl
none_greeted v (r ∷ rs) lacks = ap (λ ds. ds ++ flat_map (λ (r : GuildCopy). greeting_of v r.guild) rs) (one (served v r.guild)) ∙ none_greeted v rs lacks
  where
    one : (me : Option Member) → greeting_for v r.guild me ≡ []
    one None = refl
    one (Some me) = simp lacks refl

pub returns-then-not-has : goal.returns-then-not-has
returns-then-not-has c =
    let lacks : has_bit c.args.viewer.now.intents guilds ≡ false = sym (c.has.ensures.one 0 refl) ∙ c.if-not-has.true in
    sym (ap (λ ds. c.args.list.now.items ++ ds) (none_greeted c.args.viewer.now c.args.replicas.now lacks) ∙ append-nil c.args.list.now.items)
