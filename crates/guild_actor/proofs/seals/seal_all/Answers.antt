use Rattle.std.proofs.Common.{rules, ◌≡◌, ◌∙◌, false, IfSome, subst}
use Rattle.std.proofs.lemmas.List.Elements.{All-pop}
use Rattle.guild_actor.proofs.Writers.{one_seal}
use Rattle.guild_actor.proofs.seals.seal_all.Goals as goal

pub seal-requires : goal.seal-requires
seal-requires g c =
    let popped = (All-pop (λ w. w.1.spent ≡ false) c.loop-guild.writers.items c.pop.new.self.items c.pop.result c.pop.ensures.items c.loop-guild.invariant.unspent).1 in
    let own = subst (λ o. IfSome o (λ w. w.1.spent ≡ false)) c.in-Some.is popped in
    search (rules, own)

pub loop-guild-preserved : goal.loop-guild-preserved
loop-guild-preserved g c = record {
  unspent = (All-pop (λ w. w.1.spent ≡ false) c.loop-guild.writers.items c.pop.new.self.items c.pop.result c.pop.ensures.items c.loop-guild.invariant.unspent).0;
  sealed = c.loop-guild.invariant.sealed ∙ one_seal c.loop-guild.writers.items c.pop.new.self.items _ c.loop-guild.logs.items c.push.new.self.items _ c.in-Some.ensures.items c.in_ok-push-in-Ok.ensures.items (search rules);
}
