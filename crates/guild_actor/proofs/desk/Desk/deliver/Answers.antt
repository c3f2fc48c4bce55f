use Rattle.std.proofs.Common.{◌≡◌, ◌<◌, ◌∙◌, ◌+◌, false, min, length, cond, get_or, sym, ap, subst}
use Rattle.std.specs.List.{All}
use Rattle.guild_places.specs.Places.{has_guild}
use Rattle.guild_actor.specs.Desks.{Holding}
use Rattle.guild_actor.proofs.Writers.{Writer}
use Rattle.guild_places.proofs.Guilds.{many}
use Rattle.guild_actor.proofs.Delivery.{stray_of, edit_of, last}
use Rattle.guild_actor.proofs.desk.Desk.deliver.Goals as goal

pub returns-in_default-clause-ok : goal.returns-in_default-clause-ok
returns-in_default-clause-ok g c rs ws e =
    stray_of ws rs c.args.request _ (c.self.view_is ∙ e) (subst (λ gs. has_guild c.args.request.guild gs ≡ false) c.self.invariant.0 c.in_default.ensures.guild) _ c.saturating_add-self-inside.ensures

pub publish_at-requires-clause-unspent : goal.publish_at-requires-clause-unspent
publish_at-requires-clause-unspent g c =
    let items = c.self.inside.writers.items in
    λ d. (subst (λ (h : Holding). All (λ (w : Writer). w.1.spent ≡ false) h.writers) (sym c.self.view_is) c.requires.unspent) c.in-Some.place d
    (subst (λ n. c.in-Some.place < n) (ap length c.self.invariant.0 ∙ many items) c.in-Some.ensures.guild.0)

pub returns-then-not-branch-clause-ok : goal.returns-then-not-branch-clause-ok
returns-then-not-branch-clause-ok g c rs ws e =
    let items = c.self.inside.writers.items in
    let place = c.in-Some.place in
    edit_of ws rs c.args.request _ (c.self.view_is ∙ e) c.self.invariant.1 place
    (subst (λ n. place < n) (ap length c.self.invariant.0 ∙ many items) c.in-Some.ensures.guild.0)
    (λ d. ap (λ gs. get_or gs place d) (sym c.self.invariant.0) ∙ c.in-Some.ensures.guild.1 d)
    c.in_ok-publish_at.field-0 c.publish_at.new.writers.items c.in_ok-publish_at.ensures.ok
    _ (c.saturating_add-self-inside-then-not-branch.ensures ∙ sym (ap (λ b. cond b c.self.inside.full (min (c.self.inside.full + 1) last)) c.if-not-branch.true))

pub returns-else-not-branch-clause-ok : goal.returns-else-not-branch-clause-ok
returns-else-not-branch-clause-ok g c rs ws e =
    let items = c.self.inside.writers.items in
    let place = c.in-Some.place in
    edit_of ws rs c.args.request _ (c.self.view_is ∙ e) c.self.invariant.1 place
    (subst (λ n. place < n) (ap length c.self.invariant.0 ∙ many items) c.in-Some.ensures.guild.0)
    (λ d. ap (λ gs. get_or gs place d) (sym c.self.invariant.0) ∙ c.in-Some.ensures.guild.1 d)
    c.in_ok-publish_at.field-0 c.publish_at.new.writers.items c.in_ok-publish_at.ensures.ok
    _ (sym (ap (λ b. cond b c.self.inside.full (min (c.self.inside.full + 1) last)) c.if-not-branch.false))
