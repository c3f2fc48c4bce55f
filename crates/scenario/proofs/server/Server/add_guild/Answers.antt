use Rattle.std.proofs.Common.{◌≡◌, ℕ, [], None, Some, false, nat_eq, if◌then◌else◌, refl, sym, subst, ap, ◌∙◌, arith}
use Rattle.std.specs.Prelude.{◌==◌, is_some}
use Rattle.std.proofs.lemmas.Grind.{common_steps}
use Rattle.std.proofs.lemmas.Result.{on_ok_weaker}
use Rattle.indexmap.specs.IndexMap.{get}
use Rattle.scenario.specs.declared.guild_log.GuildLog.{GuildLog}
use Rattle.scenario.proofs.Servers.{guild_plays, is_none}
use Rattle.scenario.proofs.server.Server.add_guild.Goals as goal

pub returns : goal.returns
returns c =
    let empty : c.args.self.now.slots.items ≡ [] = grind (arith, common_steps) in
    let lacks : is_some (get nat_eq c.args.self.now.logs c.id.inside.0) ≡ false = sym c.contains_key.ensures ∙ c.if-contains_key.false in
    let unknown : get nat_eq c.args.self.now.logs c.args.id ≡ None = is_none _ (subst (λ (n : ℕ). is_some (get nat_eq c.args.self.now.logs n) ≡ false) c.id.view_is lacks) in
    on_ok_weaker c.push.result
    (λ pushed p stands. guild_plays c.args.self.now (record c.args.self.now { guilds = c.push.new.self; logs = c.insert.new.self }) p c.args.id [] stands empty unknown
    refl pushed refl
    (λ h. c.in_ok-insert.ensures.updates.0 h ∙ (ap (λ (n : ℕ). if n == h then Some c.new.result else get nat_eq c.args.self.now.logs h) c.id.view_is
    ∙ ap (λ (l : GuildLog). if c.args.id == h then Some l else get nat_eq c.args.self.now.logs h) c.new.ensures)) refl refl)
    c.push.ensures.ok
