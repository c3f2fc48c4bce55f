use Rattle.std.proofs.Common.{◌≡◌, ℕ, [], Some, if◌then◌else◌, nat_eq, refl, sym, subst, ◌∙◌, ap}
use Rattle.std.specs.Prelude.{◌==◌}
use Rattle.std.proofs.lemmas.Result.{on_ok_weaker}
use Rattle.indexmap.specs.IndexMap.{get}
use Rattle.scenario.specs.declared.guild_log.GuildLog.{GuildLog}
use Rattle.scenario.proofs.Servers.{edit_plays}
use Rattle.scenario.proofs.server.Server.edit.Goals as goal

pub returns-clause-plays : goal.returns-clause-plays
returns-clause-plays c = on_ok_weaker c.add.result
    (λ is p stands.
    let old = c.args.self.now in
    let held : GuildLog = c.in-Some.log.now in
    let known : get nat_eq old.logs c.guild.inside.0 ≡ Some held = sym c.in-Some.ensures.value in
    let found : get nat_eq old.logs c.args.guild ≡ Some held = subst (λ (n : ℕ). get nat_eq old.logs n ≡ Some held) c.guild.view_is known in
    let updates = (((c.get_mut.follows.holds c.add.new.self).3) (rw known refl)).0 in
    edit_plays old (record old { logs = c.get_mut.follows.lender c.add.new.self; slots = c.start.new.slots }) p c.args.guild c.args.edit held [] stands.keeps found
    refl refl refl
    (λ h. updates h ∙ (ap (λ (n : ℕ). if n == h then Some c.add.new.self else get nat_eq old.logs h) c.guild.view_is
    ∙ ap (λ (l : GuildLog). if c.args.guild == h then Some l else get nat_eq old.logs h) is))
    (c.in-Ok.ensures p (c.as_slice-bots.ensures ∙ stands.keeps.bots) (c.as_slice-guilds.ensures ∙ stands.keeps.guilds) stands.slots) refl)
    c.add.ensures.log
