use Rattle.std.proofs.Common.{◌≡◌, ℕ, List, Ok, Err, Some, None, if◌then◌else◌, nat_eq, refl, sym, subst, ap, ◌∙◌}
use Rattle.std.proofs.lemmas.Result.{err_from_is_err_and}
use Rattle.indexmap.specs.IndexMap.{get}
use Rattle.collections.specs.ById.{find_id}
use Rattle.edit_text.specs.declared.line.Line.TheVariants as line
use Rattle.worker_core.specs.declared.io.Output.{Output as Written}
use Rattle.worker_core.specs.declared.io.StepFault.{StepFault}
use Rattle.scenario.specs.declared.guild_log.GuildLog.{GuildLog}
use Rattle.scenario.specs.declared.server.Server.{Server as KeptServer}
use Rattle.scenario.specs.Server.{world, log, worker_id, lag_of}
use Rattle.scenario.specs.Represents.{guilds_of, PlaysNot}
use Rattle.scenario.proofs.Servers.{contains_all, declared, look_plays}
use Rattle.scenario.proofs.server.Server.look.Goals as goal

pub returns : goal.returns
returns c p stands =
    let start = c.in_ok-start.ensures.starts p stands in
    let same = c.in_ok-start.ensures.slots in
    let held : GuildLog = c.in-Some.log.now in
    let known : get nat_eq c.start.new.self.logs c.guild.inside.0 ≡ Some held = sym c.in-Some.ensures.value in
    let given : get nat_eq c.start.new.self.logs c.args.guild ≡ Some held = subst (λ (n : ℕ). get nat_eq c.start.new.self.logs n ≡ Some held) c.guild.view_is known in
    let found : get nat_eq c.args.self.now.logs c.args.guild ≡ Some held = ap (λ (k : KeptServer). get nat_eq k.logs c.args.guild) (sym same) ∙ given in
    let there = declared c.args.self.now p c.args.guild held stands.keeps found in
    let lag = rw c.as_slice.ensures.value at (c.lag-lagged.ensures (guilds_of p) (world p).workers (log p c.args.guild) there.1) in (
      refl,
      (
        lag start.1 ∙ ap (λ b. if b then lag_of c.args.worker c.args.guild (log p c.args.guild) (find_id worker_id c.args.worker (world p).workers) else None) (sym there.0),
        look_plays (λ out. out.items) (Ok c.in_ok-outputs.outputs) c.args.self.now (record c.start.new.self { slots = c.look.new.slots }) p c.args.worker c.args.guild c.start.new.self.slots.items
            stands.keeps there.0 (ap (λ (k : KeptServer). k.bots) same) (ap (λ (k : KeptServer). k.guilds) same) (ap (λ (k : KeptServer). k.logs) same) (ap (λ (k : KeptServer). k.used) same) start
            (c.in_ok-outputs.ensures (guilds_of p) (world p).workers (log p c.args.guild) (contains_all c.args.guild p.guilds there.0) there.1 start.1),
      ),
    )

pub returns-in_err-outputs : goal.returns-in_err-outputs
returns-in_err-outputs c p stands =
    let start = c.in_ok-start.ensures.starts p stands in
    let same = c.in_ok-start.ensures.slots in
    let held : GuildLog = c.in-Some.log.now in
    let known : get nat_eq c.start.new.self.logs c.guild.inside.0 ≡ Some held = sym c.in-Some.ensures.value in
    let given : get nat_eq c.start.new.self.logs c.args.guild ≡ Some held = subst (λ (n : ℕ). get nat_eq c.start.new.self.logs n ≡ Some held) c.guild.view_is known in
    let found : get nat_eq c.args.self.now.logs c.args.guild ≡ Some held = ap (λ (k : KeptServer). get nat_eq k.logs c.args.guild) (sym same) ∙ given in
    let there = declared c.args.self.now p c.args.guild held stands.keeps found in
    let e = err_from_is_err_and c.from_residual-in_err-outputs.result c.from_residual-in_err-outputs.ensures.1 in
    let fails = look_plays (λ (out : List Written). out) (Err c.in_err-outputs.field-0.0) c.args.self.now (record c.start.new.self { slots = c.look.new.slots }) p c.args.worker c.args.guild c.start.new.self.slots.items
    stands.keeps there.0 (ap (λ (k : KeptServer). k.bots) same) (ap (λ (k : KeptServer). k.guilds) same) (ap (λ (k : KeptServer). k.logs) same) (ap (λ (k : KeptServer). k.used) same) start
    (c.in_err-outputs.ensures (guilds_of p) (world p).workers (log p c.args.guild) (contains_all c.args.guild p.guilds there.0) there.1 start.1) in
    rw e.1 (subst (λ (f : StepFault). PlaysNot p (line.Look c.args.worker c.args.guild) f) (sym e.2) fails)
