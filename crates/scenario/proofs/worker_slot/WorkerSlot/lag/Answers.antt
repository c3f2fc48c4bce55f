use Rattle.std.proofs.Common.{◌≡◌, ◌-◌, ◌∙◌, ap, sym, true, false, Some, None, if◌then◌else◌, length, arith}
use Rattle.std.proofs.lemmas.Bool.Decides.{nat_tests}
use Rattle.world_law.specs.World.{base_of, lags}
use Rattle.scenario.specs.declared.guild_log.GuildLog.{GuildLog}
use Rattle.scenario.proofs.Slots.{lag_is}
use Rattle.scenario.proofs.worker_slot.WorkerSlot.lag.Goals as goal

pub returns-then-cursor-base : goal.returns-then-cursor-base
returns-then-cursor-base c guilds w es is sits =
    let base : c.base-base.result ≡ length es - 4096 = c.base-base.ensures ∙ ap (λ (l : GuildLog). l.count - 4096) is in
    let soon : lags es c.cursor-cursor.result ≡ false = grind (arith, nat_tests) in
    lag_is guilds c.args.number c.args.self.now w sits c.args.guild c.cursor-cursor.result es c.cursor-cursor.ensures None
    (ap (λ b. if b then Some (record { worker = c.args.number; guild = c.args.guild; base = base_of es; cursor = c.cursor-cursor.result }) else None) (sym soon))

pub returns : goal.returns
returns c guilds w es is sits =
    let base : c.base-base.result ≡ length es - 4096 = c.base-base.ensures ∙ ap (λ (l : GuildLog). l.count - 4096) is in
    let late : lags es c.cursor-cursor.result ≡ true = grind (arith, nat_tests) in
    lag_is guilds c.args.number c.args.self.now w sits c.args.guild c.cursor-cursor.result es c.cursor-cursor.ensures _
    (ap (λ n. Some (record { worker = c.args.number; guild = c.args.guild; base = n; cursor = c.cursor-cursor.result })) base
    ∙ ap (λ b. if b then Some (record { worker = c.args.number; guild = c.args.guild; base = base_of es; cursor = c.cursor-cursor.result }) else None) (sym late))
