use Rattle.std.proofs.Common.{◌≡◌, [], false, refl, sym, ◌∙◌, arith}
use Rattle.std.proofs.lemmas.Grind.{common_steps}
use Rattle.std.proofs.lemmas.Result.{on_ok_weaker}
use Rattle.scenario.specs.Server.{has_token}
use Rattle.scenario.proofs.Servers.{bot_plays}
use Rattle.scenario.proofs.server.Server.add_bot.Goals as goal

pub returns : goal.returns
returns c =
    let server = c.args.self.now in
    let bot = c.args.bot in
    let empty : server.slots.items ≡ [] = grind (arith, common_steps) in
    let unknown : has_token bot.token server.bots ≡ false = (λ i. has_token (sym c.as_str.ensures i) (sym c.as_slice.ensures i)) ∙ sym c.knows.ensures ∙ c.if-knows.false in
    on_ok_weaker c.push.result
    (λ pushed p v stands. bot_plays server (record server { bots = c.push.new.self }) p bot v [] stands empty unknown pushed refl refl refl refl refl)
    c.push.ensures.ok
