use Rattle.scenario.proofs.server.Server.play.Goals as goal

-- the version of a bot line is noted nowhere
pub returns-in_ok-add_bot-in-Bot : goal.returns-in_ok-add_bot-in-Bot
returns-in_ok-add_bot-in-Bot c = λ p is.
    let plays = c.in_ok-add_bot-in-Bot.ensures p c.in-Bot.v is in
    rw c.in-Bot.is
    (c.sends.ensures.refusal, (c.sends.ensures.lagged, (plays.0, (cc (c.sends.ensures.outputs, c.new.ensures.items), plays.1.1))))
