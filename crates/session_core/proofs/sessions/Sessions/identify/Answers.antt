use Rattle.std.proofs.Common.{◌≡◌, Some, sym}
use Rattle.session_core.specs.Identify.{identified, bot_of}
use Rattle.session_core.proofs.Starts.{start_as-judged}
use Rattle.session_core.proofs.sessions.Sessions.identify.Goals as goal

pub returns-in_ok-copy-in-Ok : goal.returns-in_ok-copy-in-Ok
unfolding identified
returns-in_ok-copy-in-Ok c =
    let found : bot_of c.args.identify.now.token c.args.self.now.bots ≡ Some c.in-Some.bot.now =
    rw (← c.self.view_is, ← c.as_slice.ensures.value, ← c.as_str.ensures) (sym c.in-Some.ensures) in
    rw (found, ← c.len.ensures.live, c.in_ok-copy-in-Ok.ensures)
    (start_as-judged c.len.result c.args.identify.now c.in-Some.bot.now c.in-Ok.viewer c.in-Ok.ensures)
