use Rattle.std.proofs.Common.{sym, subst, ap}
use Rattle.stop_flag.specs.Flags.{SeatState}
use Rattle.load_client.specs.declared.name_goal.NameGoal.{NameGoal}
use Rattle.load_client.specs.Watching.{WatchState, IsWatch}
use Rattle.load_client.proofs.Leaving.{has_ended}
use Rattle.load_client.proofs.load_client.run_from.Goals as goal

pub returns : goal.returns
returns g c =
    let l = c.args.load_client in
    let drove = c.drive-driven in
    let watch = drove.new.watch in
    let by_seat = subst (λ (seat : SeatState). IsWatch seat g.B.Beginning.goal watch) (sym c.requires.seat) c.leave.ensures.same in
    let watches = subst (λ (set_out : NameGoal). IsWatch l.seat set_out watch) (sym c.requires.goal) by_seat in
    has_ended l (g.D.Dial.tale c.args.dial.now) (g.D.Dial.tale drove.new.dial) (g.C.Clock.tale c.args.clock.now) (g.C.Clock.tale drove.new.clock) c.as_str.result.now c.new-client.result drove.new.client c.new-watch.result watch c.leave.result drove.result
    c.as_str.ensures c.new-client.ensures watches c.leave.ensures.seat drove.ensures.tells (ap (λ (w : WatchState). w.drops) c.new-watch.ensures) drove.ensures.drives
