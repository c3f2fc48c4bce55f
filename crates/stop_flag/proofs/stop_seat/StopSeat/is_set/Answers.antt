use Rattle.std.proofs.Common.{ℕ, ap, subst}
use Rattle.atomic_table.specs.Seated.{TableId}
use Rattle.stop_flag.specs.declared.flag_view.FlagView.{FlagView}
use Rattle.stop_flag.specs.Flags.{SeatState}
use Rattle.stop_flag.proofs.Looking.{told, Tells, tells}
use Rattle.stop_flag.proofs.stop_seat.StopSeat.is_set.Goals as goal

pub returns : goal.returns
returns c =
    let v : FlagView = c.self.inside.seat.me.0 in
    let w : FlagView = c.find.new.seat.me.0 in
    let number : ℕ = c.self.inside.number in
    subst (λ (before : SeatState). Tells c.find.result before (told c.find.new.seat.table_id number w)) c.self.view_is
    (subst (λ (flag : TableId). Tells c.find.result (told flag number v) (told c.find.new.seat.table_id number w)) c.find.ensures.table
    (tells c.find.new.seat.table_id number c.find.result v w (ap (λ m. m.0.number) c.self.invariant.view) (ap (λ m. m.0) c.find.ensures.found) c.find.ensures.unset))
