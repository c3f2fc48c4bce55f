use Rattle.std.proofs.Common.{◌≡◌, ◌+◌, ◌-◌, drop}
use Rattle.run_stage.specs.Dealing.{AreFrom}
use Rattle.run_stage.specs.Seats.{HasSeats}
use Rattle.load_stage.specs.Drafts.{IsClientDraft}
use Rattle.load_stage.proofs.clients.add_clients.Given as goal

abbrev pub invariant-loop-number : goal.invariant-loop-number
invariant-loop-number g l = record {
  dials : l.dials.items ≡ drop l.number l.fn.dials.items;
  seats : HasSeats 22 (9 + l.number) (13 - l.number) l.seats;
  keeper : l.seats.keeper ≡ l.fn.seats.keeper;
  drafts : AreFrom (IsClientDraft l.fn.seats.keeper.flag l.fn.dials.items) 0 l.number l.drafts.items;
}
