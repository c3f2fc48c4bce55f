use Rattle.std.proofs.Common.{◌≡◌, ◌+◌, drop}
use Rattle.edit_apply.specs.Edits.{state_from}
use Rattle.guild_hub.specs.Logs.{accepted_from}
use Rattle.guild_hub.proofs.front.Front.add_all.Given as goal

abbrev pub invariant-loop-place : goal.invariant-loop-place
invariant-loop-place l = record {
  record_is : state_from l.self.record (drop l.place l.entries.items) ≡ state_from l.fn.self.record l.entries.items;
  accepted_is : l.self.accepted + accepted_from l.self.record (drop l.place l.entries.items) ≡ l.fn.self.accepted + accepted_from l.fn.self.record l.entries.items;
}
