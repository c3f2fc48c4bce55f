use Rattle.std.proofs.Common.{◌∙◌, ◌≤◌, length, sym, ap, arith}
use Rattle.std.proofs.lemmas.List.{drop_all}
use Rattle.edit_apply.specs.Edits.{state_from}
use Rattle.guild_hub.specs.Logs.{accepted_from}
use Rattle.guild_hub.proofs.front.Front.add_all.Goals as goal

pub returns-clause-record : goal.returns-clause-record
returns-clause-record c =
    let entries = c.args.entries.now.items in
    let past : length entries ≤ c.loop-place.place = omega (arith, c.loop-place-test.false, c.len-place-end.ensures) in
    sym (ap (state_from c.loop-place.self.record) (drop_all c.loop-place.place entries past)) ∙ c.loop-place.invariant.record_is

pub returns-clause-accepted : goal.returns-clause-accepted
returns-clause-accepted c =
    let entries = c.args.entries.now.items in
    let past : length entries ≤ c.loop-place.place = omega (arith, c.loop-place-test.false, c.len-place-end.ensures) in
    omega (arith, ap (accepted_from c.loop-place.self.record) (drop_all c.loop-place.place entries past), c.loop-place.invariant.accepted_is)
