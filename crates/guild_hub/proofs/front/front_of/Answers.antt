use Rattle.std.proofs.Common.{◌∙◌, ◌+◌, ap}
use Rattle.edit_apply.specs.Edits.{state_from}
use Rattle.guild_hub.specs.Logs.{accepted_from}
use Rattle.guild_hub.specs.Trims.{spine_of}
use Rattle.guild_hub.proofs.Trimming.{comes_to}
use Rattle.guild_hub.proofs.front.front_of.Goals as goal

pub returns-in-Ok-clause-record : goal.returns-in-Ok-clause-record
returns-in-Ok-clause-record c =
    let shown = c.args.shown.now in
    c.in-Ok.ensures.record ∙ (ap (λ g. state_from g shown.entries.items) c.in_ok-copy.ensures ∙ (comes_to (spine_of shown) c.requires).0)

pub returns-in-Ok-clause-accepted : goal.returns-in-Ok-clause-accepted
returns-in-Ok-clause-accepted c =
    let shown = c.args.shown.now in
    c.in-Ok.ensures.accepted ∙ (ap (λ g. shown.front.accepted + accepted_from g shown.entries.items) c.in_ok-copy.ensures ∙ (comes_to (spine_of shown) c.requires).1)
