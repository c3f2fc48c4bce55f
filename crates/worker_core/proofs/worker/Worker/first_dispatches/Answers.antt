-- READY and the guilds, for the holder of the session.
use Rattle.std.proofs.Common.{List, ◌++◌, map, refl, sym, ap, ◌∙◌}
use Rattle.std.specs.Prelude.{flat_map}
use Rattle.std.specs.Option.{option_copied}
use Rattle.world_law.specs.Greeting.{greeting_of}
use Rattle.worker_core.specs.InCode.{KeptMachine, bare}
use Rattle.guild_replica.specs.Replicas.{GuildCopy}
use Rattle.worker_core.proofs.Numbering.{greeted_held, nobody_held}
use Rattle.worker_core.proofs.Records.{of_bare}
use Rattle.worker_core.proofs.worker.Worker.first_dispatches.Goals as goal

pub returns-in_default-clause-list : goal.returns-in_default-clause-list
returns-in_default-clause-list c =
    let k : KeptMachine = record { url = c.self.inside.url; now = c.self.inside.clock; chunks = c.self.inside.chunks; logs = map bare c.self.inside.replicas; core = c.self.inside.sessions } in
    rw (← c.self.view_is) (nobody_held k c.args.session (sym (ap option_copied c.in_default.is) ∙ c.holder.ensures.holder) ∙ sym c.new-list.ensures.items)

pub returns-in_default-clause-once : goal.returns-in_default-clause-once
returns-in_default-clause-once c = rw (← c.self.view_is) c.holder.ensures.once

pub returns-clause-list : goal.returns-clause-list
returns-clause-list c =
    let k : KeptMachine = record { url = c.self.inside.url; now = c.self.inside.clock; chunks = c.self.inside.chunks; logs = map bare c.self.inside.replicas; core = c.self.inside.sessions } in
    rw (← c.self.view_is) (greeted_held k c.args.session c.in-Some.holder.now c.in_ok-ready.field-0 c.viewer-viewer.result c.new-list.result.items c.push.new.self.items c.guild_creates.new.list.items
    (sym (ap option_copied c.in-Some.is) ∙ c.holder.ensures.holder) c.viewer-viewer.ensures (rw (← c.self.view_is) at c.in_ok-ready.ensures) c.new-list.ensures.items c.in_ok-push.ensures.items
    (c.in_ok-guild_creates.ensures ∙ (ap (λ (rs : List GuildCopy). c.push.new.self.items ++ flat_map (λ (r : GuildCopy). greeting_of c.viewer-viewer.result r.guild) rs) c.as_slice.ensures.items
    ∙ ap (λ ds. c.push.new.self.items ++ ds) (sym (of_bare (λ (r : GuildCopy). greeting_of c.viewer-viewer.result r.guild) (λ r. refl) c.self.inside.replicas)))))

pub returns-clause-once : goal.returns-clause-once
returns-clause-once c = rw (← c.self.view_is) c.holder.ensures.once
