-- READY lists the guilds of the records.
use Rattle.std.proofs.Common.{◌≡◌, List, map, refl, sym, ap, ◌∙◌}
use Rattle.session_core.specs.Resume.{session_id}
use Rattle.guild_replica.specs.Replicas.{GuildCopy}
use Rattle.worker_core.specs.InCode.{bare, guild_of}
use Rattle.world_law.specs.Greeting.{listed_guilds}
use Rattle.worker_core.proofs.Records.{bare_guilds}
use Rattle.worker_core.proofs.Wanting.{listed_is}
use Rattle.worker_core.proofs.worker.Worker.ready.Goals as goal

pub returns : goal.returns
returns c n is =
    let v = c.viewer-viewer.result in
    let ids : c.in_ok-guilds.guilds ≡ listed_guilds v (map guild_of (map bare c.self.inside.replicas)) =
    c.in_ok-guilds.ensures ∙ (listed_is v c.as_slice.result.now ∙ (ap (λ (rs : List GuildCopy). listed_guilds v (map guild_of rs)) c.as_slice.ensures.items
    ∙ ap (listed_guilds v) (sym (bare_guilds c.self.inside.replicas)))) in
    let own : c.args.holder.now.id ≡ session_id c.self.inside.sessions.worker n = rw (← c.self.view_is) at is in
    rw (← c.self.view_is, c.in_ok-name.ensures, ids, c.in_ok-session.ensures, c.in_ok-url.ensures, c.viewer-viewer.ensures, own) refl
