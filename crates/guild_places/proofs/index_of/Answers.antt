use Rattle.std.proofs.Common.{rules, ◌<◌, ◌∙◌, length, sym, ap, arith}
use Rattle.guild_places.specs.Places.{guilds_of}
use Rattle.guild_places.proofs.Guilds.{appended, many, guild_of_place}
use Rattle.guild_places.proofs.index_of.Goals as goal

pub loop-thing-preserved : goal.loop-thing-preserved
loop-thing-preserved g c =
    let ts = c.args.things.now in
    let i = c.loop-thing.thing-index in
    let lt : i < length ts = search rules in
    c.in_ok-insert.ensures.keys
    ∙ appended (guilds_of ts) i 0 c.loop-thing.index.keys _ c.requires (omega (arith, many ts, lt)) c.loop-thing.invariant (ap (λ t. t.0) c.thing.view_is ∙ ap (λ t. t.0) c.thing-item.is ∙ sym (guild_of_place ts i 0 c.thing-item.result lt))
