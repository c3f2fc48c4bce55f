use Rattle.std.proofs.Common.{◌∙◌, List, ◌∷◌, [], ◌++◌, ap, drop, sym}
use Rattle.guild_hub.specs.Logs.{with_seal}
use Rattle.guild_hub.specs.declared.shown.Shown.{Shown}
use Rattle.guild_hub.specs.declared.shown.Op.{Op}
use Rattle.guild_hub.specs.declared.shown.Op.TheVariants.{Seal}
use Rattle.guild_hub.proofs.Turning.{shows, sealed_by}
use Rattle.guild_hub.proofs.ruled.seal.Goals as goal

pub publish_as-requires : goal.publish_as-requires
publish_as-requires g c next is =
    let now = c.append.new.self in
    let shown = ap (λ d. d.shown.value) c.in-Ok.ensures.desk in
    shows _ _ now.desk.shown.value next
    (sealed_by now.desk.shown.value next (drop now.behind now.log.items) c.args.with.1
    (c.in-Ok.ensures.pending ∙ ap (λ (l : List Op). l ++ Seal c.args.with.1 ∷ []) c.requires.none)
    (c.requires.note ∙ sym (ap (λ (x : Shown). with_seal x.note) shown))
    is)
