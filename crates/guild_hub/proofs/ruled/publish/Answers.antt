use Rattle.std.proofs.Common.{◌∙◌, List, ◌∷◌, [], ◌++◌, ap, drop, sym}
use Rattle.guild_hub.specs.Logs.{with_entry}
use Rattle.guild_hub.specs.declared.shown.Shown.{Shown}
use Rattle.guild_hub.specs.declared.shown.Op.{Op}
use Rattle.guild_hub.specs.declared.shown.Op.TheVariants.{Add}
use Rattle.guild_hub.proofs.Turning.{shows, added}
use Rattle.guild_hub.proofs.ruled.publish.Goals as goal

pub publish_as-requires : goal.publish_as-requires
publish_as-requires g c next is =
    let now = c.append.new.self in
    let shown = ap (λ d. d.shown.value) c.in-Ok.ensures.desk in
    shows _ _ now.desk.shown.value next
    (added now.desk.shown.value next (drop now.behind now.log.items) c.args.with.1 c.args.with.2
    (c.in-Ok.ensures.pending ∙ ap (λ (l : List Op). l ++ Add c.args.with.1 c.args.with.2 ∷ []) c.requires.none)
    (c.requires.note ∙ sym (ap (λ (x : Shown). with_entry x.note c.args.with.1) shown))
    is)
