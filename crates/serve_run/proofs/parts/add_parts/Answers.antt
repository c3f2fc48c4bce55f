use Rattle.std.proofs.Common.{◌∙◌, ◌++◌, map, ap, append_assoc}
use Rattle.serve_parts.specs.declared.serve_part.ServePart.TheVariants.{Actor, Script, Worker}
use Rattle.serve_run.proofs.parts.add_parts.Goals as goal

pub returns : goal.returns
returns g c =
    let old = c.args.parts.now.items in
    let az = map Actor c.args.actors.items in
    let ss = map Script c.args.scripts.items in
    let ws = map Worker c.args.workers.items in
    c.add_each-3.ensures.items
    ∙ ap (λ l. l ++ ws) (c.add_each-2.ensures.items ∙ ap (λ l. l ++ ss) c.add_each.ensures.items)
    ∙ append_assoc (old ++ az) ss ws
    ∙ append_assoc old az (ss ++ ws)
