use Rattle.std.proofs.Common.{◌∙◌, ◌++◌, map, ap, append_assoc}
use Rattle.load_parts.specs.declared.load_part.LoadPart.TheVariants.{Actor, Script, Worker, Client}
use Rattle.load_run.proofs.parts.add_parts.Goals as goal

pub returns : goal.returns
returns g c =
    let old = c.args.parts.now.items in
    let az = map Actor c.args.actors.items in
    let ss = map Script c.args.scripts.items in
    let ws = map Worker c.args.workers.items in
    let cs = map Client c.args.clients.items in
    c.add_each-4.ensures.items
    ∙ ap (λ l. l ++ cs) (c.add_each-3.ensures.items ∙ ap (λ l. l ++ ws) (c.add_each-2.ensures.items ∙ ap (λ l. l ++ ss) c.add_each.ensures.items))
    ∙ append_assoc ((old ++ az) ++ ss) ws cs
    ∙ append_assoc (old ++ az) ss (ws ++ cs)
    ∙ append_assoc old az (ss ++ (ws ++ cs))
