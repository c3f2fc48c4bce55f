use Rattle.std.proofs.Common.{◌∙◌, ◌++◌, ap, map, flat_map}
use Rattle.gate_ends.proofs.senders.Senders.gather.Goals as goal

pub returns : goal.returns
returns g c =
    let its = c.args.self in record {
      reports = c.in_ok-first.ensures;
      sent = c.in_ok-add_scripts.ensures.0;
      served = c.in_ok-add_workers.ensures.0;
      passes_are = c.in_ok-add_workers.ensures.1 ∙ ap (λ l. l ++ map (λ e. e.passes) its.workers.items) (c.in_ok-add_scripts.ensures.1 ∙ ap (λ l. l ++ map (λ e. e.passes) its.scripts.items) c.new-passes.ensures.items);
      readers_are = c.in_ok-add_workers.ensures.2 ∙ ap (λ l. l ++ flat_map (λ e. e.readers.items) its.workers.items) c.new-readers.ensures.items;
    }
