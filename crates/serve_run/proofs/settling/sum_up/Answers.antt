use Rattle.std.proofs.Common.{◌∙◌, ◌++◌, ap, sym}
use Rattle.serve_run.specs.Lines.{guild_lines, strays_line}
use Rattle.serve_run.proofs.settling.sum_up.Goals as goal

pub returns : goal.returns
returns g c s same j = record {
  logs = c.in_ok-settled.settled.logs.items;
  strays = c.in_ok-settled.settled.strays;
  settled = c.in_ok-settled.ensures.settled s j;
  text_is = c.in_ok-text.ensures ∙ ap (λ gs. guild_lines c.in_ok-settled.settled.logs.items gs ++ strays_line c.in_ok-settled.settled.strays) (sym same);
}
