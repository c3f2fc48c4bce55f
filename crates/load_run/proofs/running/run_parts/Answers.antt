use Rattle.std.proofs.Common.{map, sym, ap, subst, ◌∙◌}
use Rattle.gate_outside.specs.Causes.{Rose}
use Rattle.gate_outside.specs.Spawners.{Starts}
use Rattle.load_run.proofs.running.run_parts.Goals as goal

pub returns : goal.returns
returns g c =
    let begun = c.begin_all-started.ensures in
    let finished = c.finish_all-dones.ensures in
    record {
      front = map g.S.Spawner.task_of c.begin_all-started.result.started.items;
      parts = begun.parts;
      gave = finished.gives;
      asked = λ none. ap (λ (s : Starts). s.asked) finished.starts ∙ begun.asked none;
      late = λ none. ap (λ (s : Starts). s.late) finished.starts ∙ begun.late none;
      sound = λ none. finished.faults ∙ begun.sound none;
      rose = λ some. subst (λ n. Rose (g.S.Spawner.faults c.args.team.now) n) (sym finished.faults) (begun.rose some);
    }
