use Rattle.std.proofs.Common.{◌≡◌, ◌+◌, ◌-◌, ◌++◌, length, map, take, List, [], ◌∷◌, reverse, sym, ap, ◌∙◌, arith, length-append}
use Rattle.std.proofs.lemmas.List.{take-append-le, length-reverse}
use Rattle.gate_outside.specs.Spawners.{after_start}
use Rattle.team_run.specs.Teams.{after_starts}
use Rattle.team_run.proofs.Counts.{one_start}
use Rattle.team_run.proofs.Lists.{taken_first, one_started}
use Rattle.team_run.proofs.starting.start_all.Goals as goal

pub loop-task-preserved : goal.loop-task-preserved
loop-task-preserved g c =
    let at = c.loop-task in
    let left : List g.row.T.Denot = c.pop.new.self.items in
    let first = taken_first at.tasks.items left c.in-Some.task c.in-Some.ensures.items in
    let fewer : length at.tasks.items ≡ length left + 1 = ap length c.in-Some.ensures.items ∙ length-append left (c.in-Some.task ∷ []) in
    let longer : length c.add.new.items.items ≡ length at.started.items + 1 = ap length c.add.ensures.items ∙ length-append at.started.items (c.in-Ok.held ∷ []) in
    let asked : length c.args.tasks.items - length at.tasks.items + 1 ≡ length c.args.tasks.items - length left = omega (arith, at.invariant.fewer) in
    record {
      tasks = ap (λ (l : List g.row.S-Held.Denot). map g.S.Spawner.task_of l ++ reverse left) c.add.ensures.items
          ∙ one_started g.S.Spawner.task_of at.started.items c.in-Ok.held c.in-Some.task (reverse left) c.in-Ok.ensures.held
          ∙ ap (λ (l : List g.row.T.Denot). map g.S.Spawner.task_of at.started.items ++ l) (sym first)
          ∙ at.invariant.tasks;
      kept = ap (λ (l : List g.row.S-Held.Denot). take (length c.args.started.now.items) l) c.add.ensures.items
          ∙ take-append-le (length c.args.started.now.items) at.started.items (c.in-Ok.held ∷ []) at.invariant.longer ∙ at.invariant.kept;
      longer = omega (arith, at.invariant.longer);
      fewer = omega (arith, at.invariant.fewer);
      room = omega (arith, at.invariant.room, c.pop.ensures.len, c.in-Some.ensures.len, c.add.ensures.len, c.add.ensures.capacity);
      starts = c.start.ensures.starts ∙ ap after_start at.invariant.starts
          ∙ one_start (length c.args.tasks.items - length at.tasks.items) (g.S.Spawner.starts c.args.team.now)
          ∙ ap (λ n. after_starts n (g.S.Spawner.starts c.args.team.now)) asked;
      faults = c.in-Ok.ensures.cause.ok ∙ at.invariant.faults;
    }

pub returns-in-Err-clause-starts : goal.returns-in-Err-clause-starts
returns-in-Err-clause-starts g c =
    let at = c.loop-task in
    let left : List g.row.T.Denot = c.pop.new.self.items in
    let fewer : length at.tasks.items ≡ length left + 1 = ap length c.in-Some.ensures.items ∙ length-append left (c.in-Some.task ∷ []) in
    let back : length c.reverse-in-Err.new.self.items ≡ length left + 1 = ap length c.reverse-in-Err.ensures.items ∙ length-reverse c.add-in-Err.new.items.items ∙ ap length c.add-in-Err.ensures.items ∙ length-append left (c.in-Err.task ∷ []) in
    let asked : length c.args.tasks.items - length at.tasks.items + 1 ≡ length c.args.tasks.items + 1 - length c.reverse-in-Err.new.self.items = omega (arith, at.invariant.fewer) in
    c.start.ensures.starts ∙ ap after_start at.invariant.starts
    ∙ one_start (length c.args.tasks.items - length at.tasks.items) (g.S.Spawner.starts c.args.team.now)
    ∙ ap (λ n. after_starts n (g.S.Spawner.starts c.args.team.now)) asked
