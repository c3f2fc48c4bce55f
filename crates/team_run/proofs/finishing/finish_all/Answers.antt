use Rattle.std.proofs.Common.{rules, ◌≡◌, ◌+◌, ◌-◌, length, List, [], ◌∷◌, reverse, sym, ap, subst, ◌∙◌, arith, length-append}
use Rattle.std.proofs.lemmas.List.{nil_from_length}
use Rattle.gate_outside.specs.Spawners.{after_finish}
use Rattle.team_run.specs.Teams.{after_finishes}
use Rattle.team_run.proofs.Counts.{one_finish}
use Rattle.team_run.proofs.Lists.{taken_first, one_finished, all_finished, GivesRest}
use Rattle.team_run.proofs.finishing.finish_all.Goals as goal

pub loop-held-preserved : goal.loop-held-preserved
loop-held-preserved g c =
    let at = c.loop-held in
    let left : List g.row.S-Held.Denot = c.pop.new.self.items in
    let all : List g.row.S-Held.Denot = c.args.started.items in
    let first = taken_first at.started.items left c.in-Some.held c.in-Some.ensures.items in
    let fewer : length at.started.items ≡ length left + 1 = ap length c.in-Some.ensures.items ∙ length-append left (c.in-Some.held ∷ []) in
    let ended : length all - length at.started.items + 1 ≡ length all - length left = omega (arith, at.invariant.fewer) in
    record {
      gives =
          let held = subst (λ (l : List g.row.S-Held.Denot). GivesRest g.T.Task.gives g.S.Spawner.task_of all l at.dones.items) first at.invariant.gives in
          let given = one_finished g.T.Task.gives g.S.Spawner.task_of all (reverse left) c.in-Some.held at.dones.items c.finish-done.result held c.finish-done.ensures.gives in
          subst (λ (ds : List g.row.T-Done.Denot). GivesRest g.T.Task.gives g.S.Spawner.task_of all (reverse left) ds) (sym c.add.ensures.items) given;
      fewer = omega (arith, at.invariant.fewer);
      room = omega (arith, at.invariant.room, c.pop.ensures.len, c.in-Some.ensures.len, c.add.ensures.len, c.add.ensures.capacity);
      starts = c.finish-done.ensures.starts ∙ ap after_finish at.invariant.starts
          ∙ one_finish (length all - length at.started.items) (g.S.Spawner.starts c.args.team.now)
          ∙ ap (λ n. after_finishes n (g.S.Spawner.starts c.args.team.now)) ended;
      faults = c.finish-done.ensures.faults ∙ at.invariant.faults;
    }

pub returns-clause-gives : goal.returns-clause-gives
returns-clause-gives g c =
    let at = c.loop-held in
    let none : at.started.items ≡ [] = nil_from_length _ (search rules) in
    all_finished g.T.Task.gives g.S.Spawner.task_of c.args.started.items (reverse at.started.items) at.dones.items at.invariant.gives (ap reverse none)
