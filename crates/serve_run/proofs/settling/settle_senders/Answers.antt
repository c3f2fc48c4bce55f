use Rattle.std.proofs.Common.{◌≡◌, ◌∷◌, [], ◌+◌, ◌-◌, ◌^◌, min, sym, subst, map}
use Rattle.std.specs.List.{All}
use Rattle.std.proofs.lemmas.Result.{IfOk-weaker}
use Rattle.collections.specs.ById.{IsById}
use Rattle.load_settle.specs.Readers.{HasLog}
use Rattle.run_ends.specs.Lists.{woven}
use Rattle.run_ends.specs.Logs.{HasPart}
use Rattle.run_ends.specs.Senders.{HaveEnded, AreTakenWhole}
use Rattle.gate_ends.proofs.Acted.{takers, ascend}
use Rattle.gate_ends.proofs.Settled.{if_ok_all, all_passes}
use Rattle.serve_run.specs.Services.{Service}
use Rattle.serve_run.specs.Ends.{Joined}
use Rattle.serve_run.specs.Served.{IsSettled}
use Rattle.serve_run.proofs.SettledLogs.{both, have_ended, logs_there, is_settled}
use Rattle.serve_run.proofs.settling.settle_senders.Goals as goal

pub settle-requires-clause-takers : goal.settle-requires-clause-takers
settle-requires-clause-takers g c =
    let left = c.in_ok-left.ensures in
    takers (both c.requires.1 left.reports left.sent left.served)

pub settle-requires-clause-ended : goal.settle-requires-clause-ended
settle-requires-clause-ended g c =
    let left = c.in_ok-left.ensures in
    subst (λ l. All (HaveEnded c.args.posts.now) l) (sym (all_passes c.args.senders c.in_ok-left.left left)) (have_ended c.requires.1 left.reports left.sent left.served)

pub settle-requires-clause-ascending : goal.settle-requires-clause-ascending
settle-requires-clause-ascending g c =
    let left = c.in_ok-left.ensures in
    ascend (both c.requires.1 left.reports left.sent left.served)

pub settle-requires-clause-logs : goal.settle-requires-clause-logs
settle-requires-clause-logs g c =
    let left = c.in_ok-left.ensures in
    subst (λ l. All (HasLog (woven c.in_ok-left.left.first.logs.items c.in_ok-left.left.second.logs.items)) l) (sym left.readers_are) (logs_there c.requires.1 left.reports left.sent left.served)

pub returns-clause-settled : goal.returns-clause-settled
returns-clause-settled g c =
    let a = c.args.senders in
    let its = c.in_ok-left.left in
    let left = c.in_ok-left.ensures in
    let logs = woven its.first.logs.items its.second.logs.items in
    let taken = its.first.pass ∷ its.second.pass ∷ [] in
    if_ok_all (λ x. x.logs.items ≡ logs) (λ settled. (s : Service) → Joined {R = g.row.R.Denot} s c.args.posts.now a.actors.items a.scripts.items a.workers.items → IsSettled s settled.logs.items settled.strays)
    (λ x. x.strays ≡ min (its.first.strays + its.second.strays) (2 ^ 64 - 1))
    (All (AreTakenWhole taken) (map (λ passes. passes.items) its.passes.items)) (All (HasPart logs) its.readers.items) c.settle.result
    (λ x same strays whole part s j. subst (λ l. IsSettled s l x.strays) (sym same)
    (is_settled j left.reports left.sent left.served x.strays strays (subst (λ l. All (AreTakenWhole taken) l) (all_passes a its left) whole) (subst (λ l. All (HasPart logs) l) left.readers_are part)))
    c.settle.ensures.logs c.settle.ensures.strays c.settle.ensures.whole c.settle.ensures.readers

pub returns-clause-ascending : goal.returns-clause-ascending
returns-clause-ascending g c =
    let left = c.in_ok-left.ensures in
    let logs = woven c.in_ok-left.left.first.logs.items c.in_ok-left.left.second.logs.items in
    IfOk-weaker c.settle.result (λ x. x.logs.items ≡ logs) (λ x. IsById (λ log. log.0) x.logs.items)
    (λ x same. subst (IsById (λ log. log.0)) (sym same) (ascend (both c.requires.1 left.reports left.sent left.served))) c.settle.ensures.logs
