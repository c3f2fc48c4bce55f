-- One dispatch more.
use Rattle.std.proofs.Common.{◌≡◌, ◌∷◌, ◌++◌, ◌+◌, ◌<◌, List, length, take, take_all, drop, sym, ap, subst, ◌∙◌, arith}
use Rattle.std.proofs.lemmas.Result.{err_from_is_err_and}
use Rattle.std.proofs.lemmas.List.{take-append-drop}
use Rattle.dispatch_types.specs.declared.dispatch.Dispatch.{Dispatch}
use Rattle.worker_core.specs.declared.io.StepFault.{StepFault}
use Rattle.worker_core.proofs.tell.tell.Goals as goal
use Rattle.worker_core.specs.Telling.{FailsAt, TellsAt}
use Rattle.worker_core.proofs.Numbering.{still_at}
use Rattle.worker_core.proofs.Telling.{fails_more, last_taken, rest_dropped, tells_more}

pub returns-in_err-tell_next : goal.returns-in_err-tell_next
returns-in_err-tell_next c index is =
    let i = c.loop-next.next in
    let ds : List Dispatch = c.args.dispatches.now in
    let d : Dispatch = c.index-dispatches-next.result in
    let fault : StepFault = c.in_err-tell_next.field-0.0 in
    let lt : i < length ds = omega arith in
    let whole : take i ds ++ d ∷ drop (i + 1) ds ≡ ds = ap (λ es. take i ds ++ es) (sym (rest_dropped ds i d lt (sym c.index-dispatches-next.is))) ∙ take-append-drop i ds in
    let told = c.loop-next.invariant index is in
    let there = still_at c.args.session index (take i ds) c.args.sessions.now c.loop-next.sessions c.args.out.now.items c.loop-next.out.items is told in
    let fails = fails_more index (take i ds) d c.args.sessions.now c.loop-next.sessions c.args.out.now.items c.loop-next.out.items told (drop (i + 1) ds) fault (c.in_err-tell_next.ensures index there) in
    let p = err_from_is_err_and c.from_residual.result c.from_residual.ensures.1 in
    rw p.1 (subst (λ (f : StepFault). FailsAt index (λ x. ds) c.args.sessions.now f) (sym p.2)
    (subst (λ (es : List Dispatch). FailsAt index (λ x. es) c.args.sessions.now fault) whole fails))

pub loop-next-preserved : goal.loop-next-preserved
loop-next-preserved c index is =
    let i = c.loop-next.next in
    let ds : List Dispatch = c.args.dispatches.now in
    let d : Dispatch = c.index-dispatches-next.result in
    let lt : i < length ds = omega arith in
    let mid = c.loop-next.sessions in
    let outm = c.loop-next.out.items in
    let told = c.loop-next.invariant index is in
    let there = still_at c.args.session index (take i ds) c.args.sessions.now mid c.args.out.now.items outm is told in
    subst (λ (es : List Dispatch). TellsAt index (λ x. es) c.args.sessions.now c.tell_next.new.sessions c.args.out.now.items c.tell_next.new.out.items)
    (sym (last_taken ds i d lt (sym c.index-dispatches-next.is)))
    (tells_more index (take i ds) d c.args.sessions.now mid c.args.out.now.items outm told c.tell_next.new.sessions c.tell_next.new.out.items (c.in_ok-tell_next.ensures index there))

pub returns : goal.returns
returns c index is =
    let ds : List Dispatch = c.args.dispatches.now in
    let all : take c.loop-next.next ds ≡ ds = take_all c.loop-next.next ds (omega arith) in
    subst (λ (es : List Dispatch). TellsAt index (λ x. es) c.args.sessions.now c.loop-next.sessions c.args.out.now.items c.loop-next.out.items) all (c.loop-next.invariant index is)
