-- One session more.
use Rattle.std.proofs.Common.{◌≡◌, ◌<◌, ◌+◌, List, get_or, length, take, sym, ap, ◌∙◌, arith}
use Rattle.std.specs.Prelude.{option_map}
use Rattle.std.proofs.lemmas.List.Sums.{sum_by_more}
use Rattle.replay_ring.specs.Replay.{Replay}
use Rattle.session_core.specs.State.{Session}
use Rattle.worker_core.specs.Made.{last_number, live_dispatches}
use Rattle.worker_core.proofs.made.live_dispatches.Goals as goal
use Rattle.worker_core.proofs.Picking.{item_at}

pub loop-index-preserved : goal.loop-index-preserved
loop-index-preserved c =
    let xs : List (Session Replay) = c.args.sessions.now.sessions in
    let i = c.loop-index.index in
    let lt : i < length xs = omega (arith, c.len-index-end.ensures.sessions) in
    let here = item_at xs i lt in
    let last : last_number here.item ≡ c.last_at.result = cc (c.last_at.ensures, ap (option_map last_number) here.found) in
    let one : last_number (get_or xs i here.item) ≡ c.last_at.result = ap last_number here.read ∙ last in
    let more : live_dispatches (take (i + 1) xs) ≡ live_dispatches (take i xs) + last_number (get_or xs i here.item) = sum_by_more last_number xs i here.item lt in
    record {
      counted =
          ap (λ n. n + c.from-count.result) c.loop-index.invariant.counted
          ∙ (ap (λ n. live_dispatches (take i xs) + n) (c.from-count.ensures ∙ sym one) ∙ sym more);
      small = omega (arith, c.loop-index.invariant.small, c.from-count.ensures, c.last_at.type_inv);
    }
