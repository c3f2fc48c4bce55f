-- One session more.
use Rattle.std.proofs.Common.{◌≡◌, ◌<◌, List, length, take, sym, ap, ◌∙◌, arith}
use Rattle.std.specs.Prelude.{option_map}
use Rattle.std.specs.Option.{option_copied}
use Rattle.replay_ring.specs.Replay.{Replay}
use Rattle.session_core.specs.State.{Session}
use Rattle.worker_core.proofs.keeping.has_session.Goals as goal
use Rattle.worker_core.proofs.Masks.{any_at, any_more}
use Rattle.worker_core.proofs.Picking.{item_at}
use Rattle.worker_core.proofs.Telling.{last_taken}
use Rattle.worker_core.specs.Masks.{has_kept_session, is_served}
use Rattle.worker_core.specs.Recipients.{viewer_of}

pub returns-in_default : goal.returns-in_default
returns-in_default c =
    let xs : List (Session Replay) = c.args.sessions.now.sessions in
    let i = c.loop-index.index in
    let lt : i < length xs = omega (arith, c.len-index-end.ensures.sessions) in
    let here = item_at xs i lt in
    absurd (cc (c.viewer_at.ensures, ap option_copied c.in_default.is, ap (option_map viewer_of) here.found))

pub returns-then-is_served : goal.returns-then-is_served
returns-then-is_served c =
    let xs : List (Session Replay) = c.args.sessions.now.sessions in
    let i = c.loop-index.index in
    let lt : i < length xs = omega (arith, c.len-index-end.ensures.sessions) in
    let here = item_at xs i lt in
    let viewed : c.in-Some.viewer.now ≡ here.item.viewer = cc (c.in-Some.ensures, ap (option_map viewer_of) here.found) in
    sym (any_at (λ (x : Session Replay). is_served c.args.guild.now c.args.user x.viewer) xs i here.item here.found
    (ap (is_served c.args.guild.now c.args.user) (sym viewed) ∙ (sym c.is_served.ensures ∙ c.if-is_served.true)))

pub loop-index-preserved : goal.loop-index-preserved
loop-index-preserved c =
    let xs : List (Session Replay) = c.args.sessions.now.sessions in
    let i = c.loop-index.index in
    let lt : i < length xs = omega (arith, c.len-index-end.ensures.sessions) in
    let here = item_at xs i lt in
    let viewed : c.in-Some.viewer.now ≡ here.item.viewer = cc (c.in-Some.ensures, ap (option_map viewer_of) here.found) in
    ap (λ ys. has_kept_session ys c.args.user c.args.guild.now) (last_taken xs i here.item lt here.read)
    ∙ any_more (λ (x : Session Replay). is_served c.args.guild.now c.args.user x.viewer) (take i xs) here.item c.loop-index.invariant
    (ap (is_served c.args.guild.now c.args.user) (sym viewed) ∙ (sym c.is_served.ensures ∙ c.if-is_served.false))
