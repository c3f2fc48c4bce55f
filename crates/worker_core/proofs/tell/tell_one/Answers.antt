-- The session at the index is one dispatch further, and is sent it if it is attached.
use Rattle.std.proofs.Common.{Some, ap, ◌∙◌}
use Rattle.payload_text.specs.Around.{text_around}
use Rattle.event_json.proofs.Frames.{numbered_is}
use Rattle.worker_core.proofs.tell.tell_one.Goals as goal
use Rattle.worker_core.proofs.Telling.{tells_one}

pub returns : goal.returns
returns c =
    let number = c.in_ok-number.number in
    let d = c.args.dispatch.now in
    let text = c.in_ok-text.ensures ∙ (ap (λ parts. text_around parts (Some number)) c.requires.envelope ∙ numbered_is d number) in
    tells_one c.args.index d c.args.sessions.now c.push_at.new.self number c.conn_at.result c.in_ok-text.text c.args.out.now.items c.send_to.new.out.items
    c.in_ok-number.ensures.number c.in_ok-number.ensures.fits c.conn_at.ensures text c.push_at.ensures c.in_ok-send_to.ensures
