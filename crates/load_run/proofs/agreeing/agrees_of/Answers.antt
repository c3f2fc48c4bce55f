use Rattle.std.proofs.Common.{◌<◌, ◌+◌, ◌∙◌, map, take, length, ap, sym, subst, arith}
use Rattle.guild_hub.specs.Logs.{whole_record}
use Rattle.load_client.specs.Agreement.{AgreeSo}
use Rattle.load_run.specs.Ends.{AllAgreeSo}
use Rattle.load_run.proofs.Agreed.{agree_next}
use Rattle.load_run.proofs.agreeing.agrees_of.Goals as goal

pub loop-number-preserved : goal.loop-number-preserved
loop-number-preserved g c =
    let rs = map (λ log. whole_record log.1) c.args.logs.now in
    let j = c.loop-number.number in
    let below : j < length c.args.clients.now = omega arith in
    let n = c.in_ok-agree.field-0 in
    let records = ap (map (λ guild. guild.now)) c.deref.ensures.value ∙ c.in_ok-records.ensures in
    let one = subst (λ l. AgreeSo c.viewer_of-viewer.result c.cache.result.now l n) records c.in_ok-agree.ensures in
    let its = subst (λ kept. AgreeSo c.viewer_of-viewer.result kept rs n) c.cache.ensures one in
    let own = subst (λ viewer. AgreeSo viewer c.index-clients-number.result.client.kept rs n) c.viewer_of-viewer.ensures its in
    subst (λ l. AllAgreeSo rs 0 (take (j + 1) c.args.clients.now) l) (sym c.in_ok-push.ensures.items) (agree_next rs j c.args.clients.now c.loop-number.agrees.items c.index-clients-number.result n below (sym c.index-clients-number.is) c.loop-number.invariant own)
