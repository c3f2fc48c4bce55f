use Rattle.std.proofs.Common.{◌≡◌, ◌∙◌, refl, ap, ap₂, subst, map, length, arith}
use Rattle.std.specs.List.{All, range_with_len}
use Rattle.guild_hub.specs.Logs.{whole_record}
use Rattle.log_summary.specs.Summary.{summary_text}
use Rattle.gate_ends.proofs.Zips.{many_zip}
use Rattle.load_run.specs.Ends.{HasFinished, AllAgreeSo}
use Rattle.load_run.specs.Joined.{ClientEnds}
use Rattle.load_run.proofs.Clients.{all_clients}
use Rattle.load_run.proofs.summing.sum_up.Goals as goal

pub agrees_of-requires : goal.agrees_of-requires
agrees_of-requires g c =
    let many : length c.args.clients.items ≡ 12 = many_zip (ClientEnds c.requires.clients.0) (range_with_len 0 12) c.args.clients.items c.requires.clients.1 in
    let same = ap length c.deref-2.ensures.value in
    omega (arith, many, same)

pub returns : goal.returns
returns g c =
    let logs = c.in_ok-settled.settled.logs.items in
    let agrees = c.in_ok-agrees.agrees.items in
    let clients = c.args.clients.items in
    let finished = subst (λ l. All HasFinished l) c.deref.ensures.value (c.if-not-have_finished.ensures refl) in
    let agree = subst (λ l. AllAgreeSo (map (λ log. whole_record log.1) l) 0 clients agrees) c.deref-3.ensures.value
    (subst (λ l. AllAgreeSo (map (λ log. whole_record log.1) c.deref-3.result.now) 0 l agrees) c.deref-2.ensures.value c.in_ok-agrees.ensures) in
    let ran = all_clients logs c.requires.clients.0 0 12 clients agrees c.requires.clients.1 finished agree in
    record {
      logs = logs;
      are_logs = c.in_ok-settled.ensures c.args.seed c.requires.senders;
      agrees = agrees;
      clients = ran;
      text_is = c.in_ok-text.ensures ∙ ap₂ (summary_text c.args.seed) c.deref-4.ensures.value c.deref-5.ensures.value;
    }
