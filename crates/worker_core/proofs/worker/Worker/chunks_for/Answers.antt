-- The chunks of a guild that the worker follows.
use Rattle.std.proofs.Common.{◌≡◌, Vec, Global, sym, ap, ◌∙◌}
use Rattle.std.specs.Prelude.{option_map}
use Rattle.std.specs.Option.{option_copied}
use Rattle.guild_model.specs.Record.{Record}
use Rattle.dispatch_types.specs.declared.dispatch.Dispatch.{Dispatch}
use Rattle.member_chunks.specs.Answered.{answered}
use Rattle.world_law.specs.Keeping.{record_at}
use Rattle.world_law.specs.Wants.{answered_by}
use Rattle.worker_core.specs.InCode.{KeptMachine, bare, in_code}
use Rattle.worker_core.proofs.Wanting.{answers_by, not_followed, when_if_ok}
use Rattle.worker_core.proofs.worker.Worker.chunks_for.Goals as goal

pub returns-in-Some : goal.returns-in-Some
returns-in-Some c =
    let k : KeptMachine = c.args.self.now.machine in
    let ask = c.args.ask.now in
    let v = c.args.viewer.now in
    let g = c.guild.result.now in
    when_if_ok (λ (list : Vec Dispatch Global). list.items ≡ answered g v ask)
    (λ (list : Vec Dispatch Global). list.items ≡ answered_by v ask (record_at in_code k.logs ask.guild)) c.answer.result
    (λ list is. is ∙ (ap (λ (s : Record). answered s v ask) c.guild.ensures ∙ sym (answers_by k ask v (bare c.in-Some.replica.now) (sym c.replica.ensures.found ∙ ap (λ o. option_map bare (option_copied o)) c.in-Some.is)))) c.answer.ensures

pub returns-in-None : goal.returns-in-None
returns-in-None c =
    c.new.ensures.items ∙ sym (not_followed c.args.self.now.machine c.args.ask.now c.args.viewer.now (sym c.replica.ensures.found ∙ ap (λ o. option_map bare (option_copied o)) c.in-None.is))
