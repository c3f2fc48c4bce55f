-- A voice channel is wished in a guild that the worker follows.
use Rattle.std.proofs.Common.{Some, None, sym, ap, ◌∙◌}
use Rattle.std.specs.Prelude.{option_map}
use Rattle.std.specs.Option.{option_copied}
use Rattle.world_law.proofs.Lists.{append_none}
use Rattle.worker_core.specs.InCode.{bare}
use Rattle.worker_core.proofs.worker.Worker.wish_voice.Goals as goal
use Rattle.worker_core.proofs.Wanting.{speaks, when_ok}

pub returns-in-Some-Some : goal.returns-in-Some-Some
returns-in-Some-Some c =
    when_ok c.wish_voice.result
    (speaks c.args.self.now c.args.session c.args.out.now.items c.args.ask.now c.in-Some-Some.viewer (Some (bare c.in-Some-Some.replica.now)) c.wish_voice.new.out.items
    (sym c.viewer_of.ensures ∙ c.in-Some-Some.is-0) (sym (ap (λ o. option_map bare (option_copied o)) c.in-Some-Some.is-1) ∙ c.replica.ensures.found)) c.wish_voice.ensures

pub returns-in_default : goal.returns-in_default
returns-in_default c =
    speaks c.args.self.now c.args.session c.args.out.now.items c.args.ask.now c.in_default.field-0-0 None c.args.out.now.items
    (sym c.viewer_of.ensures ∙ c.in_default.is-0) (sym (ap (λ o. option_map bare (option_copied o)) c.in_default.is-1) ∙ c.replica.ensures.found) (sym (append_none c.args.out.now.items))
