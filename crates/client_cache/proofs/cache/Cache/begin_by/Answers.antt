use Rattle.std.proofs.Common.{◌≡◌, Some, None, sym, ap, ◌∙◌}
use Rattle.std.specs.Option.{option_copied}
use Rattle.std.proofs.lemmas.Result.{on_ok_weaker}
use Rattle.client_cache.specs.Sent.{ready_of}
use Rattle.client_cache.specs.Cached.{held_of}
use Rattle.client_cache.proofs.Changes.{changed-ready, changed-none}
use Rattle.client_cache.proofs.cache.Cache.begin_by.Goals as goal

pub returns-in-Some-clause-ok : goal.returns-in-Some-clause-ok
returns-in-Some-clause-ok c =
    let is_ready : ready_of c.args.dispatch.now ≡ Some c.in-Some.ready.now = sym c.ready_of.ensures ∙ ap option_copied c.in-Some.is in
    on_ok_weaker c.begin.result
    (λ is g. is g ∙ sym (changed-ready c.args.self.now.intents g (held_of c.args.self.now g) c.args.dispatch.now c.in-Some.ready.now is_ready))
    c.begin.ensures.ok

pub returns-in-None-clause-ok : goal.returns-in-None-clause-ok
returns-in-None-clause-ok c g =
    let not_ready : ready_of c.args.dispatch.now ≡ None = sym c.ready_of.ensures ∙ ap option_copied c.in-None.is in
    sym (changed-none c.args.self.now.intents g (held_of c.args.self.now g) c.args.dispatch.now c.requires not_ready)
