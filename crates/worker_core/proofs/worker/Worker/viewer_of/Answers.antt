-- The holder of a session has its viewer.
use Rattle.std.proofs.Common.{Some, sym, ap, ◌∙◌}
use Rattle.std.specs.Prelude.{option_map}
use Rattle.std.specs.Option.{option_copied}
use Rattle.session_core.specs.Holders.{viewer_for}
use Rattle.worker_core.proofs.Numbering.{viewers_held}
use Rattle.worker_core.proofs.worker.Worker.viewer_of.Goals as goal

pub returns-in_default : goal.returns-in_default
returns-in_default c =
    rw (← c.self.view_is) (ap (option_map viewer_for) (sym (ap option_copied c.in_default.is)) ∙ viewers_held _ _ _ c.holder.ensures.holder)

pub returns : goal.returns
returns c =
    rw (← c.self.view_is)
    (ap (λ v. Some v) c.viewer.ensures ∙ (ap (option_map viewer_for) (sym (ap option_copied c.in-Some.is)) ∙ viewers_held _ _ _ c.holder.ensures.holder))
