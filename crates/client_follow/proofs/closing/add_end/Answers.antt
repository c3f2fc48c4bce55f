use Rattle.std.proofs.Common.{Result, refl, subst, sym}
use Rattle.client_run.specs.declared.driven.Driven.{Driven}
use Rattle.client_run.specs.declared.fault.DriveFault.{DriveFault}
use Rattle.client_follow.specs.Follows.{Says, fault_line}
use Rattle.client_follow.proofs.Going.{if_added}
use Rattle.client_follow.proofs.closing.add_end.Goals as goal

pub returns-in-Err : goal.returns-in-Err
returns-in-Err c =
    let f = c.in-Err.fault in (
      fault_line f,
      subst (λ (r : Result Driven DriveFault). Says c.args.cache.now r (fault_line f)) (sym c.in-Err.is) refl,
      if_added c.add_fault.result c.args.text.now.items c.add_fault.new.text.items (fault_line f) c.add_fault.ensures,
    )
