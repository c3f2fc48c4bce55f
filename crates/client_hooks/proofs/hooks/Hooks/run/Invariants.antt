use Rattle.std.proofs.Common.{◌≡◌}
use Rattle.std.specs.Fn.{FnReturnsAt}
use Rattle.dispatch_types.specs.Kinds.{kind_of}
use Rattle.client_hooks.specs.Calls.{IsNoteOf}
use Rattle.client_hooks.specs.Kinds.{holds}
use Rattle.client_hooks.proofs.Called.{RunsTo}
use Rattle.client_hooks.proofs.hooks.Hooks.run.Given as goal

abbrev pub invariant-loop-entry : goal.invariant-loop-entry
invariant-loop-entry g l =
    (l.hook ≡ l.entry-index)
    × RunsTo (λ call. holds call.1.kinds (kind_of l.dispatch)) (IsNoteOf (λ it. FnReturnsAt (goal.Fn-dyn g) (it.kept.hook.vtable, it.kept.hook.value)) g.R.HookRule.Meets l.dispatch l.number) l.self.hooks.items l.entry-index l.notes.items
