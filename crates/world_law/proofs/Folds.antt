-- What a client holds after lists that are joined, and records of logs that grow.
use Rattle.std.proofs.Common.{◌≡◌, ℕ, List, [], ◌∷◌, ◌++◌, true, refl, ap, map, ◌∙◌, arith}
use Rattle.std.specs.Prelude.{◌==◌}
use Rattle.std.proofs.lemmas.Bool.Decides.{nat_tests}
use Rattle.guild_model.specs.Record.{Record}
use Rattle.dispatch_types.specs.declared.dispatch.Dispatch.{Dispatch}
use Rattle.dispatch_types.specs.declared.viewer.Viewer.{Viewer}
use Rattle.dispatch_types.specs.Fold.{Held, nothing, folded, fold_from}
use Rattle.edit_apply.specs.Edits.{after, state_from}
use Rattle.edit_apply.specs.declared.Edit.{Edit}
use Rattle.session_core.specs.declared.reply.Mark.{Mark}
use Rattle.world_law.specs.Keeping.{Cursors}
use Rattle.world_law.specs.Sent.{SentDispatch, dispatch_of, told}
use Rattle.world_law.specs.Folds.{held}
use Rattle.world_law.proofs.Lists.{map_join}

pub fold_join : (intents g : ℕ) (h : Held) (xs ys : List Dispatch) → fold_from intents g h (xs ++ ys) ≡ fold_from intents g (fold_from intents g h xs) ys
fold_join intents g h [] ys = refl
fold_join intents g h (x ∷ xs) ys = fold_join intents g (folded intents g h x) xs ys

pub state_join : (s : Record) (xs ys : List Edit) → state_from s (xs ++ ys) ≡ state_from (state_from s xs) ys
state_join s [] ys = refl
state_join s (x ∷ xs) ys = state_join (after s x) xs ys

pub dispatches_told : (mark : Mark) (b a : Cursors) (ds : List Dispatch) → map dispatch_of (told mark b a ds) ≡ ds
dispatches_told mark b a [] = refl
dispatches_told mark b a (d ∷ ds) = ap (λ xs. d ∷ xs) (dispatches_told mark b a ds)

-- what is held after a batch
pub held_join : (v : Viewer) (h : ℕ) (sent : List SentDispatch) (mark : Mark) (b a : Cursors) (ds : List Dispatch)
    → held v h (sent ++ told mark b a ds) ≡ fold_from v.intents h (held v h sent) ds
held_join v h sent mark b a ds =
    ap (λ xs. fold_from v.intents h nothing xs) (map_join dispatch_of sent (told mark b a ds))
    ∙ (fold_join v.intents h nothing (map dispatch_of sent) (map dispatch_of (told mark b a ds))
    ∙ ap (λ xs. fold_from v.intents h (held v h sent) xs) (dispatches_told mark b a ds))

pub same_id : (g : ℕ) → (g == g) ≡ true
same_id g = grind (arith, nat_tests)
