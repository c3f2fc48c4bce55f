use Rattle.std.proofs.Common.{◌≡◌, ◌++◌, ◌∷◌, ◌-◌, replicate}
use Rattle.json.specs.Token.{begin_array}
use Rattle.json.specs.Tree.{items_tokens}
use Rattle.serde_json.specs.Data.{object, no_members}
use Rattle.serde_json.specs.View.{items_of}
use Rattle.serde_json.specs.Written.{items_outline}
use Rattle.object_json.proofs.written.blanks.Given as goal

-- what is there with what is still due is the whole
abbrev pub invariant-loop-written : goal.invariant-loop-written
invariant-loop-written l =
    (l.out.tokens ++ items_tokens (items_outline (items_of (replicate (l.count - l.written) (object no_members)))) ≡ l.fn.out.tokens ++ begin_array ∷ items_tokens (items_outline (items_of (replicate l.count (object no_members)))))
    × (l.out.before ≡ l.fn.out.before)
