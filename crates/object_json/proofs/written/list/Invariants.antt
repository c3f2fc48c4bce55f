use Rattle.std.proofs.Common.{◌≡◌, ◌++◌, ◌∷◌, map, drop}
use Rattle.json.specs.Token.{begin_array}
use Rattle.json.specs.Tree.{items_tokens}
use Rattle.serde_json.specs.View.{items_of}
use Rattle.serde_json.specs.Written.{items_outline}
use Rattle.object_json.specs.Fits.{Each}
use Rattle.object_json.proofs.written.list.Given as goal

-- what is there with what is still due is the whole
abbrev pub invariant-loop-item : goal.invariant-loop-item
invariant-loop-item g l =
    (l.out.tokens ++ items_tokens (items_outline (items_of (map g.T.Written.json (drop l.item-index l.items)))) ≡ l.fn.out.tokens ++ begin_array ∷ items_tokens (items_outline (items_of (map g.T.Written.json l.items))))
    × (l.out.before ≡ l.fn.out.before)
    × (Each g.T.Written.Fits (drop l.item-index l.items) → Each g.T.Written.Fits l.items)
