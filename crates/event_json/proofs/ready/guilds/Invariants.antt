use Rattle.std.proofs.Common.{◌≡◌, ◌++◌, ◌∷◌, map, drop}
use Rattle.json.specs.Token.{begin_array}
use Rattle.json.specs.Tree.{items_tokens}
use Rattle.serde_json.specs.View.{items_of}
use Rattle.serde_json.specs.Written.{items_outline}
use Rattle.object_json.specs.Fits.{Each, IsId}
use Rattle.event_json.specs.Ready.{unavailable_data}
use Rattle.event_json.proofs.ready.guilds.Given as goal

-- what is there with what is still due is the whole
abbrev pub invariant-loop-guild : goal.invariant-loop-guild
invariant-loop-guild l =
    (l.out.tokens ++ items_tokens (items_outline (items_of (map unavailable_data (drop l.guild-index l.guilds)))) ≡ l.fn.out.tokens ++ begin_array ∷ items_tokens (items_outline (items_of (map unavailable_data l.guilds))))
    × (l.out.before ≡ l.fn.out.before)
    × (Each IsId (drop l.guild-index l.guilds) → Each IsId l.guilds)
