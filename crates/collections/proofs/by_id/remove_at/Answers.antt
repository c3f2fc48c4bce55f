use Rattle.std.proofs.Common.{◌≡◌, ◌<◌, ◌≢◌, length, arith, sym, ◌∙◌, ap}
use Rattle.std.proofs.lemmas.List.{get_or_default}
use Rattle.std.proofs.lemmas.Grind.{common_steps}
use Rattle.collections.specs.ById.{count_below}
use Rattle.collections.proofs.Edits.{removed_here, not_there}
use Rattle.collections.proofs.by_id.remove_at.Goals as goal

pub returns-then-place-len : goal.returns-then-place-len
returns-then-place-len g c =
    let e : c.place_of-place.result ≡ count_below g.T.Keyed.key c.args.id c.args.items.now.items = rw (← c.as_slice.ensures.value) c.place_of-place.ensures in
    not_there g.T.Keyed.key c.args.id _ _ c.requires e (λ d lt k. grind (arith, common_steps))

pub returns-then-key-id : goal.returns-then-key-id
returns-then-key-id g c =
    let e : c.place_of-place.result ≡ count_below g.T.Keyed.key c.args.id c.args.items.now.items = rw (← c.as_slice.ensures.value) c.place_of-place.ensures in
    let lt : c.place_of-place.result < length c.args.items.now.items = grind (arith, common_steps) in
    let k : g.T.Keyed.key c.index.result.now ≡ c.args.id = sym c.key.ensures ∙ c.if-key-id.true in
    c.remove.ensures.items ∙ removed_here g.T.Keyed.key c.args.id _ _ c.index.result.now c.requires e lt (rw c.index.ensures at k)

pub returns-else-key-id : goal.returns-else-key-id
returns-else-key-id g c =
    let e : c.place_of-place.result ≡ count_below g.T.Keyed.key c.args.id c.args.items.now.items = rw (← c.as_slice.ensures.value) c.place_of-place.ensures in
    let differs : g.T.Keyed.key c.index.result.now ≢ c.args.id = λ k. c.if-key-id.false (c.key.ensures ∙ k) in
    let there = rw c.index.ensures at differs in
    not_there g.T.Keyed.key c.args.id _ _ c.requires e (λ d lt k. there (ap g.T.Keyed.key (get_or_default _ _ _ d lt) ∙ k))
