use Rattle.std.proofs.Common.{◌≡◌, ◌<◌, length, arith, sym, ap, get_or, Some, ◌∙◌}
use Rattle.std.proofs.lemmas.List.{get_or_default}
use Rattle.std.proofs.lemmas.Grind.{common_steps}
use Rattle.collections.specs.ById.{count_below}
use Rattle.collections.proofs.Ids.{count_lt, replaced, found_at}
use Rattle.collections.proofs.by_id.exchange_at.Goals as goal

pub returns-then-place-len-clause-given : goal.returns-then-place-len-clause-given
returns-then-place-len-clause-given g c =
    let e : c.place_of-place.result ≡ count_below g.T.Keyed.key (g.T.Keyed.key c.args.item) c.args.items.now.items = grind (arith, common_steps) in
    let lt = count_lt g.T.Keyed.key (g.T.Keyed.key c.args.item) c.args.items.now.items c.requires.ascending c.requires.there in
    absurd (grind (arith, common_steps))

pub returns-then-place-len-clause-set : goal.returns-then-place-len-clause-set
returns-then-place-len-clause-set g c =
    let e : c.place_of-place.result ≡ count_below g.T.Keyed.key (g.T.Keyed.key c.args.item) c.args.items.now.items = grind (arith, common_steps) in
    let lt = count_lt g.T.Keyed.key (g.T.Keyed.key c.args.item) c.args.items.now.items c.requires.ascending c.requires.there in
    absurd (grind (arith, common_steps))

pub returns-clause-given : goal.returns-clause-given
returns-clause-given g c =
    let e : c.place_of-place.result ≡ count_below g.T.Keyed.key (g.T.Keyed.key c.args.item) c.args.items.now.items = grind (arith, common_steps) in
    let lt : c.place_of-place.result < length c.args.items.now.items = grind (arith, common_steps) in
    let found = found_at g.T.Keyed.key (g.T.Keyed.key c.args.item) c.args.items.now.items c.args.item c.requires.ascending c.requires.there in
    let same = c.replace.ensures.value ∙ (c.index_mut.ensures.value ∙ (get_or_default _ _ _ c.args.item lt ∙ ap (λ i. get_or c.args.items.now.items i c.args.item) e)) in
    found ∙ ap Some (sym same)

pub returns-clause-set : goal.returns-clause-set
returns-clause-set g c =
    let e : c.place_of-place.result ≡ count_below g.T.Keyed.key (g.T.Keyed.key c.args.item) c.args.items.now.items = grind (arith, common_steps) in
    rw (c.replace.ensures.after, e) (replaced g.T.Keyed.key c.args.item c.args.items.now.items c.requires.ascending c.requires.there)
