use Rattle.std.proofs.Common.{◌≡◌, arith}
use Rattle.std.proofs.lemmas.Grind.{common_steps}
use Rattle.collections.specs.ById.{count_below}
use Rattle.collections.proofs.Ids.{count_lt, replaced}
use Rattle.collections.proofs.by_id.replace_at.Goals as goal

pub returns-then-place-len-clause-set : goal.returns-then-place-len-clause-set
returns-then-place-len-clause-set g c =
    let e : c.place_of-place.result ≡ count_below g.T.Keyed.key (g.T.Keyed.key c.args.item) c.args.items.now.items = grind (arith, common_steps) in
    let lt = count_lt g.T.Keyed.key (g.T.Keyed.key c.args.item) c.args.items.now.items c.requires.ascending c.requires.there in
    absurd (grind (arith, common_steps))

pub returns-clause-set : goal.returns-clause-set
returns-clause-set g c =
    let e : c.place_of-place.result ≡ count_below g.T.Keyed.key (g.T.Keyed.key c.args.item) c.args.items.now.items = grind (arith, common_steps) in
    rw e (replaced g.T.Keyed.key c.args.item c.args.items.now.items c.requires.ascending c.requires.there)
