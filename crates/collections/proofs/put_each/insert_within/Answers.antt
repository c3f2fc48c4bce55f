use Rattle.std.proofs.Common.{◌≡◌, arith}
use Rattle.std.specs.Prelude.{insert}
use Rattle.std.proofs.lemmas.Grind.{common_steps}
use Rattle.collections.specs.ById.{count_below}
use Rattle.collections.proofs.Ids.{count_le, insert_is_put}
use Rattle.collections.proofs.put_each.insert_within.Goals as goal

pub insert-requires : goal.insert-requires
insert-requires g c = let le = count_le g.T.Keyed.key (g.T.Keyed.key c.args.item) c.args.items.now.items in grind arith

pub returns-clause-set : goal.returns-clause-set
returns-clause-set g c =
    let ok = c.insert.ensures.succeeds c.requires.room in
    let e : c.place_of-place.result ≡ count_below g.T.Keyed.key (g.T.Keyed.key c.args.item) c.args.items.now.items = grind (arith, common_steps) in
    let placed : c.insert.new.self.items ≡ insert c.args.items.now.items c.place_of-place.result c.args.item = grind (arith, common_steps, ok) in
    rw (placed, e) (insert_is_put g.T.Keyed.key c.args.item c.args.items.now.items c.requires.missing)
