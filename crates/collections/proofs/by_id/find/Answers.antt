use Rattle.collections.proofs.Ids.{find_at_place}
use Rattle.collections.proofs.by_id.find.Goals as goal

pub returns : goal.returns
returns g c = rw (c.record_at.ensures, c.place_of-place.ensures) (find_at_place g.T.Keyed.key c.args.id _ c.requires)
