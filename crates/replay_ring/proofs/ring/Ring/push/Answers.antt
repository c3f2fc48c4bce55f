use Rattle.std.proofs.Common.{refl, arith, inl, inr}
use Rattle.replay_ring.proofs.Suffixes.{longest_suffix-long, fits_back}
use Rattle.replay_ring.proofs.ring.Ring.push.Goals as goal
use Rattle.replay_ring.proofs.ring.Ring.push.Goals.{then-self-len-via-then-self-len, then-self-len-via-else-self-len+then-capacity-eq0}

pub returns-then-self-len : goal.returns-then-self-len
returns-then-self-len c =
    let t = c.args.text in
    let r = c.self.inside in
    rw (
      ← c.self.view_is,
      c.clear.ensures,
      longest_suffix-long r.texts.capacity r.limit t r.texts.items (elim c.then-self-len.branch [
        | then-self-len-via-then-self-len w ↦ inl (omega arith)
        | then-self-len-via-else-self-len+then-capacity-eq0 w ↦ inr (omega arith)
      ]),
    )
    refl

pub invariant_of-self-2 : goal.invariant_of-self-2
invariant_of-self-2 c =
    let t = c.args.text in
    let r = c.self.inside in
    let left = fits_back r.texts.capacity r.limit t r.texts.items (omega arith) (omega arith) in
    let made = rw (c.make_room-left.ensures.kept, c.len-2.ensures) at c.make_room-left.ensures.counted in
    rw (c.push_back.ensures.items, c.make_room-left.ensures.kept, c.len-2.ensures)
    (record {
      counted = omega (arith, made, left.counted);
      within = omega (arith, made, left.counted, left.within);
      numbered = omega (arith, left.numbered);
    })

pub returns : goal.returns
returns c =
    let t = c.args.text in
    let r = c.self.inside in
    let left = fits_back r.texts.capacity r.limit t r.texts.items (omega arith) (omega arith) in
    rw (← c.self.view_is, c.push_back.ensures.items, c.make_room-left.ensures.kept, c.len-2.ensures, left.items)
    refl
