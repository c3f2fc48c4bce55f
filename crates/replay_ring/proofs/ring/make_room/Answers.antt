use Rattle.std.proofs.Common.{◌≡◌, ◌-◌, ◌∙◌, refl, sym, arith, inl, inr}
use Rattle.std.specs.Prelude.{slice_get, Some}
use Rattle.replay_ring.proofs.Suffixes.{longest_suffix-all, longest_suffix-past, sum_by-first}
use Rattle.replay_ring.proofs.ring.make_room.Goals as goal
use Rattle.replay_ring.proofs.ring.make_room.Goals.{then-len-capacity, else-len-capacity+then-room-bytes}

pub loop-texts-preserved : goal.loop-texts-preserved
loop-texts-preserved c =
    let first : slice_get c.loop-texts.texts.items 0 ≡ Some c.in-Some.text =
    sym c.pop_front.ensures.value ∙ c.in-Some.is in
    let counted = sum_by-first c.loop-texts.texts.items c.in-Some.text first in
    rw c.pop_front.ensures.items
    (record {
      capacity = c.loop-texts.invariant.capacity;
      counted = omega (arith, counted);
      same =
          longest_suffix-past _ _ c.loop-texts.texts.items
          (elim c.if-len-capacity.branch [
            | then-len-capacity w ↦ inl (omega arith)
            | else-len-capacity+then-room-bytes w ↦ inr (omega arith)
          ])
          ∙ c.loop-texts.invariant.same;
    })

pub returns-else-room-bytes-clause-kept : goal.returns-else-room-bytes-clause-kept
returns-else-room-bytes-clause-kept c =
    let all =
    longest_suffix-all (c.args.texts.now.capacity - 1) c.args.room c.loop-texts.texts.items (omega arith) (omega arith) in
    rw (← c.loop-texts.invariant.same, all, ← c.loop-texts.invariant.capacity) refl
