-- What was taken before, and what this call took, are the front of the bytes.
use Rattle.std.proofs.Common.{◌≡◌, ◌≤◌, ◌-◌, ◌∙◌, arith, length, drop, take, length-drop}
use Rattle.std.proofs.lemmas.List.{take_all}
use Rattle.gate_outside.proofs.Fronts.{carries_next, carries_on}
use Rattle.gate_outside.proofs.streams.offer.Goals as goal

pub loop-taken-preserved : goal.loop-taken-preserved
loop-taken-preserved g c =
    let bytes = c.args.bytes.now in
    let at = c.loop-taken.taken in
    let all : length (drop at bytes) ≤ length bytes - at = omega (arith, length-drop at bytes) in
    let rest : take (length bytes - at) (drop at bytes) ≡ drop at bytes = take_all _ _ all in
    record {
      in_range = omega (arith, length-drop at bytes, rw rest at c.in-Ok.ensures.bound);
      carried = carries_next _ _ _ _ _ _ bytes at _ c.loop-taken.invariant.carried (rw rest at c.in-Ok.ensures.bytes);
      same = c.in-Ok.ensures.cause.ok ∙ c.loop-taken.invariant.same;
    }

pub returns-in-Err-clause-bytes : goal.returns-in-Err-clause-bytes
returns-in-Err-clause-bytes g c = carries_on _ _ _ _ _ _ c.loop-taken.invariant.carried c.in-Err.ensures.bytes
