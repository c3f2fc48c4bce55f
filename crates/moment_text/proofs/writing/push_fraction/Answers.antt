use Rattle.std.proofs.Common.{append_assoc, refl}
use Rattle.moment_text.proofs.writing.push_fraction.Goals as goal

pub returns : goal.returns
returns c = rw (c.in_ok-push_str-2.ensures.bytes, c.in_ok-push_three.ensures, c.in_ok-push_str.ensures.bytes) (simp append_assoc refl)
