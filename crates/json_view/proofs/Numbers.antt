-- The text of a number, by whether it begins with a minus.
use Rattle.std.proofs.Common.{◌≡◌, ℕ, ℤ, ◌-◌, List, take, drop, length, true, false, Some, None, slice_index, ◌==◌, option_and_then, refl, Bool, if◌then◌else◌, Option, Float, arith, take_all, length-drop}
use Rattle.fast_float.specs.Text.{Parts, scan}
use Rattle.serde_json.specs.Find.{as_u64}
use Rattle.serde_json.specs.Data.{Num, negative, float}
use Rattle.serde_json.specs.Read.{number_of, number_from, float_of}

pub with_minus : (s : List ℕ) → (slice_index s 0 == 45) ≡ true → number_of s ≡ number_from true (scan (drop 1 s))
unfolding number_of
with_minus s e = rw e refl

pub without_minus : (s : List ℕ) → (slice_index s 0 == 45) ≡ false → number_of s ≡ number_from false (scan s)
unfolding number_of
without_minus s e = rw e refl

pub after_minus : (s : List ℕ) → take (length s - 1) (drop 1 s) ≡ drop 1 s
after_minus s = take_all _ (drop 1 s) (omega (arith, length-drop 1 s))

float_not_whole : (b : Bool) (x : Float) → option_and_then as_u64 (if b then Some (float x) else None) ≡ None
float_not_whole true x = refl
float_not_whole false x = refl

not_whole : (b : Bool) (z : ℤ) (o : Option Num) → option_and_then as_u64 o ≡ None → option_and_then as_u64 (if b then Some (negative z) else o) ≡ None
not_whole true z o e = refl
not_whole false z o e = e

-- what begins with a minus is no whole number from 0
pub negative_not_whole : (p : Parts) → option_and_then as_u64 (number_from true p) ≡ None
negative_not_whole p = not_whole _ _ (float_of true p) (float_not_whole _ _)
