-- What goes out, one after another.
use Rattle.std.proofs.Common.{◌≡◌, ℕ, ◌≤◌, List, [], ◌++◌, Ok, Err, sym, ap, subst, ◌∙◌, arith, inl, inr, append_assoc, append-nil, take, drop, take-append-drop}
use Rattle.std.specs.Prelude.{Result, OnOk, OnErr, is_ok, if◌then◌else◌}
use Rattle.std.specs.declared.option.Option.{Option}
use Rattle.std.specs.Io.KnownBytes.{Appends}
use Rattle.std.proofs.KnownBytes.{Appends-trans}
use Rattle.gate_outside.specs.Causes.{Rose}
use Rattle.gate_outside.specs.Streams.{AppendsFront, Carries}
use Rattle.gate_outside.proofs.Fronts.{carries_on}
use Rattle.client_follow.specs.declared.fault.FollowFault.{FollowFault}
use Rattle.client_follow.specs.declared.fault.FollowFault.TheVariants.{Write, Dials, Closed, BadText, Memory}
use Rattle.client_follow.specs.Follows.{SinkTale, GoesOut, Writes}

-- a text that was added, unless memory ran out
pub if_added : {E : Type 0} (r : Result (Unit {0}) E) (old new added : List ℕ) → new ≡ (if is_ok r then old ++ added else old) → OnOk r (new ≡ old ++ added)
if_added (Ok u) old new added e = e
if_added (Err f) old new added e = tt

-- what waits elsewhere still waits after it
pub carries_with : (got0 got1 : Option (List ℕ)) (waits text rest : List ℕ) → Carries got0 got1 waits text → Carries got0 got1 (waits ++ rest) (text ++ rest)
carries_with got0 got1 waits text rest h = record { sent = h.sent; is = sym (append_assoc h.sent waits rest) ∙ ap (λ (l : List ℕ). l ++ rest) h.is; wrote = h.wrote }

-- a write took some of what waits here
pub carries_some : (got0 got1 got2 : Option (List ℕ)) (n : ℕ) (waits1 waits2 here text : List ℕ) → Carries got0 got1 (waits1 ++ here) text → Carries got1 got2 waits2 (waits1 ++ take n here) → Carries got0 got2 (waits2 ++ drop n here) text
carries_some got0 got1 got2 n waits1 waits2 here text first second =
    let whole : (waits1 ++ take n here) ++ drop n here ≡ waits1 ++ here = append_assoc waits1 (take n here) (drop n here) ∙ ap (λ (l : List ℕ). waits1 ++ l) (take-append-drop n here) in
    carries_on got0 got1 got2 (waits1 ++ here) (waits2 ++ drop n here) text first (subst (λ (l : List ℕ). Carries got1 got2 (waits2 ++ drop n here) l) whole (carries_with got1 got2 waits2 (waits1 ++ take n here) (drop n here) second))

-- or none
pub carries_none : (got0 got1 got2 : Option (List ℕ)) (waits1 waits2 here text : List ℕ) → Carries got0 got1 (waits1 ++ here) text → Carries got1 got2 waits2 waits1 → Carries got0 got2 (waits2 ++ here) text
carries_none got0 got1 got2 waits1 waits2 here text first second =
    carries_on got0 got1 got2 (waits1 ++ here) (waits2 ++ here) text first (carries_with got1 got2 waits2 waits1 here second)

-- what a flush lets go out
pub flushed : {E : Type 0} (r : Result (Unit {0}) E) (got0 got1 : Option (List ℕ)) (waits0 waits1 : List ℕ) → OnOk r (Appends got0 got1 waits0) → OnOk r (waits1 ≡ []) → OnErr r (Carries got0 got1 waits1 waits0) → Carries got0 got1 waits1 waits0
flushed (Ok u) got0 got1 waits0 waits1 all none some = record { sent = waits0; is = ap (λ (l : List ℕ). waits0 ++ l) none ∙ append-nil waits0; wrote = all }
flushed (Err f) got0 got1 waits0 waits1 all none some = some

module _ (got0 got1 got2 : Option (List ℕ)) (waits1 text said : List ℕ) (carried : Carries got0 got1 waits1 text) where
  whole : (rest : List ℕ) → carried.sent ++ (waits1 ++ rest) ≡ text ++ rest
  whole rest = sym (append_assoc carried.sent waits1 rest) ∙ ap (λ (l : List ℕ). l ++ rest) carried.is

  pub all_out : Appends got1 got2 (waits1 ++ said) → Appends got0 got2 (text ++ said)
  all_out h = subst (λ (l : List ℕ). Appends got0 got2 l) (whole said) (Appends-trans got0 got1 got2 carried.sent (waits1 ++ said) carried.wrote h)

  pub front_out : AppendsFront got1 got2 (waits1 ++ said) → AppendsFront got0 got2 (text ++ said)
  front_out h = (
    carried.sent ++ h.0,
    h.1,
    append_assoc carried.sent h.0 h.1 ∙ ap (λ (l : List ℕ). carried.sent ++ l) h.2 ∙ whole said,
    Appends-trans got0 got1 got2 carried.sent h.0 carried.wrote h.3,
  )

-- a front of a text is one of a longer text
pub front_longer : (got0 got1 : Option (List ℕ)) (text more : List ℕ) → AppendsFront got0 got1 text → AppendsFront got0 got1 (text ++ more)
front_longer got0 got1 text more h = (h.0, h.1 ++ more, sym (append_assoc h.0 h.1 more) ∙ ap (λ (l : List ℕ). l ++ more) h.2, h.3)

pub rose_after : (a b c : ℕ) → a ≤ b → Rose b c → Rose a c
rose_after a b c h k = omega (arith, h, k)

module _ (old mid new : SinkTale) (lines said : List ℕ) (carried : Carries old.got mid.got mid.waits (old.waits ++ lines)) (later : old.faults ≤ mid.faults) where
  longer : (old.waits ++ lines) ++ said ≡ old.waits ++ (lines ++ said)
  longer = append_assoc old.waits lines said

  all_written : Appends mid.got new.got (mid.waits ++ said) → Appends old.got new.got (old.waits ++ (lines ++ said))
  all_written h = subst (λ (l : List ℕ). Appends old.got new.got l) longer (all_out old.got mid.got new.got mid.waits (old.waits ++ lines) said carried h)

  front_written : AppendsFront mid.got new.got (mid.waits ++ said) → AppendsFront old.got new.got (old.waits ++ (lines ++ said))
  front_written h = subst (λ (l : List ℕ). AppendsFront old.got new.got l) longer (front_out old.got mid.got new.got mid.waits (old.waits ++ lines) said carried h)

  goes_out : GoesOut said mid new → GoesOut (lines ++ said) old new
  goes_out (inl h) = inl (all_written h)
  goes_out (inr h) = inr (front_written h.0, rose_after old.faults mid.faults new.faults later h.1)

  -- what is said at the end, after the lines
  pub writes_after : (result : Result (Unit {0}) FollowFault) → Writes said mid new result → Writes (lines ++ said) old new result
  writes_after (Ok u) h = (all_written h.0, h.1)
  writes_after (Err Write) h = (front_written h.0, rose_after old.faults mid.faults new.faults later h.1)
  writes_after (Err Dials) h = goes_out h
  writes_after (Err (Closed code)) h = goes_out h
  writes_after (Err BadText) h = goes_out h
  writes_after (Err Memory) h = front_written h
