-- Fronts of texts that went out, or wait.
use Rattle.std.proofs.Common.{◌≡◌, ℕ, ◌+◌, List, [], ◌++◌, Result, Ok, Err, take, drop, sym, ap, ◌∙◌, subst, append_assoc, append-nil, take-append-drop}
use Rattle.std.proofs.Math.Seq.{take-add}
use Rattle.std.specs.declared.option.Option.{Option}
use Rattle.std.specs.Io.KnownBytes.{Appends}
use Rattle.std.proofs.KnownBytes.{Appends-trans, Appends-nil}
use Rattle.gate_outside.specs.Streams.{AppendsFront, Carries, CarriesFront, CarriesPart, Takes}

-- ---- what waits

-- more was put
pub puts : (got : Option (List ℕ)) (waits0 waits1 text : List ℕ) → waits1 ≡ waits0 ++ text → Carries got got waits1 (waits0 ++ text)
puts got waits0 waits1 text is = record { sent = []; is = is; wrote = Appends-nil got }

-- a front of it was put
pub puts_front : (got : Option (List ℕ)) (waits back text : List ℕ) → waits ++ back ≡ text → CarriesFront got got waits text
puts_front got waits back text is = record { sent = []; back = back; is = is; wrote = Appends-nil got }

pub carries_more : (got0 got1 got2 : Option (List ℕ)) (waits1 waits2 text more : List ℕ) → Carries got0 got1 waits1 text → Carries got1 got2 waits2 (waits1 ++ more) → Carries got0 got2 waits2 (text ++ more)
carries_more got0 got1 got2 waits1 waits2 text more first second = record {
  sent = first.sent ++ second.sent;
  is = append_assoc first.sent second.sent waits2 ∙ (ap (λ l. first.sent ++ l) second.is ∙ (sym (append_assoc first.sent waits1 more) ∙ ap (λ l. l ++ more) first.is));
  wrote = Appends-trans got0 got1 got2 first.sent second.sent first.wrote second.wrote;
}

-- nothing more was put
pub carries_on : (got0 got1 got2 : Option (List ℕ)) (waits1 waits2 text : List ℕ) → Carries got0 got1 waits1 text → Carries got1 got2 waits2 waits1 → Carries got0 got2 waits2 text
carries_on got0 got1 got2 waits1 waits2 text first second = record {
  sent = first.sent ++ second.sent;
  is = append_assoc first.sent second.sent waits2 ∙ (ap (λ l. first.sent ++ l) second.is ∙ first.is);
  wrote = Appends-trans got0 got1 got2 first.sent second.sent first.wrote second.wrote;
}

-- then a write took some of a piece
pub takes_after : {E : Type 0} (r : Result ℕ E) (got0 got1 got2 : Option (List ℕ)) (waits0 waits1 waits2 piece : List ℕ) → Carries got0 got1 waits1 waits0 → Takes got1 got2 waits1 waits2 r piece → Takes got0 got2 waits0 waits2 r piece
takes_after (Ok n) got0 got1 got2 waits0 waits1 waits2 piece first second = carries_more got0 got1 got2 waits1 waits2 waits0 (take n piece) first second
takes_after (Err fault) got0 got1 got2 waits0 waits1 waits2 piece first second = carries_on got0 got1 got2 waits1 waits2 waits0 first second

-- then a front of more
pub front_of_more : (got0 got1 got2 : Option (List ℕ)) (waits1 waits2 text more : List ℕ) → Carries got0 got1 waits1 text → CarriesFront got1 got2 waits2 (waits1 ++ more) → CarriesFront got0 got2 waits2 (text ++ more)
front_of_more got0 got1 got2 waits1 waits2 text more first second = record {
  sent = first.sent ++ second.sent;
  back = second.back;
  is = ap (λ l. l ++ second.back) (append_assoc first.sent second.sent waits2) ∙ (append_assoc first.sent (second.sent ++ waits2) second.back
      ∙ (ap (λ l. first.sent ++ l) second.is ∙ (sym (append_assoc first.sent waits1 more) ∙ ap (λ l. l ++ more) first.is)));
  wrote = Appends-trans got0 got1 got2 first.sent second.sent first.wrote second.wrote;
}

-- a front of the first text alone
pub front_before : (got0 got1 : Option (List ℕ)) (waits text more : List ℕ) → CarriesFront got0 got1 waits text → CarriesFront got0 got1 waits (text ++ more)
front_before got0 got1 waits text more h =
    record { sent = h.sent; back = h.back ++ more; is = sym (append_assoc (h.sent ++ waits) h.back more) ∙ ap (λ l. l ++ more) h.is; wrote = h.wrote }

pub carries_front : (got0 got1 : Option (List ℕ)) (waits text : List ℕ) → Carries got0 got1 waits text → CarriesFront got0 got1 waits text
carries_front got0 got1 waits text h = record { sent = h.sent; back = []; is = append-nil (h.sent ++ waits) ∙ h.is; wrote = h.wrote }

-- what went out is a front of the text
pub carries_part : (got0 got1 : Option (List ℕ)) (waits text : List ℕ) → Carries got0 got1 waits text → AppendsFront got0 got1 text
carries_part got0 got1 waits text h = (h.sent, waits, h.is, h.wrote)

-- ---- then what waits goes out

pub all_sent : (got0 got1 got2 : Option (List ℕ)) (waits text : List ℕ) → Carries got0 got1 waits text → Appends got1 got2 waits → Appends got0 got2 text
all_sent got0 got1 got2 waits text h wrote = subst (λ (l : List ℕ). Appends got0 got2 l) h.is (Appends-trans got0 got1 got2 h.sent waits h.wrote wrote)

pub front_sent : (got0 got1 got2 : Option (List ℕ)) (waits text : List ℕ) → CarriesFront got0 got1 waits text → AppendsFront got1 got2 waits → AppendsFront got0 got2 text
front_sent got0 got1 got2 waits text h front = (
  h.sent ++ front.0,
  front.1 ++ h.back,
  sym (append_assoc (h.sent ++ front.0) front.1 h.back) ∙ (ap (λ l. l ++ h.back) (append_assoc h.sent front.0 front.1 ∙ ap (λ l. h.sent ++ l) front.2) ∙ h.is),
  Appends-trans got0 got1 got2 h.sent front.0 h.wrote front.3,
)

pub all_front : (got0 got1 : Option (List ℕ)) (text : List ℕ) → Appends got0 got1 text → AppendsFront got0 got1 text
all_front got0 got1 text wrote = (text, [], append-nil text, wrote)

-- nothing waits
pub all_written : (got0 got1 : Option (List ℕ)) (waits text : List ℕ) → waits ≡ [] → Carries got0 got1 waits text → Appends got0 got1 text
all_written got0 got1 waits text none h = subst (λ (l : List ℕ). Appends got0 got1 l) (sym (append-nil h.sent) ∙ (sym (ap (λ l. h.sent ++ l) none) ∙ h.is)) h.wrote

-- more bytes wait behind
pub carries_rest : (got0 got1 : Option (List ℕ)) (waits text rest : List ℕ) → Carries got0 got1 waits text → Carries got0 got1 (waits ++ rest) (text ++ rest)
carries_rest got0 got1 waits text rest h =
    record { sent = h.sent; is = sym (append_assoc h.sent waits rest) ∙ ap (λ l. l ++ rest) h.is; wrote = h.wrote }

-- ---- pieces of a piece

-- the next bytes of it were taken
pub carries_next : (got0 got1 got2 : Option (List ℕ)) (waits0 waits1 waits2 piece : List ℕ) (at n : ℕ) → Carries got0 got1 waits1 (waits0 ++ take at piece)
    → Carries got1 got2 waits2 (waits1 ++ take n (drop at piece)) → Carries got0 got2 waits2 (waits0 ++ take (at + n) piece)
carries_next got0 got1 got2 waits0 waits1 waits2 piece at n before now =
    let joined : (waits0 ++ take at piece) ++ take n (drop at piece) ≡ waits0 ++ take (at + n) piece =
    append_assoc waits0 (take at piece) (take n (drop at piece)) ∙ ap (λ l. waits0 ++ l) (sym (take-add at n piece)) in
    subst (Carries got0 got2 waits2) joined (carries_more got0 got1 got2 waits1 waits2 (waits0 ++ take at piece) (take n (drop at piece)) before now)

-- the front of what was held was taken, and the rest is held
pub carries_held : (got0 got1 : Option (List ℕ)) (behind0 behind1 held : List ℕ) (n : ℕ) → Carries got0 got1 behind1 (behind0 ++ take n held)
    → Carries got0 got1 (behind1 ++ drop n held) (behind0 ++ held)
carries_held got0 got1 behind0 behind1 held n h =
    let joined : (behind0 ++ take n held) ++ drop n held ≡ behind0 ++ held =
    append_assoc behind0 (take n held) (drop n held) ∙ ap (λ l. behind0 ++ l) (take-append-drop n held) in
    subst (Carries got0 got1 (behind1 ++ drop n held)) joined (carries_rest got0 got1 behind1 (behind0 ++ take n held) (drop n held) h)

pub part_front : (got0 got1 : Option (List ℕ)) (waits0 waits1 piece : List ℕ) → CarriesPart got0 got1 waits0 waits1 piece → CarriesFront got0 got1 waits1 (waits0 ++ piece)
part_front got0 got1 waits0 waits1 piece h = record {
  sent = h.2.sent;
  back = drop h.0 piece;
  is = ap (λ l. l ++ drop h.0 piece) h.2.is ∙ (append_assoc waits0 (take h.0 piece) (drop h.0 piece) ∙ ap (λ l. waits0 ++ l) (take-append-drop h.0 piece));
  wrote = h.2.wrote;
}
