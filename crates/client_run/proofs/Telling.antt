-- What a link gave and was sent, as its client is told more.
use Rattle.std.proofs.Common.{◌≡◌, ℕ, ◌<◌, List, [], ◌∷◌, ◌++◌, Bool, true, false, Option, Some, None, refl, sym, ap, subst, ◌∙◌, arith, append_assoc, append-nil}
use Rattle.std.proofs.lemmas.List.{map-append}
use Rattle.std.proofs.lemmas.Grind.{flat_map-append}
use Rattle.gate_outside.specs.declared.sending.Sending.{Sending}
use Rattle.gate_outside.specs.Told.{GrowsBy}
use Rattle.open_links.specs.Links.{IsFrontIfTold}
use Rattle.client_session.specs.declared.act.Act.{Act}
use Rattle.client_session.specs.declared.received.Received.{Received}
use Rattle.client_session.specs.Step.{Event, Receives, Loses, Asks}
use Rattle.client_run.specs.Histories.{is_loss, lost_last, Left, Told, told, End, Cut, event_of, events, sendings, given, dial_in, left_to, are_turns}
use Rattle.client_run.specs.Links.{IsHeard, AreHeard, Gave, untold, sent_last}
use Rattle.client_run.specs.Turns.{go_on, may_hear, Line, IsSent, Ends}

-- ---- what stands in a longer history

pub events_more : (ts us : List Told) → events (ts ++ us) ≡ events ts ++ events us
events_more ts us = map-append event_of ts us

pub given_more : (ts : List Told) (event : Event) (acts : List Act) → given (ts ++ told event acts ∷ []) ≡ given ts ++ sendings acts
given_more ts event acts =
    flat_map-append (λ (t : Told). sendings t.acts) ts (told event acts ∷ []) ∙ ap (λ (l : List Sending). given ts ++ l) (append-nil (sendings acts))

pub left_by : (ts : List Told) (t : Told) → left_to (ts ++ t ∷ []) ≡ dial_in t.acts
left_by [] t = refl
left_by (u ∷ []) t = refl
left_by (u ∷ v ∷ ts) t = left_by (v ∷ ts) t

pub lost_by : (ts : List Told) (t : Told) → lost_last (ts ++ t ∷ []) ≡ is_loss t.event
lost_by [] t = refl
lost_by (u ∷ []) t = refl
lost_by (u ∷ v ∷ ts) t = lost_by (v ∷ ts) t

-- ---- turns

-- what goes on may end there
pub turns_of : (may : Bool) (es : List Event) → go_on may es ≡ true → are_turns may es ≡ true
turns_of may [] h = refl
turns_of may (Asks now ∷ es) h = turns_of true es h
turns_of true (Receives payload now ∷ es) h = turns_of false es h
turns_of false (Receives payload now ∷ es) h = absurd (cc)
turns_of may (Loses code ∷ es) h = absurd (cc)

-- or be lost there
pub turns_lost : (may : Bool) (es : List Event) (code : Option ℕ) → go_on may es ≡ true → are_turns may (es ++ Loses code ∷ []) ≡ true
turns_lost may [] code h = refl
turns_lost may (Asks now ∷ es) code h = turns_lost true es code h
turns_lost true (Receives payload now ∷ es) code h = turns_lost false es code h
turns_lost false (Receives payload now ∷ es) code h = absurd (cc)
turns_lost may (Loses c ∷ es) code h = absurd (cc)

-- a question begins a turn
pub asks_on : (may : Bool) (es : List Event) (now : ℕ) → go_on may es ≡ true → go_on may (es ++ Asks now ∷ []) ≡ true
asks_on may [] now h = refl
asks_on may (Asks n ∷ es) now h = asks_on true es now h
asks_on true (Receives payload n ∷ es) now h = asks_on false es now h
asks_on false (Receives payload n ∷ es) now h = absurd (cc)
asks_on may (Loses c ∷ es) now h = absurd (cc)

pub asked_last : (may : Bool) (es : List Event) (now : ℕ) → may_hear may (es ++ Asks now ∷ []) ≡ true
asked_last may [] now = refl
asked_last may (Asks n ∷ es) now = asked_last true es now
asked_last may (Receives payload n ∷ es) now = asked_last false es now
asked_last may (Loses c ∷ es) now = asked_last false es now

-- and a text comes after it
pub hears_on : (may : Bool) (es : List Event) (payload : Received) (now : ℕ) → may_hear may es ≡ true → go_on may es ≡ true → go_on may (es ++ Receives payload now ∷ []) ≡ true
hears_on true [] payload now m h = refl
hears_on false [] payload now m h = absurd (cc)
hears_on may (Asks n ∷ es) payload now m h = hears_on true es payload now m h
hears_on true (Receives p n ∷ es) payload now m h = hears_on false es payload now m h
hears_on false (Receives p n ∷ es) payload now m h = absurd (cc)
hears_on may (Loses c ∷ es) payload now m h = absurd (cc)

-- ---- what a link gave

heard_more : (es fs : List Event) (xs ys : List Sending) → AreHeard es xs → AreHeard fs ys → AreHeard (es ++ fs) (xs ++ ys)
heard_more [] fs xs ys h k = subst (λ (l : List Sending). AreHeard fs (l ++ ys)) (sym h) k
heard_more (e ∷ es) fs xs ys h k = (
  h.0,
  (h.1.0 ++ ys, (ap (λ (l : List Sending). l ++ ys) h.1.1.0 ∙ append_assoc h.0 h.1.0 ys, (h.1.1.1.0, heard_more es fs h.1.0 ys h.1.1.1.1 k))),
)

heard_one : (e : Event) (xs : List Sending) → IsHeard e xs → AreHeard (e ∷ []) xs
heard_one e xs h = (xs, ([], (sym (append-nil xs), (h, refl))))

-- the client is told what was left
pub gave_told : (es : List Event) (e : Event) (left : List Sending) (o : Option (List Sending)) → IsHeard e left → Gave es left o → Gave (es ++ e ∷ []) [] o
gave_told es e left None h g = tt
gave_told es e left (Some xs) h g = (g.0 ++ left, (g.1.0 ∙ sym (append-nil (g.0 ++ left)), heard_more es (e ∷ []) g.0 left g.1.1 (heard_one e left h)))

-- the link gives more
pub gave_on : (es : List Event) (x : Sending) (o now : Option (List Sending)) → Gave es [] o → GrowsBy o now x → Gave es (x ∷ []) now
gave_on es x None now g grows = subst (λ (n : Option (List Sending)). Gave es (x ∷ []) n) (sym grows) tt
gave_on es x (Some xs) None g grows = absurd grows
gave_on es x (Some xs) (Some ys) g grows = (g.0, (grows ∙ ap (λ (l : List Sending). l ++ x ∷ []) (g.1.0 ∙ append-nil g.0), g.1.1))

-- ---- what it was sent

pub sent_anyway : (closed : Bool) (xs : List Sending) (l : Line) → IsSent closed xs l → IsSent true xs l
sent_anyway closed xs l s = record { front = s.front; whole = s.whole; in_use = λ e. absurd (cc) }

none_failed : {A : Type 0} (n : ℕ) → 0 < n → n ≡ 0 → A
none_failed n lt e = absurd (omega arith)

-- a front of it by a link that failed
pub sent_front : (xs : List Sending) (l : Line) → IsFrontIfTold xs l.tale.sent → 0 < l.faults → IsSent true xs l
sent_front xs l front failed = record { front = front; whole = none_failed l.faults failed; in_use = λ e. absurd (cc) }

-- ---- how a connection ends

pub ends_by : (ts : List Told) (end : End) (l : Line) (closed : Bool) → (end ≡ Left → lost_last ts ≡ true → 0 < l.faults) → are_turns false (events ts) ≡ true → Gave (events ts) (untold end) l.tale.gave → IsSent closed (given ts ++ sent_last end) l → Ends ts end l
ends_by ts end l closed failed turns gave sent = record { turns = turns; failed = failed; gave = gave; front = sent.front; whole = λ sound cut. sent.whole sound }

-- with nothing sent at last
pub ends_with : (ts : List Told) (end : End) (l : Line) (closed : Bool) → sent_last end ≡ [] → (end ≡ Left → lost_last ts ≡ true → 0 < l.faults) → are_turns false (events ts) ≡ true → Gave (events ts) (untold end) l.tale.gave → IsSent closed (given ts) l → Ends ts end l
ends_with ts end l closed e failed turns gave sent =
    ends_by ts end l closed failed turns gave (subst (λ (xs : List Sending). IsSent closed xs l) (sym (append-nil (given ts)) ∙ ap (λ (xs : List Sending). given ts ++ xs) (sym e)) sent)

-- memory ran out
pub ends_cut : (ts : List Told) (text : Option (List ℕ)) (l : Line) → go_on false (events ts) ≡ true → Gave (events ts) (untold (Cut text)) l.tale.gave → IsFrontIfTold (given ts) l.tale.sent → Ends ts (Cut text) l
ends_cut ts text l turns gave front = record {
  turns = turns_of false (events ts) turns;
  failed = λ e. absurd (cc);
  gave = gave;
  front = subst (λ (xs : List Sending). IsFrontIfTold xs l.tale.sent) (sym (append-nil (given ts))) front;
  whole = λ sound cut. absurd (cc);
}
