-- What is sent over a link.
use Rattle.std.proofs.Common.{◌≡◌, ℕ, List, [], ◌∷◌, ◌++◌, Bool, true, false, MatchResult, Option, Some, None, refl, sym, ap, subst, ◌∙◌, append_assoc}
use Rattle.std.specs.Prelude.{not, ◌&&◌, Result, Ok, Err}
use Rattle.gate_outside.specs.declared.sending.Sending.{Sending}
use Rattle.gate_outside.specs.declared.sending.Sending.TheVariants as sending
use Rattle.gate_outside.specs.declared.faults.Fault.{Fault}
use Rattle.gate_outside.specs.declared.faults.Fault.TheVariants as outside
use Rattle.open_links.specs.Links.{IsFrontIfTold}
use Rattle.client_session.specs.declared.act.Act.{Act}
use Rattle.client_session.specs.declared.act.Act.TheVariants.{Send, Hang, DialFirst, DialResume}
use Rattle.client_run.specs.Histories.{sending_of, sendings}
use Rattle.client_run.specs.Turns.{Line, IsSent, FailsAt, is_orderly, closed_by}

pub not_closed : (closed b : Bool) → (not closed && b) ≡ true → closed ≡ false
not_closed true b h = absurd (cc)
not_closed false b h = refl

-- a front of a front
pub front_more : (xs more : List Sending) (o : Option (List Sending)) → IsFrontIfTold xs o → IsFrontIfTold (xs ++ more) o
front_more xs more None h = tt
front_more xs more (Some told) h = (h.0 ++ more, sym (append_assoc told h.0 more) ∙ ap (λ (l : List Sending). l ++ more) h.1)

pub fails_more : (xs more : List Sending) (l : Line) (f : Fault) → FailsAt xs l f → FailsAt (xs ++ more) l f
fails_more xs more l outside.Failed h = (front_more xs more l.tale.sent h.0, h.1)
fails_more xs more l outside.Memory h = front_more xs more l.tale.sent h

-- a link was sent these, and is to be sent what these acts say
pub record Sent (all : List Sending) (closes : Bool) (later : List Act) (l : Line) : Type 0 where
  pub closed : Bool
  pub xs : List Sending
  pub sent : IsSent closed xs l
  pub whole : xs ++ sendings later ≡ all
  pub orderly : is_orderly closed later ≡ true
  pub close : closed_by closed later ≡ closes

pub both : (a b c : Bool) → (a && (b && c)) ≡ true → (a && b) ≡ true
both true true c h = refl
both true false c h = h
both false b c h = h

-- what a call sends, or that it fails
abbrev pub SendsMore : Line → Line → Result (Unit {0}) Fault → Bool → List Sending → Type 0
SendsMore old new r closed more = (xs : List Sending) → IsSent false xs old → MatchResult r (λ _. IsSent closed (xs ++ more) new) (FailsAt xs new)

-- and if it does what an act says
abbrev pub DoesAct : Line → Line → Result (Unit {0}) Fault → Act → Type 0
DoesAct old new r act = (closed : Bool) (xs : List Sending) → is_orderly closed (act ∷ []) ≡ true → IsSent closed xs old
    → MatchResult r (λ _. IsSent (closed_by closed (act ∷ [])) (xs ++ sending_of act) new) (FailsAt xs new)

pub sent_text : (text shown : List ℕ) (old new : Line) (r : Result (Unit {0}) Fault) → shown ≡ text → SendsMore old new r false (sending.Text shown ∷ []) → DoesAct old new r (Send text)
sent_text text shown old new r e by true xs h s = absurd (cc)
sent_text text shown old new r e by false xs h s = subst (λ (t : List ℕ). SendsMore old new r false (sending.Text t ∷ [])) e by xs s

pub sent_close : (code : ℕ) (old new : Line) (r : Result (Unit {0}) Fault) → SendsMore old new r true (sending.Close code ∷ []) → DoesAct old new r (Hang code)
sent_close code old new r by true xs h s = absurd (cc)
sent_close code old new r by false xs h s = by xs s

-- ---- one act after another

first_orderly : (closed : Bool) (act : Act) (later : List Act) → is_orderly closed (act ∷ later) ≡ true → is_orderly closed (act ∷ []) ≡ true
first_orderly true (Send text) later h = absurd (cc)
first_orderly false (Send text) later h = refl
first_orderly true (Hang code) later h = absurd (cc)
first_orderly false (Hang code) later h = refl
first_orderly closed DialFirst later h = refl
first_orderly closed DialResume later h = refl

later_orderly : (closed : Bool) (act : Act) (later : List Act) → is_orderly closed (act ∷ later) ≡ true → is_orderly (closed_by closed (act ∷ [])) later ≡ true
later_orderly true (Send text) later h = absurd (cc)
later_orderly false (Send text) later h = h
later_orderly true (Hang code) later h = absurd (cc)
later_orderly false (Hang code) later h = h
later_orderly closed DialFirst later h = h
later_orderly closed DialResume later h = h

later_closed : (closed : Bool) (act : Act) (later : List Act) → closed_by (closed_by closed (act ∷ [])) later ≡ closed_by closed (act ∷ later)
later_closed closed (Send text) later = refl
later_closed closed (Hang code) later = refl
later_closed closed DialFirst later = refl
later_closed closed DialResume later = refl

module _ (all : List Sending) (closes : Bool) (act : Act) (later : List Act) (old new : Line) (r : Result (Unit {0}) Fault) (by : DoesAct old new r act) (s : Sent all closes (act ∷ later) old) where
  answers : MatchResult r (λ _. IsSent (closed_by s.closed (act ∷ [])) (s.xs ++ sending_of act) new) (FailsAt s.xs new)
  answers = by s.closed s.xs (first_orderly s.closed act later s.orderly) s.sent

  pub sent_next : (u : Unit {0}) → r ≡ Ok u → Sent all closes later new
  sent_next u e = record {
    closed = closed_by s.closed (act ∷ []);
    xs = s.xs ++ sending_of act;
    sent = subst (λ (x : Result (Unit {0}) Fault). MatchResult x (λ _. IsSent (closed_by s.closed (act ∷ [])) (s.xs ++ sending_of act) new) (FailsAt s.xs new)) e answers;
    whole = append_assoc s.xs (sending_of act) (sendings later) ∙ s.whole;
    orderly = later_orderly s.closed act later s.orderly;
    close = later_closed s.closed act later ∙ s.close;
  }

  pub sent_not : (f : Fault) → r ≡ Err f → FailsAt all new f
  sent_not f e =
      let failed : FailsAt s.xs new f = subst (λ (x : Result (Unit {0}) Fault). MatchResult x (λ _. IsSent (closed_by s.closed (act ∷ [])) (s.xs ++ sending_of act) new) (FailsAt s.xs new)) e answers in
      subst (λ (l : List Sending). FailsAt l new f) s.whole (fails_more s.xs (sendings (act ∷ later)) new f failed)

pub passed_on : {T : Type 0} (P : Type 0) (all : List Sending) (l : Line) (r : Result T Fault) (y f : Fault) → r ≡ Err y → y ≡ f → FailsAt all l f → MatchResult r (λ _. P) (FailsAt all l)
passed_on P all l r y f e same h =
    subst (λ x. MatchResult x (λ _. P) (FailsAt all l)) (sym e) (subst (λ (x : Fault). FailsAt all l x) (sym same) h)
