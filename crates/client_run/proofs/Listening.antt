-- What a link gives, and heartbeats.
use Rattle.std.proofs.Common.{◌≡◌, ◌⊎◌, ℕ, ◌<◌, List, [], ◌∷◌, ◌++◌, Bool, true, false, Option, Some, None, MatchResult, refl, sym, ap, subst, ◌∙◌, arith, append-nil, inl, inr}
use Rattle.std.specs.Prelude.{Result, Ok, Err, OnOk, option_to_list}
use Rattle.gate_outside.specs.declared.sending.Sending.{Sending}
use Rattle.gate_outside.specs.declared.sending.Sending.TheVariants as sending
use Rattle.gate_outside.specs.declared.faults.Fault.{Fault}
use Rattle.gate_outside.specs.declared.faults.Fault.TheVariants as outside
use Rattle.gate_outside.specs.declared.incoming.Incoming.{Incoming}
use Rattle.gate_outside.specs.declared.incoming.Incoming.TheVariants as incoming
use Rattle.gate_outside.specs.Causes.{FaultHasCause, Rose}
use Rattle.gate_outside.specs.Told.{GrowsByAny}
use Rattle.gate_outside.specs.Links.{Receives as LinkReceives, came_by, given_by}
use Rattle.open_links.specs.Links.{IsIfTold, IsFrontIfTold}
use Rattle.client_cache.specs.Cached.{Cached}
use Rattle.client_session.specs.declared.act.Act.{Act}
use Rattle.client_session.specs.State.{ClientState}
use Rattle.client_session.specs.Step.{Event, Loses, Asks, StepsTo, acts}
use Rattle.client_run.specs.Histories.{Told, told, Cut, events, sending_of, sendings, given, StepsAll}
use Rattle.client_run.specs.Links.{Gave}
use Rattle.client_run.specs.Turns.{go_on, Line, IsSent, FailsAt, Meets, IsAnswered, Ends, IsLost, Beats, IsAsked, closed_by, is_orderly}
use Rattle.client_run.proofs.Sent.{DoesAct, fails_more}
use Rattle.client_run.proofs.Shapes.{orderly_acts, asks_close}
use Rattle.client_run.proofs.Telling.{asks_on, events_more, gave_told, gave_on, sent_anyway, sent_front, ends_cut}
use Rattle.client_run.proofs.Parts.{answer_cut, answer_lost, answer_stays, cut_off}

-- ---- what a link gives

sent_same : (closed : Bool) (xs : List Sending) (old l : Line) → l.tale.sent ≡ old.tale.sent → l.tale.own_code ≡ old.tale.own_code → l.faults ≡ old.faults → IsSent closed xs old → IsSent closed xs l
sent_same closed xs old l sent code faults s = record {
  front = subst (λ (o : Option (List Sending)). IsFrontIfTold xs o) (sym sent) s.front;
  whole = λ sound. subst (λ (o : Option (List Sending)). IsIfTold xs o) (sym sent) (s.whole (sym faults ∙ sound));
  in_use = λ still. (faults ∙ (s.in_use still).0, code ∙ (s.in_use still).1);
}

rose : (before now : ℕ) → before ≡ 0 → Rose before now → 0 < now
rose before now e h = let first : Rose 0 now = subst (λ (n : ℕ). Rose n now) e h in omega (arith, first)

module _ (ts : List Told) (old l : Line) (m : Meets ts [] old) where
  module _ (r : Result Incoming Fault) (h : LinkReceives old.tale l.tale r) (cause : FaultHasCause old.faults l.faults r) where
    -- what came, if it came from the other end
    came : (x : Option Sending) → given_by r ≡ x → GrowsByAny old.tale.gave l.tale.gave x
    came x e =
        subst (λ (y : Option Sending). GrowsByAny old.tale.gave l.tale.gave y) e
        (subst (λ (o : Option ℕ). GrowsByAny old.tale.gave l.tale.gave (came_by o r)) (m.sent.in_use refl).1 h.gave)

    nothing_came : given_by r ≡ None → Gave (events ts) [] l.tale.gave
    nothing_came e = subst (λ (o : Option (List Sending)). Gave (events ts) [] o) (sym (came None e)) m.gave

    same_sent : (x : Incoming) → r ≡ Ok x → IsSent false (given ts) l
    same_sent x e = sent_same false (given ts) old l h.sent h.own_code (subst (λ (y : Result Incoming Fault). OnOk y (l.faults ≡ old.faults)) e cause.ok) m.sent

    same_front : IsFrontIfTold (given ts) l.tale.sent
    same_front = subst (λ (o : Option (List Sending)). IsFrontIfTold (given ts) o) (sym h.sent) m.sent.front

    pub hears_text : (x : Incoming) (text : List ℕ) → r ≡ Ok x → given_by (Ok x) ≡ Some (sending.Text text) → Meets ts (sending.Text text ∷ []) l
    hears_text x text e is = record {
      turns = m.turns;
      gave = gave_on (events ts) (sending.Text text) old.tale.gave l.tale.gave m.gave (came (Some (sending.Text text)) (ap given_by e ∙ is));
      sent = same_sent x e;
    }

    pub hears_close : (x : Incoming) (code : ℕ) → r ≡ Ok x → x ≡ incoming.Closed code → IsLost (Some code) ts l
    hears_close x code e is = record {
      turns = m.turns;
      failed = λ none. absurd (cc);
      gave = gave_told (events ts) (Loses (Some code)) (sending.Close code ∷ []) l.tale.gave refl
          (gave_on (events ts) (sending.Close code) old.tale.gave l.tale.gave m.gave (came (Some (sending.Close code)) (ap given_by e ∙ ap (λ (y : Incoming). given_by (Ok y)) is)));
      sent = sent_anyway false (given ts) l (same_sent x e);
    }

    pub hears_nothing : (x : Incoming) → r ≡ Ok x → x ≡ incoming.NotYet → Meets ts [] l
    hears_nothing x e is = record { turns = m.turns; gave = nothing_came (ap given_by e ∙ ap (λ (y : Incoming). given_by (Ok y)) is); sent = same_sent x e }

    pub hears_failure : (f : Fault) → r ≡ Err f → f ≡ outside.Failed → IsLost None ts l
    hears_failure f e is = record {
      turns = m.turns;
      failed = λ none. rose old.faults l.faults (m.sent.in_use refl).0 (cause.failed (e ∙ ap (λ (y : Fault). Err y) is));
      gave = gave_told (events ts) (Loses None) [] l.tale.gave refl (nothing_came (ap given_by e));
      sent = sent_front (given ts) l same_front (rose old.faults l.faults (m.sent.in_use refl).0 (cause.failed (e ∙ ap (λ (y : Fault). Err y) is)));
    }

    pub hears_not : (f : Fault) → r ≡ Err f → Ends ts (Cut None) l
    hears_not f e = ends_cut ts None l m.turns (nothing_came (ap given_by e)) same_front

-- ---- heartbeats

asked : (before : List Told) (now : ℕ) (acts : List Act) (l : Line) → Meets before [] l → IsAnswered before (Asks now) acts l
asked before now acts l m = record {
  other = refl;
  turns = subst (λ (es : List Event). go_on false es ≡ true) (sym (events_more before (told (Asks now) acts ∷ []))) (asks_on false (events before) now m.turns);
  gave = subst (λ (es : List Event). Gave es [] l.tale.gave) (sym (events_more before (told (Asks now) acts ∷ []))) (gave_told (events before) (Asks now) [] l.tale.gave refl m.gave);
  sent = m.sent;
}

beaten : (before : List Told) (now : ℕ) (act : Act) (old l : Line) (r : Result (Unit {0}) Fault) (closed : Bool) → closed ≡ false → l.tale.gave ≡ old.tale.gave → Meets before [] old
    → MatchResult r (λ _. IsSent closed (given before ++ sending_of act) l) (FailsAt (given before) l) → IsAsked now (told (Asks now) (act ∷ []) ∷ []) r × Beats (before ++ told (Asks now) (act ∷ []) ∷ []) r l
beaten before now act old l (Ok u) closed still same m h =
    (refl, answer_stays before (Asks now) (act ∷ []) old l same (asked before now (act ∷ []) old m) closed still (subst (λ (xs : List Sending). IsSent closed (given before ++ xs) l) (sym (append-nil (sending_of act))) h))
beaten before now act old l (Err outside.Failed) closed still same m h =
    (refl, answer_lost before (Asks now) (act ∷ []) old l same (asked before now (act ∷ []) old m) (fails_more (given before) (sendings (act ∷ [])) l outside.Failed h))
beaten before now act old l (Err outside.Memory) closed still same m h =
    (inr refl, answer_cut before (Asks now) (act ∷ []) old l same (asked before now (act ∷ []) old m) (fails_more (given before) (sendings (act ∷ [])) l outside.Memory h))

-- one is due
pub beats : (before : List Told) (now : ℕ) (o : Option Act) (act : Act) (c new : ClientState Cached) (old l : Line) (r : Result (Unit {0}) Fault) → o ≡ Some act → StepsTo c (Asks now) new (option_to_list o)
    → l.tale.gave ≡ old.tale.gave → DoesAct old l r act → Meets before [] old → (ts : List Told) × (StepsAll c ts new × (IsAsked now ts r × Beats (before ++ ts) r l))
beats before now o act c new old l r is step same does m =
    let steps = subst (λ (x : Option Act). StepsTo c (Asks now) new (option_to_list x)) is step in
    let orderly : is_orderly false (act ∷ []) ≡ true = ap (λ (done : List Act). is_orderly false done) steps.2 ∙ (orderly_acts c (Asks now)).orderly in
    let still : closed_by false (act ∷ []) ≡ false = ap (λ (done : List Act). closed_by false done) steps.2 ∙ asks_close c now in
    let both = beaten before now act old l r (closed_by false (act ∷ [])) still same m (does false (given before) orderly m.sent) in
    (told (Asks now) (act ∷ []) ∷ [], ((new, (steps, refl)), both))

-- none is due
pub beats_not : (before : List Told) (now : ℕ) (o : Option Act) (c new : ClientState Cached) (l : Line) → o ≡ None → StepsTo c (Asks now) new (option_to_list o) → Meets before [] l
    → (ts : List Told) × (StepsAll c ts new × ((events ts ≡ Asks now ∷ []) × Meets (before ++ ts) [] l))
beats_not before now o c new l is step m = (
  told (Asks now) [] ∷ [],
  (
    (new, (subst (λ (x : Option Act). StepsTo c (Asks now) new (option_to_list x)) is step, refl)),
    (refl, answer_stays before (Asks now) [] l l refl (asked before now [] l m) false refl (subst (λ (xs : List Sending). IsSent false xs l) (sym (append-nil (given before))) m.sent)),
  ),
)

-- memory ran out
pub beats_cut : (before : List Told) (now : ℕ) (c new : ClientState Cached) (l : Line) → new ≡ c → Meets before [] l
    → (ts : List Told) × (StepsAll c ts new × (((events ts ≡ []) ⊎ (events ts ≡ Asks now ∷ [])) × Ends (before ++ ts) (Cut None) l))
beats_cut before now c new l same m =
    ([], (same, (inl refl, subst (λ (ts : List Told). Ends ts (Cut None) l) (sym (append-nil before)) (cut_off before l l refl m m.sent.front))))
