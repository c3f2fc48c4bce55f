-- The parts of a turn.
use Rattle.std.proofs.Common.{◌≡◌, ◌⊎◌, ◌+◌, arith, ℕ, List, [], ◌∷◌, ◌++◌, Bool, true, false, Option, Some, None, refl, sym, ap, subst, ◌∙◌, append_assoc, append-nil, inl, inr}
use Rattle.std.specs.Prelude.{option_to_list, Result, Ok, Err}
use Rattle.gate_outside.specs.declared.sending.Sending.{Sending}
use Rattle.gate_outside.specs.declared.sending.Sending.TheVariants as sending
use Rattle.gate_outside.specs.declared.faults.Fault.{Fault}
use Rattle.gate_outside.specs.declared.faults.Fault.TheVariants as outside
use Rattle.open_links.specs.Links.{IsFrontIfTold}
use Rattle.client_cache.specs.Cached.{Cached}
use Rattle.client_session.specs.declared.act.Act.{Act}
use Rattle.client_session.specs.declared.received.Received.{Received}
use Rattle.client_session.specs.declared.fault.ClientFault.{ClientFault}
use Rattle.client_session.specs.declared.fault.ClientFault.TheVariants as client
use Rattle.client_session.specs.Received.{IsTextOf, IsUnread}
use Rattle.client_session.specs.State.{ClientState}
use Rattle.client_session.specs.Step.{Event, Receives, Loses, StepsTo}
use Rattle.client_run.specs.declared.target.Target.{Target}
use Rattle.client_run.specs.declared.ending.Ending.{Ending}
use Rattle.client_run.specs.declared.ending.Ending.TheVariants as ending
use Rattle.client_run.specs.declared.fault.DriveFault.{DriveFault}
use Rattle.client_run.specs.declared.fault.DriveFault.TheVariants as fault
use Rattle.client_run.specs.Histories.{line_in, is_loss, lost_last, Dropped, are_turns, Told, told, Left, Finished, Stopped, Unread, Cut, events, sendings, given, dial_in, left_to}
use Rattle.client_run.specs.Links.{Gave}
use Rattle.client_run.specs.Watched.{WatchTale, HasTold}
use Rattle.client_run.specs.Turns.{IsToldOf, IsUnasked, TellsPart, dropped_part, IsDrop, go_on, may_hear, Line, IsSent, FailsAt, Meets, IsAnswered, Ends, IsLost, Stands, Moves, IsLoss, by_client}
use Rattle.client_run.proofs.Lines.{told_nothing}
use Rattle.client_run.proofs.Telling.{lost_by, turns_of, turns_lost, hears_on, events_more, given_more, left_by, gave_told, sent_front, ends_by, ends_with, ends_cut}

-- the client is told nothing more
pub stays : (now : ℕ) (before : List Told) (owed : List (List ℕ)) (c : ClientState Cached) (known later : WatchTale) (r : Result (Option Ending) DriveFault) (l : Line) → IsToldOf known owed later r → Stands before r l
    → Moves now before owed c c known later r l
stays now before owed c known later r l t h =
    ([], (refl, (λ clock e. refl, (subst (λ (ls : List (List ℕ)). IsToldOf known ls later r) (sym (append-nil owed)) t, subst (λ (ts : List Told). Stands ts r l) (sym (append-nil before)) h))))

-- and the watcher tells nothing more
pub told_none : {A : Type 0} (r : Result A DriveFault) (known later : WatchTale) → later ≡ known → IsToldOf known [] later r
told_none r known later same = inr (subst (λ (t : WatchTale). HasTold known [] t) (sym same) (told_nothing known))

-- ---- the loss of a connection

both_ways : {A : Type 0} (b : Bool) → b ≡ false → b ≡ true → A
both_ways true e f = absurd (cc)
both_ways false e f = absurd (cc)

no_code : (code : Option ℕ) → is_loss (Loses code) ≡ true → code ≡ None
no_code None e = refl
no_code (Some code) e = absurd (cc)

module _ (before : List Told) (code : Option ℕ) (acts : List Act) (l : Line) (h : IsLost code before l) where
  abbrev pub after_loss : List Told
  after_loss = before ++ told (Loses code) acts ∷ []

  loss_ends : sendings acts ≡ [] → Ends after_loss Left l
  loss_ends none =
      ends_with after_loss Left l true refl (λ e last. h.failed (no_code code (sym (lost_by before (told (Loses code) acts)) ∙ last)))
      (subst (λ (es : List Event). are_turns false es ≡ true) (sym (events_more before (told (Loses code) acts ∷ []))) (turns_lost false (events before) code h.turns))
      (subst (λ (es : List Event). Gave es [] l.tale.gave) (sym (events_more before (told (Loses code) acts ∷ []))) h.gave)
      (subst (λ (xs : List Sending). IsSent true xs l) (sym (append-nil (given before)) ∙ ap (λ (xs : List Sending). given before ++ xs) (sym none) ∙ sym (given_more before (Loses code) acts)) h.sent)

  pub loss_stands : (r : Result (Option Ending) DriveFault) → IsLoss code acts r → Stands after_loss r l
  loss_stands (Ok (Some (ending.Left target))) is = (loss_ends is.1, left_by before (told (Loses code) acts) ∙ is.0)
  loss_stands (Ok (Some (ending.Dropped target))) is = absurd is
  loss_stands (Ok (Some ending.Finished)) is = absurd is
  loss_stands (Ok (Some ending.Stopped)) is = absurd is
  loss_stands (Ok None) is = absurd is
  loss_stands (Err (fault.Out c)) is =
      (loss_ends (ap sendings is.1.1), (is.1.0, (before, ap (λ (o : Option ℕ). before ++ told (Loses o) acts ∷ []) is.0 ∙ ap (λ (done : List Act). before ++ told (Loses (Some c)) done ∷ []) is.1.1)))
  loss_stands (Err fault.BadText) is = absurd is
  loss_stands (Err fault.Dials) is = absurd is
  loss_stands (Err fault.Memory) is = absurd is

pub loses : (now : ℕ) (before : List Told) (code : Option ℕ) (old new : ClientState Cached) (known later : WatchTale) (r : Result (Option Ending) DriveFault) (l : Line) → later ≡ known → IsLost code before l
    → (acts : List Act) × (StepsTo old (Loses code) new acts × IsLoss code acts r) → Moves now before [] old new known later r l
loses now before code old new known later r l same h does =
    (told (Loses code) does.0 ∷ [], ((new, (does.1.0, refl)), (λ clock e. refl, (told_none r known later same, loss_stands before code does.0 l h r does.1.1))))

-- ---- where the watcher is not asked

pub loss_unasked : (code : Option ℕ) (acts : List Act) (r : Result (Option Ending) DriveFault) → IsLoss code acts r → IsUnasked r
loss_unasked code acts (Ok None) is = absurd is
loss_unasked code acts (Ok (Some (ending.Left target))) is = tt
loss_unasked code acts (Ok (Some (ending.Dropped target))) is = absurd is
loss_unasked code acts (Ok (Some ending.Finished)) is = absurd is
loss_unasked code acts (Ok (Some ending.Stopped)) is = absurd is
loss_unasked code acts (Err f) is = tt

pub unasked_tells : (finished stopped : Type 0) (r : Result (Option Ending) DriveFault) → IsUnasked r → TellsPart finished stopped r
unasked_tells finished stopped (Ok None) is = tt
unasked_tells finished stopped (Ok (Some (ending.Left target))) is = tt
unasked_tells finished stopped (Ok (Some (ending.Dropped target))) is = absurd is
unasked_tells finished stopped (Ok (Some ending.Finished)) is = absurd is
unasked_tells finished stopped (Ok (Some ending.Stopped)) is = absurd is
unasked_tells finished stopped (Err f) is = tt

pub unasked_counts : (n : ℕ) (r : Result (Option Ending) DriveFault) → IsUnasked r → n ≡ n + dropped_part r
unasked_counts n (Ok None) is = omega arith
unasked_counts n (Ok (Some (ending.Left target))) is = omega arith
unasked_counts n (Ok (Some (ending.Dropped target))) is = absurd is
unasked_counts n (Ok (Some ending.Finished)) is = absurd is
unasked_counts n (Ok (Some ending.Stopped)) is = absurd is
unasked_counts n (Err f) is = omega arith

-- ---- a link that was dropped
module _ (before : List Told) (acts : List Act) (l : Line) (m : Meets before [] l) where
  abbrev pub after_drop : List Told
  after_drop = before ++ told (Loses None) acts ∷ []

  pub drop_stands : (r : Result (Option Ending) DriveFault) → IsDrop acts r → Stands after_drop r l
  drop_stands (Ok (Some (ending.Dropped target))) is = (
    ends_with after_drop Dropped l false refl (λ e. absurd (cc))
        (subst (λ (es : List Event). are_turns false es ≡ true) (sym (events_more before (told (Loses None) acts ∷ []))) (turns_lost false (events before) None m.turns))
        (subst (λ (es : List Event). Gave es [] l.tale.gave) (sym (events_more before (told (Loses None) acts ∷ []))) (gave_told (events before) (Loses None) [] l.tale.gave refl m.gave))
        (subst (λ (xs : List Sending). IsSent false xs l) (sym (append-nil (given before)) ∙ ap (λ (xs : List Sending). given before ++ xs) (sym is.1) ∙ sym (given_more before (Loses None) acts)) m.sent),
    left_by before (told (Loses None) acts) ∙ is.0,
  )
  drop_stands (Ok (Some (ending.Left target))) is = absurd is
  drop_stands (Ok (Some ending.Finished)) is = absurd is
  drop_stands (Ok (Some ending.Stopped)) is = absurd is
  drop_stands (Ok None) is = absurd is
  drop_stands (Err f) is = absurd is

pub drops : (now : ℕ) (before : List Told) (owed : List (List ℕ)) (old new : ClientState Cached) (known later : WatchTale) (r : Result (Option Ending) DriveFault) (l : Line) → HasTold known owed later → Meets before [] l
    → (acts : List Act) × (StepsTo old (Loses None) new acts × IsDrop acts r) → Moves now before owed old new known later r l
drops now before owed old new known later r l same m does =
    let tells : IsToldOf known (owed ++ []) later r = inr (subst (λ (ls : List (List ℕ)). HasTold known ls later) (sym (append-nil owed)) same) in
    (told (Loses None) does.0 ∷ [], ((new, (does.1.0, refl)), (λ clock e. refl, (tells, drop_stands before does.0 l m r does.1.1))))

-- ---- the watcher

pub finished : (ts : List Told) (old l : Line) → l.tale.gave ≡ old.tale.gave → Meets ts [] old → IsSent true (given ts ++ sending.Close 1000 ∷ []) l → Ends ts Finished l
finished ts old l same m sent = ends_by ts Finished l true (λ e. absurd (cc)) (turns_of false (events ts) m.turns) (subst (λ o. Gave (events ts) [] o) (sym same) m.gave) sent

pub stopped : (ts : List Told) (l : Line) → Meets ts [] l → Ends ts Stopped l
stopped ts l m = ends_with ts Stopped l false refl (λ e. absurd (cc)) (turns_of false (events ts) m.turns) m.gave m.sent

-- a call that ran out of memory
pub cut_off : (ts : List Told) (old l : Line) → l.tale.gave ≡ old.tale.gave → Meets ts [] old → IsFrontIfTold (given ts) l.tale.sent → Ends ts (Cut None) l
cut_off ts old l same m front = ends_cut ts None l m.turns (subst (λ o. Gave (events ts) [] o) (sym same) m.gave) front

-- ---- what the client says to a text is done

module _ (before : List Told) (event : Event) (acts : List Act) (old l : Line) (same : l.tale.gave ≡ old.tale.gave) (h : IsAnswered before event acts old) where
  abbrev pub answered : List Told
  answered = before ++ told event acts ∷ []

  gave_answered : Gave (events answered) [] l.tale.gave
  gave_answered = subst (λ o. Gave (events answered) [] o) (sym same) h.gave

  pub answer_cut : FailsAt (given before ++ sendings acts) l outside.Memory → Ends answered (Cut None) l
  answer_cut front = ends_cut answered None l h.turns gave_answered (subst (λ (xs : List Sending). IsFrontIfTold xs l.tale.sent) (sym (given_more before event acts)) front)

  pub answer_lost : FailsAt (given before ++ sendings acts) l outside.Failed → IsLost None answered l
  answer_lost failed = record {
    turns = h.turns;
    failed = λ e. failed.1;
    gave = gave_told (events answered) (Loses None) [] l.tale.gave refl gave_answered;
    sent = sent_front (given answered) l (subst (λ (xs : List Sending). IsFrontIfTold xs l.tale.sent) (sym (given_more before event acts)) failed.0) failed.1;
  }

  pub answer_sent : (closed : Bool) → IsSent closed (given before ++ sendings acts) l → IsSent closed (given answered) l
  answer_sent closed sent = subst (λ (xs : List Sending). IsSent closed xs l) (sym (given_more before event acts)) sent

  pub answer_left : (closed : Bool) (target : Target) → dial_in acts ≡ Some target → IsSent closed (given before ++ sendings acts) l → Ends answered Left l × (left_to answered ≡ Some target)
  answer_left closed target dials sent = (ends_with answered Left l closed refl (λ e last. both_ways (lost_last answered) (lost_by before (told event acts) ∙ h.other) last) (turns_of false (events answered) h.turns) gave_answered (answer_sent closed sent), left_by before (told event acts) ∙ dials)

  pub answer_stays : (closed : Bool) → closed ≡ false → IsSent closed (given before ++ sendings acts) l → Meets answered [] l
  answer_stays closed still sent = record { turns = h.turns; gave = gave_answered; sent = subst (λ (b : Bool). IsSent b (given answered) l) still (answer_sent closed sent) }

-- ---- a text

pub answered_at : (before : List Told) (payload : Received) (text : List ℕ) (now : ℕ) (acts : List Act) (l : Line) → may_hear false (events before) ≡ true → IsTextOf text payload → Meets before (sending.Text text ∷ []) l → IsAnswered before (Receives payload now) acts l
answered_at before payload text now acts l may is m = record {
  other = refl;
  turns = subst (λ (es : List Event). go_on false es ≡ true) (sym (events_more before (told (Receives payload now) acts ∷ []))) (hears_on false (events before) payload now may m.turns);
  gave = subst (λ (es : List Event). Gave es [] l.tale.gave) (sym (events_more before (told (Receives payload now) acts ∷ [])))
      (gave_told (events before) (Receives payload now) (sending.Text text ∷ []) l.tale.gave (text, (refl, is)) m.gave);
  sent = m.sent;
}

-- the client is told it first
pub told_first : (now : ℕ) (before : List Told) (payload : Received) (acts : List Act) (old mid new : ClientState Cached) (known later : WatchTale) (r : Result (Option Ending) DriveFault) (l : Line)
    → StepsTo old (Receives payload now) mid acts → Moves now (before ++ told (Receives payload now) acts ∷ []) (option_to_list (line_in payload)) mid new known later r l → Moves now before [] old new known later r l
told_first now before payload acts old mid new known later r l steps moves = (
  told (Receives payload now) acts ∷ moves.0,
  (
    (mid, (steps, moves.1.0)),
    (
      λ clock e. (sym e, moves.1.1.0 clock e),
      (
        moves.1.1.1.0,
        subst (λ (ts : List Told). Stands ts r l) (append_assoc before (told (Receives payload now) acts ∷ []) moves.0) moves.1.1.1.1,
      ),
    ),
  ),
)

-- the text is no payload, or memory ran out
refused : (before : List Told) (text : List ℕ) (f : ClientFault) (l : Line) → (f ≡ client.Memory) ⊎ ((f ≡ client.BadText) × IsUnread text) → Meets before (sending.Text text ∷ []) l → Stands before (Err (by_client f)) l
refused before text f l (inl e) m = subst (λ (x : ClientFault). Stands before (Err (by_client x)) l) (sym e) (Some text, ends_cut before (Some text) l m.turns m.gave m.sent.front)
refused before text f l (inr e) m = subst (λ (x : ClientFault). Stands before (Err (by_client x)) l) (sym e.0) (text, (ends_with before (Unread text) l false refl (λ e. absurd (cc)) (turns_of false (events before) m.turns) m.gave m.sent, e.1))

pub text_refused : (now : ℕ) (before : List Told) (text : List ℕ) (old new : ClientState Cached) (known : WatchTale) (f : ClientFault) (d : DriveFault) (l : Line) → new ≡ old → d ≡ by_client f
    → (f ≡ client.Memory) ⊎ ((f ≡ client.BadText) × IsUnread text) → Meets before (sending.Text text ∷ []) l → Moves now before [] old new known known (Err d) l
text_refused now before text old new known f d l same is why m =
    let r : Result (Option Ending) DriveFault = Err (by_client f) in
    subst (λ (c : ClientState Cached). Moves now before [] old c known known (Err d) l) (sym same)
    (subst (λ (x : DriveFault). Moves now before [] old old known known (Err x) l) (sym is) (stays now before [] old known known r l (told_none r known known refl) (refused before text f l why m)))

pub fails_front : (xs : List Sending) (l : Line) (f : Fault) → FailsAt xs l f → IsFrontIfTold xs l.tale.sent
fails_front xs l outside.Failed h = h.0
fails_front xs l outside.Memory h = h
