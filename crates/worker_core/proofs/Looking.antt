-- One session more is told an entry, and one entry more is looked at.
use Rattle.std.proofs.Common.{◌≡◌, ℕ, ◌+◌, ◌<◌, List, [], ◌∷◌, ◌++◌, Bool, true, false, Some, length, map, take, drop, get_or, refl, sym, ap, ◌∙◌, append_assoc, arith}
use Rattle.std.specs.Prelude.{◌||◌, flat_map, slice_get, option_map}
use Rattle.std.specs.List.{list_any}
use Rattle.std.proofs.lemmas.List.{length-map, length-take-le, take-append-drop}
use Rattle.std.proofs.lemmas.Option.{get_or_from_slice_get, slice_get-map}
use Rattle.guild_model.specs.Record.{Record}
use Rattle.dispatch_types.specs.declared.dispatch.Dispatch.{Dispatch}
use Rattle.dispatch_types.specs.declared.viewer.Viewer.{Viewer}
use Rattle.edit_apply.specs.Edits.{accepts, after}
use Rattle.edit_apply.specs.declared.Edit.{Edit}
use Rattle.edit_events.specs.Due.{due, due_of_accepted}
use Rattle.replay_ring.specs.Replay.{Replay}
use Rattle.session_core.specs.State.{State, Session, Condition, Attached, Detached, Ended}
use Rattle.worker_core.specs.declared.io.Output.{Output as Written}
use Rattle.worker_core.specs.declared.io.StepFault.{StepFault}
use Rattle.worker_core.specs.declared.io.StepFault.TheVariants.{Spent, Memory}
use Rattle.worker_core.specs.Telling.{FailsAt, FailsEach, IsAt, TellsAt, TellsEach, further}
use Rattle.worker_core.specs.Represents.{FaultBy}
use Rattle.worker_core.proofs.Picking.{Item, as_many_picked, at_index, item_at}
use Rattle.worker_core.specs.Recipients.{Picks, picked_by, viewer_of}
use Rattle.worker_core.specs.Outputs.{all_written, written}
use Rattle.worker_core.proofs.Kept.{any_join, flat_map_join}
use Rattle.world_law.proofs.Lists.{append_none, map_join}
use Rattle.world_law.specs.Spent.{is_past}
use Rattle.worker_core.specs.Looked.{kept_looked, kept_sends, kept_spends, told_more, told_sends, told_spends}
use Rattle.worker_core.proofs.Telling.{last_taken, past_no, rest_dropped}
use Rattle.world_law.specs.Outputs.{sends}
use Rattle.worker_core.specs.InCode.{wire_text}
use Rattle.world_law.specs.Keeping.{with_sessions}

-- what is due to the session at an index, where it is picked by its viewer
pub due_at : (s : Record) (e : Edit) (viewers : List Viewer) (whose : List ℕ) (told : List (List Dispatch)) (which : List ℕ) (xs : List (Session Replay)) (i k d : ℕ) → i < length xs → (here : Item xs i)
    → Picks viewers whose (map viewer_of xs) → Picks told which (map (due s e) viewers) → k ≡ get_or whose i d
    → picked_by told (slice_get which k) ≡ Some (due s e here.item.viewer)
due_at s e viewers whose told which xs i k d lt here recipients picks is =
    let v : Viewer = here.item.viewer in
    let many : length whose ≡ length xs = as_many_picked viewers whose (map viewer_of xs) recipients ∙ length-map xs viewer_of in
    let index = item_at whose i (omega (arith, lt, many)) in
    let same : k ≡ index.item = is ∙ get_or_from_slice_get whose i index.item d index.found in
    let mine : slice_get (map viewer_of xs) i ≡ Some v = slice_get-map viewer_of xs i ∙ ap (option_map viewer_of) here.found in
    let found : slice_get viewers k ≡ Some v =
    ap (slice_get viewers) same ∙ (ap (picked_by viewers) (sym index.found) ∙ at_index viewers whose (map viewer_of xs) i v recipients mine) in
    at_index told which (map (due s e) viewers) k (due s e v) picks (slice_get-map (due s e) viewers k ∙ ap (option_map (due s e)) found)

-- the viewers of sessions stay
pub viewers_stay : (s : Record) (e : Edit) (xs : List (Session Replay)) → map viewer_of (map (told_more s e) xs) ≡ map viewer_of xs
viewers_stay s e [] = refl
viewers_stay s e (x ∷ xs) = ap (λ vs. x.viewer ∷ vs) (viewers_stay s e xs)

pub due_accepted : (s : Record) (e : Edit) (v : Viewer) → accepts s e ≡ true → due_of_accepted s e v ≡ due s e v
unfolding due
due_accepted s e v accepted = simp accepted refl

due_refused : (s : Record) (e : Edit) (v : Viewer) → accepts s e ≡ false → due s e v ≡ []
unfolding due
due_refused s e v refused = simp refused refl

module _ (s : Record) (e : Edit) (old : State Replay) where
  abbrev xs : List (Session Replay)
  xs = old.sessions

  -- the sessions before an index are told
  pub record SentDispatch (i : ℕ) (mid : State Replay) (before outm : List Written) : Type 0 where
    pub sessions : mid ≡ with_sessions (map (told_more s e) (take i xs) ++ drop i xs) old
    pub out : outm ≡ before ++ all_written (flat_map (told_sends s e) (take i xs))
    pub counted : list_any (told_spends s e) (take i xs) ≡ false

  module _ (ds : List Dispatch) (mid : State Replay) (before outm : List Written) (i : ℕ) (lt : i < length xs) (here : Item xs i) (told : SentDispatch i mid before outm) (is_due : ds ≡ due s e here.item.viewer) where
    between : IsAt i (map (told_more s e) (take i xs)) here.item (drop (i + 1) xs) mid
    between = (
      ap (λ (m : State Replay). m.sessions) told.sessions ∙ ap (λ ys. map (told_more s e) (take i xs) ++ ys) (rest_dropped xs i here.item lt here.read),
      sym (length-map (take i xs) (told_more s e) ∙ length-take-le i xs (omega arith)),
    )

    pub each_more : (new : State Replay) (out : List Written) → TellsAt i (λ x. ds) mid new outm out → SentDispatch (i + 1) new before out
    each_more new out tells =
        let x = here.item in
        let step = tells (map (told_more s e) (take i xs)) (drop (i + 1) xs) x between in
        let taken = last_taken xs i x lt here.read in
        record {
          sessions = step.0
              ∙ (ap (λ ds. with_sessions (map (told_more s e) (take i xs) ++ further ds x ∷ drop (i + 1) xs) mid) is_due
              ∙ (ap (λ (m : State Replay). with_sessions (map (told_more s e) (take i xs) ++ told_more s e x ∷ drop (i + 1) xs) m) told.sessions
              ∙ ap (λ ys. with_sessions ys old)
              (sym (append_assoc (map (told_more s e) (take i xs)) (told_more s e x ∷ []) (drop (i + 1) xs))
              ∙ ap (λ ys. ys ++ drop (i + 1) xs) (sym (map_join (told_more s e) (take i xs) (x ∷ [])) ∙ ap (map (told_more s e)) (sym taken)))));
          out = step.1.0
              ∙ (ap (λ ws. ws ++ all_written (sends wire_text x.condition x.sent.last ds)) told.out
              ∙ (ap (λ ds. (before ++ all_written (flat_map (told_sends s e) (take i xs))) ++ all_written (sends wire_text x.condition x.sent.last ds)) is_due
              ∙ (append_assoc before (all_written (flat_map (told_sends s e) (take i xs))) (all_written (told_sends s e x))
              ∙ ap (λ ws. before ++ ws)
              (sym (map_join written (flat_map (told_sends s e) (take i xs)) (told_sends s e x))
              ∙ ap all_written
              (ap (λ os. flat_map (told_sends s e) (take i xs) ++ os) (sym (append_none (told_sends s e x)))
              ∙ (sym (flat_map_join (told_sends s e) (take i xs) (x ∷ [])) ∙ ap (flat_map (told_sends s e)) (sym taken)))))));
          counted =
              let one : told_spends s e x ≡ false = ap (λ ds. is_past x.sent.last (length ds)) (sym is_due) ∙ step.1.1 in
              ap (list_any (told_spends s e)) taken ∙ (any_join (told_spends s e) (take i xs) (x ∷ [])
              ∙ (ap (λ b. b || list_any (told_spends s e) (x ∷ [])) told.counted ∙ ap (λ b. b || false) one));
        }

    pub each_fails : (fault : StepFault) → FailsAt i (λ x. ds) mid fault → FailsEach s e old fault
    each_fails Memory fails = tt
    each_fails Spent fails =
        let x = here.item in
        let past : told_spends s e x ≡ true = ap (λ ds. is_past x.sent.last (length ds)) (sym is_due) ∙ fails (map (told_more s e) (take i xs)) (drop (i + 1) xs) x between in
        let whole : xs ≡ take i xs ++ x ∷ drop (i + 1) xs = sym (take-append-drop i xs) ∙ ap (λ ys. take i xs ++ ys) (rest_dropped xs i x lt here.read) in
        ap (list_any (told_spends s e)) whole ∙ (any_join (told_spends s e) (take i xs) (x ∷ drop (i + 1) xs)
        ∙ (ap (λ b. list_any (told_spends s e) (take i xs) || (b || list_any (told_spends s e) (drop (i + 1) xs))) past
        ∙ or_true (list_any (told_spends s e) (take i xs))))
      where
        or_true : (b : Bool) → (b || true) ≡ true
        or_true true = refl
        or_true false = refl

  -- a refused entry tells nothing
  pub none_told : accepts s e ≡ false → (before : List Written) → TellsEach s e old old before before
  none_told refused before = (
    ap (λ ys. with_sessions ys old) (sym (same xs)),
    (sym (ap (λ os. before ++ all_written os) (silent xs) ∙ append_none before), uncounted xs),
  )
    where
      one : (x : Session Replay) → told_more s e x ≡ x
      one x = ap (λ ds. further ds x) (due_refused s e x.viewer refused)

      same : (ys : List (Session Replay)) → map (told_more s e) ys ≡ ys
      same [] = refl
      same (y ∷ ys) = ap (λ z. z ∷ map (told_more s e) ys) (one y) ∙ ap (λ zs. y ∷ zs) (same ys)

      nothing : (p : Condition) (n : ℕ) → sends wire_text p n [] ≡ []
      nothing (Attached conn) n = refl
      nothing (Detached since) n = refl
      nothing Ended n = refl

      silent : (ys : List (Session Replay)) → flat_map (told_sends s e) ys ≡ []
      silent [] = refl
      silent (y ∷ ys) = ap (λ os. os ++ flat_map (told_sends s e) ys) (ap (λ ds. sends wire_text y.condition y.sent.last ds) (due_refused s e y.viewer refused) ∙ nothing y.condition y.sent.last) ∙ silent ys

      uncounted : (ys : List (Session Replay)) → list_any (told_spends s e) ys ≡ false
      uncounted [] = refl
      uncounted (y ∷ ys) = ap (λ b. b || list_any (told_spends s e) ys) (ap (λ ds. is_past y.sent.last (length ds)) (due_refused s e y.viewer refused) ∙ past_no y.sent.last) ∙ uncounted ys

-- one entry more
module _ (g : Record) (e : Edit) (es : List Edit) (old new : State Replay) (before out : List Written) (told : TellsEach g e old new before out) where
  pub looked_more : with_sessions (kept_looked (after g e) es new.sessions) new ≡ with_sessions (kept_looked g (e ∷ es) old.sessions) old
  looked_more = ap (λ (n : State Replay). with_sessions (kept_looked (after g e) es n.sessions) n) told.0

  pub sent_more : out ++ all_written (kept_sends (after g e) es new.sessions) ≡ before ++ all_written (kept_sends g (e ∷ es) old.sessions)
  sent_more =
      let rest = kept_sends (after g e) es (map (told_more g e) old.sessions) in
      ap (λ (n : State Replay). out ++ all_written (kept_sends (after g e) es n.sessions)) told.0
      ∙ (ap (λ ws. ws ++ all_written rest) told.1.0
      ∙ (append_assoc before (all_written (flat_map (told_sends g e) old.sessions)) (all_written rest)
      ∙ ap (λ ws. before ++ ws) (sym (map_join written (flat_map (told_sends g e) old.sessions) rest))))

  pub spent_more : kept_spends (after g e) es new.sessions ≡ kept_spends g (e ∷ es) old.sessions
  spent_more =
      ap (λ (n : State Replay). kept_spends (after g e) es n.sessions) told.0
      ∙ ap (λ b. b || kept_spends (after g e) es (map (told_more g e) old.sessions)) (sym told.1.1)

pub spent_first : (g : Record) (e : Edit) (es : List Edit) (old : State Replay) (fault : StepFault) → FailsEach g e old fault → FaultBy (kept_spends g (e ∷ es) old.sessions) fault
spent_first g e es old Memory fails = tt
spent_first g e es old Spent fails = ap (λ b. b || kept_spends (after g e) es (map (told_more g e) old.sessions)) fails
