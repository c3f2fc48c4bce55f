-- The looks and turns after the last connection, one after another.
use Rattle.std.proofs.Common.{◌≡◌, ℕ, ◌+◌, ◌<◌, ◌≤◌, List, [], ◌++◌, Option, Some, All, map, take, length, slice_get, refl, sym, ap, subst, ◌∙◌}
use Rattle.std.proofs.lemmas.List.{take_all}
use Rattle.gate_outside.specs.Clocks.{ClockTale, Ticks}
use Rattle.gate_outside.specs.Links.{ReturnedLink}
use Rattle.world_law.specs.Inputs.{Input, Tick}
use Rattle.worker_core.specs.declared.io.Input.{Input as Given}
use Rattle.worker_run.specs.declared.fault.WorkFault.{WorkFault}
use Rattle.worker_run.specs.Histories.{History, inputs}
use Rattle.worker_run.specs.Hubs.{IsReader}
use Rattle.worker_run.specs.Running.{Quietly, TakesQuietly}
use Rattle.worker_run.specs.Stopping.{TakesNot}
use Rattle.worker_run.specs.Turns.{IsTurn, IsTurnCut, AreWholeTurns, AreTurns}
use Rattle.worker_run.specs.Moves.{Serving, Now, now, kept, AreLooks, AreFirstLooks, IsLookOf, IsLookOfOrNone, IsOneTick, IsOneTurn, IsOneTurnCut, AreAllTurns, AreAllTurnsCut}
use Rattle.worker_run.proofs.Composing.{Went, Stopped, none_taken}
use Rattle.worker_run.proofs.Histories.{inputs_join}
use Rattle.worker_run.proofs.Shapes.{one_kept, looks_more, looks_stop, cut_looks, cut_of, turn_ticked, no_turns, one_turn, turns_join, turns_cut}
use Rattle.worker_run.proofs.Silence.{quiet_none, quietly_on, goes_quietly, stops_quietly}
use Rattle.open_links.proofs.Composing.{goes_by_nothing}
use Rattle.worker_run.proofs.Turning.{Comes, goes_none, goes_on, stops_on, comes_by}

-- all but the worker and the readers stays
pub same_on : (s t u : Serving) → t ≡ record s { worker = t.worker; readers = t.readers } → u ≡ record t { worker = u.worker; readers = u.readers } → u ≡ record s { worker = u.worker; readers = u.readers }
same_on s t u first second = second ∙ ap (λ (v : Serving). record v { worker = u.worker; readers = u.readers }) first

pub none_open : (s t : Serving) → t ≡ record s { worker = t.worker; readers = t.readers } → s.links.links ≡ [] → t.links.links ≡ []
none_open s t same none = ap (λ (v : Serving). v.links.links) same ∙ none

-- a part after another
went_on : (P Q R : History → Type 0) (a b c : Now) → ((h k : History) → P h → Q k → R (h ++ k)) → Went (Quietly P) a b → Went (Quietly Q) b c → Went (Quietly R) a c
went_on P Q R a b c joins first second =
    (first.0 ++ second.0, (goes_on first.0 second.0 a b c first.1.0 second.1.0, quietly_on P Q R first.0 second.0 (joins first.0 second.0) first.1.1 second.1.1))

stopped_on : (P Q R : History → Type 0) (f : WorkFault) (a b c : Now) → ((h k : History) → P h → Q k → R (h ++ k)) → Went (Quietly P) a b → Stopped (Quietly Q) f b c → Stopped (Quietly R) f a c
stopped_on P Q R f a b c joins first second =
    (first.0 ++ second.0, (stops_on first.0 second.0 f a b c first.1.0 second.1.0, quietly_on P Q R first.0 second.0 (joins first.0 second.0) first.1.1 second.1.1))

-- ---- looks

pub quiet_looks_none : (guilds : List ℕ) (a : Now) → All IsReader a.serving.readers → Went (Quietly (AreLooks (take 0 guilds))) a a
quiet_looks_none guilds a readers = ([], (goes_none a readers, (quiet_none, ap (λ (gs : List ℕ). map Some gs) (sym (none_taken guilds)))))

pub quiet_looks_all : (guilds : List ℕ) (place : ℕ) (a b : Now) → length guilds ≤ place → Went (Quietly (AreLooks (take place guilds))) a b → Went (Quietly (AreLooks guilds)) a b
quiet_looks_all guilds place a b le went = subst (λ (gs : List ℕ). Went (Quietly (AreLooks gs)) a b) (take_all place guilds le) went

module _ (guilds gs : List ℕ) (place : ℕ) (lt : place < length guilds) (same : gs ≡ guilds) (a b c : Now) (first : Went (Quietly (AreLooks (take place guilds))) a b) where
  -- the look at one hub more
  pub quiet_looks_on : Went (Quietly (IsLookOf (slice_get gs place))) b c → Went (Quietly (AreLooks (take (place + 1) guilds))) a c
  quiet_looks_on second =
      went_on (AreLooks (take place guilds)) (IsLookOf (slice_get gs place)) (AreLooks (take (place + 1) guilds)) a b c
      (λ h k looks look. looks_more guilds place h k lt looks (subst (λ (l : List ℕ). IsLookOf (slice_get l place) k) same look)) first second

  pub quiet_looks_stopped : (f : WorkFault) → Stopped (Quietly (IsLookOfOrNone (slice_get gs place))) f b c → Stopped (Quietly (AreFirstLooks guilds)) f a c
  quiet_looks_stopped f second =
      stopped_on (AreLooks (take place guilds)) (IsLookOfOrNone (slice_get gs place)) (AreFirstLooks guilds) f a b c
      (λ h k looks look. looks_stop guilds place h k lt looks (subst (λ (l : List ℕ). IsLookOfOrNone (slice_get l place) k) same look)) first second

-- ---- the time

module _ (t u : Serving) (took : u ≡ record t { worker = u.worker }) (none : t.links.links ≡ []) (readers : All IsReader t.readers) (back : Option (List ReturnedLink))
    (m n : Option (List Given)) (before after : ClockTale) (moment : ℕ) (ticks : Ticks before after moment) where
  abbrev unticked : Now
  unticked = now t back m before

  abbrev ticked_now : Now
  ticked_now = now u back n after

  comes : Comes (Tick moment) unticked (now t back m after)
  comes = comes_by (Tick moment) unticked (now t back m after) refl readers refl refl refl refl (after, (ticks, refl))

  pub quiet_tick_goes : (h : History) → TakesQuietly (Tick moment) h t.worker u.worker m n → Went (Quietly IsOneTick) unticked ticked_now
  quiet_tick_goes h takes =
      goes_quietly (Tick moment) after t u back m n took none IsOneTick unticked comes (goes_by_nothing t.links back) readers (λ k losses. (moment, one_kept (Tick moment) k refl losses)) h takes

  pub quiet_tick_stops : (f : WorkFault) → TakesNot (Tick moment) t.worker m n f → Stopped (Quietly IsOneTick) f unticked ticked_now
  quiet_tick_stops f not =
      stops_quietly (Tick moment) after t u back m n took none IsOneTick unticked comes (goes_by_nothing t.links back) readers (λ k losses. (moment, one_kept (Tick moment) k refl losses)) refl f not

-- ---- a turn

module _ (guilds : List ℕ) (a b : Now) where
  pub quiet_stopped_looks : (f : WorkFault) → Stopped (Quietly (AreFirstLooks guilds)) f a b → Stopped (Quietly (IsOneTurnCut guilds)) f a b
  quiet_stopped_looks f looks = (looks.0, (looks.1.0, (looks.1.1.0, cut_looks guilds looks.0 looks.1.1.1)))

  module _ (c : Now) (looks : Went (Quietly (AreLooks guilds)) a b) where
    pub quiet_turn : Went (Quietly IsOneTick) b c → Went (Quietly (IsOneTurn guilds)) a c
    quiet_turn tick = went_on (AreLooks guilds) IsOneTick (IsOneTurn guilds) a b c (λ h k each time. turn_ticked guilds h k time.0 each time.1) looks tick

    pub quiet_stopped_tick : (f : WorkFault) → Stopped (Quietly IsOneTick) f b c → Stopped (Quietly (IsOneTurnCut guilds)) f a c
    quiet_stopped_tick f tick =
        stopped_on (AreLooks guilds) IsOneTick (IsOneTurnCut guilds) f a b c (λ h k each time. cut_of guilds (kept (h ++ k)) (turn_ticked guilds h k time.0 each time.1)) looks tick

-- ---- turns

pub quiet_turns_none : (guilds : List ℕ) (a : Now) → All IsReader a.serving.readers → Went (Quietly (AreAllTurns guilds)) a a
quiet_turns_none guilds a readers = ([], (goes_none a readers, (quiet_none, no_turns guilds)))

module _ (guilds gs : List ℕ) (same : gs ≡ guilds) (a b c : Now) (first : Went (Quietly (AreAllTurns guilds)) a b) where
  pub quiet_turns_on : Went (Quietly (IsOneTurn gs)) b c → Went (Quietly (AreAllTurns guilds)) a c
  quiet_turns_on second =
      went_on (AreAllTurns guilds) (IsOneTurn gs) (AreAllTurns guilds) a b c
      (λ h k turns turn. subst (λ (is : List Input). AreWholeTurns guilds is) (sym (inputs_join h k))
      (turns_join guilds (inputs h) (inputs k) turns (one_turn guilds (inputs k) (subst (λ (l : List ℕ). IsTurn l (kept k)) same turn))))
      first second

  pub quiet_turns_stopped : (f : WorkFault) → Stopped (Quietly (IsOneTurnCut gs)) f b c → Stopped (Quietly (AreAllTurnsCut guilds)) f a c
  quiet_turns_stopped f second =
      stopped_on (AreAllTurns guilds) (IsOneTurnCut gs) (AreAllTurnsCut guilds) f a b c
      (λ h k turns turn. subst (λ (is : List Input). AreTurns guilds is) (sym (inputs_join h k))
      (turns_cut guilds (inputs h) (inputs k) turns (subst (λ (l : List ℕ). IsTurnCut l (kept k)) same turn)))
      first second
