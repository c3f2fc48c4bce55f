-- The parts of a turn, and turns, one after another.
use Rattle.std.proofs.Common.{◌≡◌, ℕ, ◌+◌, ◌<◌, ◌≤◌, List, [], ◌∷◌, ◌++◌, Some, All, map, take, length, slice_get, append-nil, refl, sym, ap, subst, arith}
use Rattle.std.proofs.lemmas.List.{take_all}
use Rattle.guild_hub.specs.Sights.{Seeing}
use Rattle.world_law.specs.Inputs.{Input}
use Rattle.worker_run.specs.Histories.{History, inputs}
use Rattle.worker_run.specs.Hubs.{IsReader}
use Rattle.guild_places.specs.Places.{guilds_of}
use Rattle.worker_run.specs.Turns.{IsTurn, IsTurnCut, AreWholeTurns, AreTurns}
use Rattle.worker_run.specs.Moves.{Now, Goes, Stops, kept, AreLooks, AreFirstLooks, IsLookOf, IsLookOfOrNone, IsOneTick, OpensOne, IsHeard, AreHeard, IsOneTurn, IsOneTurnCut, AreAllTurns, AreAllTurnsCut}
use Rattle.worker_run.specs.declared.fault.WorkFault.{WorkFault}
use Rattle.worker_run.specs.declared.fault.WorkFault.TheVariants as fault
use Rattle.worker_run.proofs.Histories.{inputs_join}
use Rattle.worker_run.proofs.Hubs.{same_guilds}
use Rattle.worker_run.proofs.Shapes.{looks_more, looks_stop, cut_looks, cut_of, turn_ticked, turn_opened, turn_whole, no_turns, one_turn, turns_join, turns_cut}
use Rattle.worker_run.proofs.Hearing.{CameBefore, came_none, came_more, came_from}
use Rattle.guild_places.proofs.Guilds.{many}
use Rattle.worker_run.proofs.Turning.{goes_none, goes_on, stops_on, halts_after}

-- a part that went by a history of this shape
abbrev pub Went : (History → Type 0) → Now → Now → Type 0
Went P a b = (h : History) × (Goes h a b × P h)

-- a part that stopped after one
abbrev pub Stopped : (History → Type 0) → WorkFault → Now → Now → Type 0
Stopped P f a b = (h : History) × (Stops h f a b × P h)

-- the guilds stay
pub guilds_after : (h : History) (a b : Now) → Goes h a b → guilds_of b.serving.readers ≡ guilds_of a.serving.readers
guilds_after h a b goes = same_guilds (inputs h) a.serving.readers b.serving.readers goes.outside.readers

-- ---- looks

pub none_taken : (guilds : List ℕ) → take 0 guilds ≡ []
none_taken [] = refl
none_taken (g ∷ guilds) = refl

-- before the first look
pub looks_none : (guilds : List ℕ) (a : Now) → All IsReader a.serving.readers → Went (AreLooks (take 0 guilds)) a a
looks_none guilds a readers = ([], (goes_none a readers, ap (λ (gs : List ℕ). map Some gs) (sym (none_taken guilds))))

-- after the last
pub looks_all : (guilds : List ℕ) (place : ℕ) (a b : Now) → length guilds ≤ place → Went (AreLooks (take place guilds)) a b → Went (AreLooks guilds) a b
looks_all guilds place a b le went = subst (λ (gs : List ℕ). Went (AreLooks gs) a b) (take_all place guilds le) went

-- a place among as many readers
pub as_many : (rs ts : List (ℕ × Seeing)) (place : ℕ) → guilds_of ts ≡ guilds_of rs → place < length rs → place < length ts
as_many rs ts place same lt = omega (arith, many rs, many ts, ap (λ (gs : List ℕ). length gs) same, lt)

pub as_guilds : (rs : List (ℕ × Seeing)) (place : ℕ) → place < length rs → place < length (guilds_of rs)
as_guilds rs place lt = omega (arith, many rs, lt)

pub all_places : (rs : List (ℕ × Seeing)) (count place : ℕ) → count ≡ length rs → count ≤ place → length (guilds_of rs) ≤ place
all_places rs count place same le = omega (arith, many rs, same, le)

-- the look at one hub more
pub looks_on : (guilds gs : List ℕ) (place : ℕ) (a b c : Now) → place < length guilds → gs ≡ guilds → Went (AreLooks (take place guilds)) a b → Went (IsLookOf (slice_get gs place)) b c → Went (AreLooks (take (place + 1) guilds)) a c
looks_on guilds gs place a b c lt same first second = (
  first.0 ++ second.0,
  (
    goes_on first.0 second.0 a b c first.1.0 second.1.0,
    looks_more guilds place first.0 second.0 lt first.1.1 (subst (λ (l : List ℕ). IsLookOf (slice_get l place) second.0) same second.1.1),
  ),
)

pub looks_stopped : (guilds gs : List ℕ) (place : ℕ) (f : WorkFault) (a b c : Now) → place < length guilds → gs ≡ guilds → Went (AreLooks (take place guilds)) a b → Stopped (IsLookOfOrNone (slice_get gs place)) f b c → Stopped (AreFirstLooks guilds) f a c
looks_stopped guilds gs place f a b c lt same first second = (
  first.0 ++ second.0,
  (
    stops_on first.0 second.0 f a b c first.1.0 second.1.0,
    looks_stop guilds place first.0 second.0 lt first.1.1 (subst (λ (l : List ℕ). IsLookOfOrNone (slice_get l place) second.0) same second.1.1),
  ),
)

-- ---- what comes over connections

pub heard_init : (a : Now) → All IsReader a.serving.readers → Went (λ h. CameBefore 0 (kept h)) a a
heard_init a readers = ([], (goes_none a readers, came_none))

pub heard_on : (from conn : ℕ) (a b c : Now) → from ≤ conn → Went (λ h. CameBefore from (kept h)) a b → Went (IsHeard conn) b c → Went (λ h. CameBefore (conn + 1) (kept h)) a c
heard_on from conn a b c le first second =
    (first.0 ++ second.0, (goes_on first.0 second.0 a b c first.1.0 second.1.0, came_more from conn first.0 second.0 le first.1.1 second.1.1))

pub heard_stopped : (from conn : ℕ) (f : WorkFault) (a b c : Now) → from ≤ conn → Went (λ h. CameBefore from (kept h)) a b → Stopped (IsHeard conn) f b c → Stopped AreHeard f a c
heard_stopped from conn f a b c le first second =
    (first.0 ++ second.0, (stops_on first.0 second.0 f a b c first.1.0 second.1.0, came_from (conn + 1) (kept (first.0 ++ second.0)) (came_more from conn first.0 second.0 le first.1.1 second.1.1)))

-- memory ran out before a link was asked
pub heard_halted : (from : ℕ) (a b c : Now) → Went (λ h. CameBefore from (kept h)) a b → Goes [] b c → Stopped AreHeard fault.Memory a c
heard_halted from a b c went still =
    (went.0 ++ [], (halts_after (went.0 ++ []) a c (goes_on went.0 [] a b c went.1.0 still), subst (λ (h : History). AreHeard h) (sym (append-nil went.0)) (came_from from (kept went.0) went.1.1)))

-- no link was left to ask
pub heard_last : (from : ℕ) (a b c : Now) → Went (λ h. CameBefore from (kept h)) a b → Goes [] b c → Went AreHeard a c
heard_last from a b c went still =
    (went.0 ++ [], (goes_on went.0 [] a b c went.1.0 still, subst (λ (h : History). AreHeard h) (sym (append-nil went.0)) (came_from from (kept went.0) went.1.1)))

pub heard_all : (from : ℕ) (a b : Now) → Went (λ h. CameBefore from (kept h)) a b → Went AreHeard a b
heard_all from a b went = (went.0, (went.1.0, came_from from (kept went.0) went.1.1))

-- ---- a turn

module _ (guilds : List ℕ) (a b : Now) where
  pub stopped_looks : (f : WorkFault) → Stopped (AreFirstLooks guilds) f a b → Stopped (IsOneTurnCut guilds) f a b
  stopped_looks f looks = (looks.0, (looks.1.0, cut_looks guilds looks.0 looks.1.1))

  module _ (looks : Went (AreLooks guilds) a b) (c : Now) where
    pub stopped_tick : (f : WorkFault) → Stopped IsOneTick f b c → Stopped (IsOneTurnCut guilds) f a c
    stopped_tick f tick = (
      looks.0 ++ tick.0,
      (
        stops_on looks.0 tick.0 f a b c looks.1.0 tick.1.0,
        cut_of guilds (kept (looks.0 ++ tick.0)) (turn_ticked guilds looks.0 tick.0 tick.1.1.0 looks.1.1 tick.1.1.1),
      ),
    )

    module _ (tick : Went IsOneTick b c) (d : Now) where
      abbrev ticked : History
      ticked = looks.0 ++ tick.0

      goes_ticked : Goes ticked a c
      goes_ticked = goes_on looks.0 tick.0 a b c looks.1.0 tick.1.0

      pub stopped_opens : (f : WorkFault) → Stopped OpensOne f c d → Stopped (IsOneTurnCut guilds) f a d
      stopped_opens f opens = (
        ticked ++ opens.0,
        (
          stops_on ticked opens.0 f a c d goes_ticked opens.1.0,
          cut_of guilds (kept (ticked ++ opens.0)) (turn_opened guilds looks.0 tick.0 tick.1.1.0 looks.1.1 tick.1.1.1 opens.0 opens.1.1),
        ),
      )

      module _ (opens : Went OpensOne c d) (e : Now) where
        abbrev opened : History
        opened = ticked ++ opens.0

        goes_opened : Goes opened a d
        goes_opened = goes_on ticked opens.0 a c d goes_ticked opens.1.0

        pub stopped_heard : (f : WorkFault) → Stopped AreHeard f d e → Stopped (IsOneTurnCut guilds) f a e
        stopped_heard f heard = (
          opened ++ heard.0,
          (
            stops_on opened heard.0 f a d e goes_opened heard.1.0,
            cut_of guilds (kept (opened ++ heard.0)) (turn_whole guilds looks.0 tick.0 tick.1.1.0 looks.1.1 tick.1.1.1 opens.0 opens.1.1 heard.0 heard.1.1),
          ),
        )

        pub went_whole : Went AreHeard d e → Went (IsOneTurn guilds) a e
        went_whole heard = (
          opened ++ heard.0,
          (
            goes_on opened heard.0 a d e goes_opened heard.1.0,
            turn_whole guilds looks.0 tick.0 tick.1.1.0 looks.1.1 tick.1.1.1 opens.0 opens.1.1 heard.0 heard.1.1,
          ),
        )

-- ---- turns

pub turns_on : (guilds gs : List ℕ) (a b c : Now) → gs ≡ guilds → Went (AreAllTurns guilds) a b → Went (IsOneTurn gs) b c → Went (AreAllTurns guilds) a c
turns_on guilds gs a b c same first second = (
  first.0 ++ second.0,
  (
    goes_on first.0 second.0 a b c first.1.0 second.1.0,
    subst (λ (is : List Input). AreWholeTurns guilds is) (sym (inputs_join first.0 second.0))
        (turns_join guilds (inputs first.0) (inputs second.0) first.1.1 (one_turn guilds (inputs second.0) (subst (λ (l : List ℕ). IsTurn l (kept second.0)) same second.1.1))),
  ),
)

pub turns_stopped : (guilds gs : List ℕ) (f : WorkFault) (a b c : Now) → gs ≡ guilds → Went (AreAllTurns guilds) a b → Stopped (IsOneTurnCut gs) f b c → Stopped (AreAllTurnsCut guilds) f a c
turns_stopped guilds gs f a b c same first second = (
  first.0 ++ second.0,
  (
    stops_on first.0 second.0 f a b c first.1.0 second.1.0,
    subst (λ (is : List Input). AreTurns guilds is) (sym (inputs_join first.0 second.0))
        (turns_cut guilds (inputs first.0) (inputs second.0) first.1.1 (subst (λ (l : List ℕ). IsTurnCut l (kept second.0)) same second.1.1)),
  ),
)

-- before the first turn
pub turns_none : (guilds : List ℕ) (a : Now) → All IsReader a.serving.readers → Went (AreAllTurns guilds) a a
turns_none guilds a readers = ([], (goes_none a readers, no_turns guilds))
