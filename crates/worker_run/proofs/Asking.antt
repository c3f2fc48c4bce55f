-- What the door and the links are asked, as parts of turns.
use Rattle.std.proofs.Common.{◌≡◌, ℕ, List, [], ◌∷◌, ◌++◌, true, Option, Some, None, All, refl, sym, ap, subst, append-nil}
use Rattle.std.specs.List.{list_all}
use Rattle.gate_outside.specs.declared.faults.Fault.{Fault}
use Rattle.gate_outside.specs.declared.faults.Fault.TheVariants as outside
use Rattle.gate_outside.specs.Clocks.{ClockTale}
use Rattle.gate_outside.specs.Doors.{DoorTale}
use Rattle.gate_outside.specs.Links.{ReturnedLink}
use Rattle.gate_outside.specs.declared.sending.Sending.TheVariants as sending
use Rattle.open_links.specs.Courses.{Events, Opens as OpensEvent, Comes as ComesEvent}
use Rattle.open_links.specs.Links.{Holding, Meets}
use Rattle.open_links.specs.Calls.{GoesBy, MovesBy, is_done}
use Rattle.open_links.proofs.Composing.{goes_by_moves}
use Rattle.guild_hub.specs.Sights.{Seeing}
use Rattle.edit_post.specs.Post.{PostId}
use Rattle.world_law.specs.Inputs.{Input, Open, Frame, Closed}
use Rattle.worker_core.specs.declared.io.Input.{Input as Given}
use Rattle.worker_run.specs.Histories.{History, Took, inputs, events, tick_of}
use Rattle.worker_run.specs.Hubs.{AllRead, IsReader}
use Rattle.worker_run.specs.Turns.{is_loss, looked_at, IsAtMostOneOpen}
use Rattle.worker_run.specs.Works.{Ticked}
use Rattle.worker_run.specs.Moves.{Serving, Now, now, IsReady, IsHeard, OpensOne, Handles, HandlesNot, EndsOutside, EndsBy, EndsNot, Loses, LosesNot}
use Rattle.worker_run.specs.declared.fault.WorkFault.{WorkFault}
use Rattle.worker_run.specs.Faults.{by_door}
use Rattle.worker_run.specs.Parts.{LetsIn}
use Rattle.worker_run.proofs.Hubs.{all_read_none}
use Rattle.worker_run.proofs.Turning.{IsStill, goes_still, halts_after, goes_on, stops_on, Comes, comes_by, ended, ended_not, lost, lost_not}
use Rattle.worker_run.proofs.Shapes.{one_kept}
use Rattle.worker_run.proofs.Hearing.{heard_one, heard_none, links_closed}
use Rattle.worker_run.proofs.Composing.{Went, Stopped}
use Rattle.worker_run.proofs.Readying.{ready_on, goes_handled, stops_handled}

pub moves_none : (a b : Holding) → b ≡ a → MovesBy [] a b
moves_none a b same es before back meets =
    subst (λ (o : Holding). Meets (es ++ []) o before back) (sym same) (subst (λ (l : Events). Meets l a before back) (sym (append-nil es)) meets)

readers_same : (old new : List (ℕ × Seeing)) → new ≡ old → All IsReader old → AllRead [] old new
readers_same old new same readers = subst (λ (rs : List (ℕ × Seeing)). AllRead [] old rs) (sym same) (all_read_none old readers)

-- ---- the door

module _ (conn : Option ℕ) (s t : Serving) (d e : DoorTale) (lets : LetsIn conn s t d e) where
  let_readers : t.readers ≡ s.readers
  let_readers = ap (λ (v : Serving). v.readers) lets.same

  pub let_ready : (posts : List PostId) → IsReady posts s d → IsReady posts t e
  let_ready posts ready =
      ready_on posts [] s t d e (ap (λ (v : Serving). v.passes) lets.same) (readers_same s.readers t.readers let_readers ready.readers) lets.within lets.ended ready

  pub let_goes : (more : Events) → MovesBy more s.links t.links → GoesBy more s.links d.returned t.links e.returned
  let_goes more moves es before meets = subst (λ (back : Option (List ReturnedLink)). Meets (es ++ more) t.links before back) (sym lets.returned) (moves es before d.returned meets)

module _ (s t : Serving) (d e : DoorTale) (noted : Option (List Given)) (clock : ClockTale) (readers : All IsReader s.readers) where
  pub let_none : LetsIn None s t d e → IsStill (now s d.returned noted clock) (now t e.returned noted clock)
  let_none lets = record {
    worker = ap (λ (v : Serving). v.worker) lets.same;
    passes = ap (λ (v : Serving). v.passes) lets.same;
    noted = refl;
    clock = refl;
    links = let_goes None s t d e lets [] lets.links;
    readers = readers_same s.readers t.readers (let_readers None s t d e lets) readers;
  }

  pub let_one : (conn : ℕ) → LetsIn (Some conn) s t d e → Comes (Open conn) (now s d.returned noted clock) (now t e.returned noted clock)
  let_one conn lets =
      comes_by (Open conn) (now s d.returned noted clock) (now t e.returned noted clock) refl readers
      (ap (λ (v : Serving). v.worker) lets.same) (ap (λ (v : Serving). v.passes) lets.same) refl (let_readers (Some conn) s t d e lets) refl

-- ---- the links

module _ (s t : Serving) (same : t ≡ record s { links = t.links }) (back : Option (List ReturnedLink)) (noted : Option (List Given)) (clock : ClockTale) where
  pub asked_none : MovesBy [] s.links t.links → All IsReader s.readers → IsStill (now s back noted clock) (now t back noted clock)
  asked_none moves readers = record {
    worker = ap (λ (v : Serving). v.worker) same;
    passes = ap (λ (v : Serving). v.passes) same;
    noted = refl;
    clock = refl;
    links = goes_by_moves [] s.links t.links back moves;
    readers = readers_same s.readers t.readers (ap (λ (v : Serving). v.readers) same) readers;
  }

  -- what is held, but for what the links were asked
  pub asked_before : now (record t { links = s.links }) back noted clock ≡ now s back noted clock
  asked_before = ap (λ (v : Serving). now (record v { links = s.links }) back noted clock) same

-- what was held before a link was asked
module _ (before : Holding) (s : Serving) (back : Option (List ReturnedLink)) (noted : Option (List Given)) (clock : ClockTale) (readers : All IsReader s.readers) where
  abbrev pub unasked : Now
  unasked = now (record s { links = before }) back noted clock

  pub heard_nothing : MovesBy [] before s.links → IsStill unasked (now s back noted clock)
  heard_nothing moves = record {
    worker = refl;
    passes = refl;
    noted = refl;
    clock = refl;
    links = goes_by_moves [] before s.links back moves;
    readers = all_read_none s.readers readers;
  }

  pub heard_comes : (i : Input) → looked_at i ≡ None → tick_of (Took i) ≡ [] → Comes i unasked (now s back noted clock)
  heard_comes i none untimed =
      comes_by i unasked (now s back noted clock) none readers refl refl refl refl
      (subst (λ (ts : List ℕ). Ticked clock ts clock) (sym untimed) refl)

  module _ (conn : ℕ) (c : Now) where
    abbrev asked : Now
    asked = now s back noted clock

    pub went_nothing : MovesBy [] before s.links → Went (IsHeard conn) unasked asked
    went_nothing moves = ([], (goes_still unasked asked (heard_nothing moves), tt))

    module _ (text : List ℕ) (moves : MovesBy ((conn, ComesEvent (sending.Text text)) ∷ []) before s.links) where
      links_text : GoesBy ((conn, ComesEvent (sending.Text text)) ∷ []) before back s.links back
      links_text = goes_by_moves ((conn, ComesEvent (sending.Text text)) ∷ []) before s.links back moves

      shape_text : (h : History) → list_all is_loss (inputs h) ≡ true → IsHeard conn (Took (Frame conn text) ∷ h)
      shape_text h losses = heard_one (Frame conn text) h conn refl refl losses

      pub went_text : (h : History) → Handles (Frame conn text) h asked c → Went (IsHeard conn) unasked c
      went_text h does = goes_handled (IsHeard conn) (Frame conn text) unasked asked c (heard_comes (Frame conn text) refl refl) links_text readers shape_text h does

      pub stopped_text : (f : WorkFault) (h : History) → HandlesNot (Frame conn text) h f asked c → Stopped (IsHeard conn) f unasked c
      stopped_text f h does = stops_handled (IsHeard conn) (Frame conn text) unasked asked c (heard_comes (Frame conn text) refl refl) links_text readers shape_text f h does

    module _ (code : ℕ) (says : MovesBy ((conn, ComesEvent (sending.Close code)) ∷ []) before s.links × (is_done conn s.links.links ≡ true)) where
      links_over : (h : History) → EndsOutside conn h asked c → GoesBy (events (Took (Closed conn code) ∷ h)) before back c.serving.links c.returned
      links_over h left = links_closed conn code (events h) before s.links c.serving.links back c.returned says.0 says.1 left.links

      shape_over : (h : History) → EndsOutside conn h asked c → IsHeard conn (Took (Closed conn code) ∷ h)
      shape_over h left = heard_one (Closed conn code) h conn refl refl (ap (λ (is : List Input). list_all is_loss is) left.outputs)

      pub went_over : (h : History) → EndsBy conn (Closed conn code) h asked c → Went (IsHeard conn) unasked c
      went_over h does =
          (Took (Closed conn code) ∷ h, (ended (Closed conn code) h unasked asked c (heard_comes (Closed conn code) refl refl) readers conn (links_over h does.outside) does, shape_over h does.outside))

      pub stopped_over : (f : WorkFault) (h : History) → EndsNot conn (Closed conn code) h f asked c → Stopped (IsHeard conn) f unasked c
      stopped_over f h does =
          (Took (Closed conn code) ∷ h, (ended_not (Closed conn code) h unasked asked c (heard_comes (Closed conn code) refl refl) readers conn f (links_over h does.outside) does, shape_over h does.outside))

    module _ (moves : MovesBy [] before s.links) where
      pub went_lost : (h : History) → Loses h asked c → Went (IsHeard conn) unasked c
      went_lost h does = (h, (goes_on [] h unasked asked c (goes_still unasked asked (heard_nothing moves)) (lost h asked c readers does), heard_none h conn does.outside.losses))

      pub stopped_lost : (f : WorkFault) (h : History) → LosesNot h f asked c → Stopped (IsHeard conn) f unasked c
      stopped_lost f h does = (h, (stops_on [] h f unasked asked c (goes_still unasked asked (heard_nothing moves)) (lost_not h asked c readers f does), heard_none h conn does.outside.losses))

-- ---- a new connection

module _ (s t : Serving) (d e : DoorTale) (noted : Option (List Given)) (clock : ClockTale) (readers : All IsReader s.readers) where
  abbrev shut : Now
  shut = now s d.returned noted clock

  abbrev let_now : Now
  let_now = now t e.returned noted clock

  pub opens_none : LetsIn None s t d e → Went OpensOne shut let_now
  opens_none lets = ([], (goes_still shut let_now (let_none s t d e noted clock readers lets), tt))

  pub opens_fails : LetsIn None s t d e → (f : Fault) → Stopped OpensOne (by_door f) shut let_now
  opens_fails lets outside.Failed = opens_none lets
  opens_fails lets outside.Memory = ([], (halts_after [] shut let_now (goes_still shut let_now (let_none s t d e noted clock readers lets)), tt))

  module _ (conn : ℕ) (lets : LetsIn (Some conn) s t d e) (c : Now) where
    let_shape : (h : History) → list_all is_loss (inputs h) ≡ true → OpensOne (Took (Open conn) ∷ h)
    let_shape h losses = subst (λ (is : List Input). IsAtMostOneOpen is) (sym (one_kept (Open conn) h refl losses)) tt

    let_all : All IsReader t.readers
    let_all = subst (λ (rs : List (ℕ × Seeing)). All IsReader rs) (sym (let_readers (Some conn) s t d e lets)) readers

    pub opens_goes : (h : History) → Handles (Open conn) h let_now c → Went OpensOne shut c
    opens_goes h does =
        goes_handled OpensOne (Open conn) shut let_now c (let_one s t d e noted clock readers conn lets)
        (let_goes (Some conn) s t d e lets ((conn, OpensEvent) ∷ []) lets.links) let_all let_shape h does

    pub opens_stops : (f : WorkFault) (h : History) → HandlesNot (Open conn) h f let_now c → Stopped OpensOne f shut c
    opens_stops f h does =
        stops_handled OpensOne (Open conn) shut let_now c (let_one s t d e noted clock readers conn lets)
        (let_goes (Some conn) s t d e lets ((conn, OpensEvent) ∷ []) lets.links) let_all let_shape f h does
