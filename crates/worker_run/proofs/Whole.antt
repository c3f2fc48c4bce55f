-- A worker from its first turn to its last.
use Rattle.std.proofs.Common.{◌≡◌, ℕ, List, [], ◌∷◌, ◌++◌, ◌||◌, Option, Result, Ok, Err, inl, inr, map, refl, sym, ap, subst, ◌∙◌}
use Rattle.std.specs.List.{list_any}
use Rattle.gate_outside.specs.Clocks.{ClockTale}
use Rattle.gate_outside.specs.Links.{ReturnedLink}
use Rattle.edit_apply.specs.declared.Edit.{Edit}
use Rattle.edit_post.specs.Post.{Sender, after_end}
use Rattle.world_law.specs.Inputs.{Input}
use Rattle.worker_core.specs.declared.io.Input.{Input as Given}
use Rattle.worker_core.specs.InCode.{KeptWorker}
use Rattle.worker_run.specs.Histories.{History, inputs, wishes}
use Rattle.guild_places.specs.Places.{guilds_of}
use Rattle.worker_run.specs.Stopping.{TakesNot}
use Rattle.worker_run.specs.Turns.{AreWholeTurns, AreTurns}
use Rattle.guild_posts.specs.Posts.{AreSent, has_sent_all}
use Rattle.worker_run.specs.Works.{IsSpent}
use Rattle.worker_run.specs.Moves.{Serving, Now, now, GoesOutside, Goes, Halts, Stops, GoesOrStops, AreAllTurns, AreAllTurnsCut}
use Rattle.worker_run.specs.Faults.{DoorFails}
use Rattle.worker_run.specs.Running.{Quietly, Leaves, Runs}
use Rattle.worker_run.specs.declared.fault.WorkFault.{WorkFault}
use Rattle.worker_run.specs.declared.fault.WorkFault.TheVariants as fault
use Rattle.worker_run.proofs.Composing.{Went, Stopped, guilds_after}
use Rattle.worker_run.proofs.Histories.{inputs_join}
use Rattle.worker_run.proofs.Readying.{Fails}
use Rattle.worker_run.proofs.Shapes.{turns_join, turns_then, turns_of_whole}
use Rattle.worker_run.proofs.Turning.{goes_on, stops_on}
use Rattle.guild_posts.proofs.Sent.{sent_none}

-- an input that is not taken has no fault of a door
pub not_of_door : (i : Input) (k : KeptWorker) (a b : Option (List Given)) (f : WorkFault) (faults : ℕ) → TakesNot i k a b f → Fails faults faults f
not_of_door i k a b fault.Spent faults why = refl
not_of_door i k a b fault.Memory faults why = refl
not_of_door i k a b fault.Door faults why = absurd why
not_of_door i k a b fault.Quit faults why = absurd why

-- ---- passes that end

abbrev pub after_ends : Serving → Serving
after_ends s = record s { passes = map after_end s.passes }

-- they have sent as much as before
sent_as_before : (ps : List Sender) → list_any has_sent_all (map after_end ps) ≡ list_any has_sent_all ps
sent_as_before [] = refl
sent_as_before (p ∷ ps) = ap (λ b. has_sent_all p || b) (sent_as_before ps)

spent_ended : (h : History) (k : KeptWorker) (ps : List Sender) → IsSpent h k ps → IsSpent h k (map after_end ps)
spent_ended h k ps (inl spent) = inl spent
spent_ended h k ps (inr refused) = inr (sent_as_before ps ∙ refused)

spent_unended : (h : History) (k : KeptWorker) (ps : List Sender) → IsSpent h k (map after_end ps) → IsSpent h k ps
spent_unended h k ps (inl spent) = inl spent
spent_unended h k ps (inr refused) = inr (sym (sent_as_before ps) ∙ refused)

stops_outside : (h : History) (f : WorkFault) (a b : Now) → Stops h f a b → GoesOutside h a b
stops_outside h fault.Door a b stops = stops.outside
stops_outside h fault.Quit a b stops = stops.0.outside
stops_outside h fault.Spent a b stops = stops.0.outside
stops_outside h fault.Memory a b stops = stops.outside

module _ (a : Now) (s : Serving) (back : Option (List ReturnedLink)) (noted : Option (List Given)) (clock : ClockTale) where
  leaves_stopped : (h : History) (f : WorkFault) → Stops h f a (now s back noted clock) → Leaves h (Err f) a (now (after_ends s) back noted clock)
  leaves_stopped h fault.Door stops = (stops.worker, stops.notes)
  leaves_stopped h fault.Quit stops = (stops.0.worker, (stops.0.notes, stops.1))
  leaves_stopped h fault.Spent stops = (stops.0.worker, (stops.0.notes, spent_ended h a.serving.worker s.passes stops.1))
  leaves_stopped h fault.Memory stops = (stops.worker, stops.notes)

  runs_by : (h : History) (r : Result (Unit {0}) WorkFault) → AreTurns (guilds_of a.serving.readers) (inputs h) → GoesOutside h a (now s back noted clock)
      → Leaves h r a (now (after_ends s) back noted clock) → Runs h r a (now (after_ends s) back noted clock)
  runs_by h r turns outside leaves = record {
    turns = turns;
    links = outside.links;
    readers = outside.readers;
    clock = outside.clock;
    sent = s.passes;
    wishes = outside.passes;
    passes = refl;
    leaves = leaves;
  }

  -- all turns, and then the passes end
  runs_whole : (u : Unit {0}) → Went (AreAllTurns (guilds_of a.serving.readers)) a (now s back noted clock) → (h : History) × Runs h (Ok u) a (now (after_ends s) back noted clock)
  runs_whole u went =
      let h : History = went.0 in
      (h, runs_by h (Ok u) (turns_of_whole (guilds_of a.serving.readers) (inputs h) went.1.1) went.1.0.outside (went.1.0.worker, went.1.0.notes))

  -- turns until a fault, and then the passes end
  runs_stopped : (f : WorkFault) → Stopped (AreAllTurnsCut (guilds_of a.serving.readers)) f a (now s back noted clock) → (h : History) × Runs h (Err f) a (now (after_ends s) back noted clock)
  runs_stopped f stopped =
      let h : History = stopped.0 in
      (h, runs_by h (Err f) stopped.1.1 (stops_outside h f a (now s back noted clock) stopped.1.0) (leaves_stopped h f stopped.1.0))

-- a fault before the last connection has ended
pub runs_cut : (a : Now) (s t : Serving) (back : Option (List ReturnedLink)) (noted : Option (List Given)) (clock : ClockTale) (r served : Result (Unit {0}) WorkFault) (f : WorkFault)
    → r ≡ Err f → served ≡ Err f → t ≡ after_ends s
    → GoesOrStops (AreAllTurns (guilds_of a.serving.readers)) (AreAllTurnsCut (guilds_of a.serving.readers)) served a (now s back noted clock)
    → (h : History) × Runs h r a (now t back noted clock)
runs_cut a s t back noted clock r served f is was ended goes =
    let gs : List ℕ = guilds_of a.serving.readers in
    let stopped = subst (λ (q : Result (Unit {0}) WorkFault). GoesOrStops (AreAllTurns gs) (AreAllTurnsCut gs) q a (now s back noted clock)) was goes in
    subst (λ (q : Result (Unit {0}) WorkFault). (h : History) × Runs h q a (now t back noted clock)) (sym is)
    (subst (λ (v : Serving). (h : History) × Runs h (Err f) a (now v back noted clock)) (sym ended) (runs_stopped a s back noted clock f stopped))

-- ---- turns after the last connection, whose passes have ended

-- without wishes they go the same if the passes have not ended
module _ (h : History) (s u : Serving) (back : Option (List ReturnedLink)) (m n : Option (List Given)) (c e : ClockTale) (none : wishes h ≡ []) (passes : u.passes ≡ s.passes) where
  unended_outside : GoesOutside h (now (after_ends s) back m c) (now (after_ends u) back n e) → GoesOutside h (now s back m c) (now u back n e)
  unended_outside outside = record {
    links = outside.links;
    readers = outside.readers;
    passes =
        subst (λ (ps : List Sender). AreSent (guilds_of s.readers) (wishes h) s.passes ps) (sym passes)
        (subst (λ (ws : List (ℕ × Edit)). AreSent (guilds_of s.readers) ws s.passes s.passes) (sym none) (sent_none (guilds_of s.readers) s.passes));
    clock = outside.clock;
  }

  unended_goes : Goes h (now (after_ends s) back m c) (now (after_ends u) back n e) → Goes h (now s back m c) (now u back n e)
  unended_goes goes = record { outside = unended_outside goes.outside; worker = goes.worker; notes = goes.notes }

  unended_halts : Halts h (now (after_ends s) back m c) (now (after_ends u) back n e) → Halts h (now s back m c) (now u back n e)
  unended_halts halts = record { outside = unended_outside halts.outside; worker = halts.worker; notes = halts.notes }

  unended_stops : (f : WorkFault) → Stops h f (now (after_ends s) back m c) (now (after_ends u) back n e) → Stops h f (now s back m c) (now u back n e)
  unended_stops fault.Door stops = unended_goes stops
  unended_stops fault.Quit stops = (unended_goes stops.0, stops.1)
  unended_stops fault.Spent stops = (unended_halts stops.0, spent_unended h s.worker u.passes stops.1)
  unended_stops fault.Memory stops = unended_halts stops

module _ (a : Now) (s t : Serving) (back : Option (List ReturnedLink)) (m n : Option (List Given)) (c e : ClockTale)
    (first : Went (AreAllTurns (guilds_of a.serving.readers)) a (now s back m c)) (same : t ≡ record (after_ends s) { worker = t.worker; readers = t.readers }) where
  -- where all has come to, but for the passes
  abbrev unended : Serving
  unended = record s { worker = t.worker; readers = t.readers }

  guilds_stay : guilds_of s.readers ≡ guilds_of a.serving.readers
  guilds_stay = guilds_after first.0 a (now s back m c) first.1.0

  whole_on : Went (Quietly (AreAllTurns (guilds_of s.readers))) (now (after_ends s) back m c) (now t back n e) → Went (AreAllTurns (guilds_of a.serving.readers)) a (now unended back n e)
  whole_on went =
      let gs : List ℕ = guilds_of a.serving.readers in
      let h : History = first.0 in
      let k : History = went.0 in
      let later : Goes k (now (after_ends s) back m c) (now (after_ends unended) back n e) = subst (λ (v : Serving). Goes k (now (after_ends s) back m c) (now v back n e)) same went.1.0 in
      let turns : AreWholeTurns gs (inputs k) = subst (λ (l : List ℕ). AreWholeTurns l (inputs k)) guilds_stay went.1.1.1 in (
        h ++ k,
        (
          goes_on h k a (now s back m c) (now unended back n e) first.1.0 (unended_goes k s unended back m n c e went.1.1.0.wishes refl later),
          subst (λ (is : List Input). AreWholeTurns gs is) (sym (inputs_join h k)) (turns_join gs (inputs h) (inputs k) first.1.1 turns),
        ),
      )

  stopped_on : (f : WorkFault) → Stopped (Quietly (AreAllTurnsCut (guilds_of s.readers))) f (now (after_ends s) back m c) (now t back n e) → Stopped (AreAllTurnsCut (guilds_of a.serving.readers)) f a (now unended back n e)
  stopped_on f stopped =
      let gs : List ℕ = guilds_of a.serving.readers in
      let h : History = first.0 in
      let k : History = stopped.0 in
      let later : Stops k f (now (after_ends s) back m c) (now (after_ends unended) back n e) = subst (λ (v : Serving). Stops k f (now (after_ends s) back m c) (now v back n e)) same stopped.1.0 in
      let turns : AreTurns gs (inputs k) = subst (λ (l : List ℕ). AreTurns l (inputs k)) guilds_stay stopped.1.1.1 in (
        h ++ k,
        (
          stops_on h k f a (now s back m c) (now unended back n e) first.1.0 (unended_stops k s unended back m n c e stopped.1.1.0.wishes refl f later),
          subst (λ (is : List Input). AreTurns gs is) (sym (inputs_join h k)) (turns_then gs (inputs h) (inputs k) first.1.1 turns),
        ),
      )

  runs_on : (r : Result (Unit {0}) WorkFault)
      → GoesOrStops (Quietly (AreAllTurns (guilds_of s.readers))) (Quietly (AreAllTurnsCut (guilds_of s.readers))) r (now (after_ends s) back m c) (now t back n e)
      → (h : History) × Runs h r a (now t back n e)
  runs_on (Ok u) went =
      subst (λ (v : Serving). (h : History) × Runs h (Ok u) a (now v back n e)) (sym same) (runs_whole a unended back n e u (whole_on went))
  runs_on (Err f) stopped =
      subst (λ (v : Serving). (h : History) × Runs h (Err f) a (now v back n e)) (sym same) (runs_stopped a unended back n e f (stopped_on f stopped))

-- turns to the last connection, and turns after it
pub runs_all : (a : Now) (s ended t : Serving) (back : Option (List ReturnedLink)) (m n : Option (List Given)) (c e : ClockTale) (served : Result (Unit {0}) WorkFault) (u : Unit {0}) (r : Result (Unit {0}) WorkFault)
    → served ≡ Ok u → ended ≡ after_ends s → t ≡ record ended { worker = t.worker; readers = t.readers }
    → GoesOrStops (AreAllTurns (guilds_of a.serving.readers)) (AreAllTurnsCut (guilds_of a.serving.readers)) served a (now s back m c)
    → GoesOrStops (Quietly (AreAllTurns (guilds_of ended.readers))) (Quietly (AreAllTurnsCut (guilds_of ended.readers))) r (now ended back m c) (now t back n e)
    → (h : History) × Runs h r a (now t back n e)
runs_all a s ended t back m n c e served u r was is same goes later =
    let gs : List ℕ = guilds_of a.serving.readers in
    runs_on a s t back m n c e
    (subst (λ (q : Result (Unit {0}) WorkFault). GoesOrStops (AreAllTurns gs) (AreAllTurnsCut gs) q a (now s back m c)) was goes)
    (subst (λ (v : Serving). t ≡ record v { worker = t.worker; readers = t.readers }) is same) r
    (subst (λ (v : Serving). GoesOrStops (Quietly (AreAllTurns (guilds_of v.readers))) (Quietly (AreAllTurnsCut (guilds_of v.readers))) r (now v back m c) (now t back n e)) is later)

-- the count of a door's faults stays after the last connection
pub cause_on : (first last : ℕ) (served : Result (Unit {0}) WorkFault) (u : Unit {0}) (r : Result (Unit {0}) WorkFault) → served ≡ Ok u → DoorFails first last served → DoorFails last last r → DoorFails first last r
cause_on first last served u r was stays fails =
    let same : last ≡ first = subst (λ (q : Result (Unit {0}) WorkFault). DoorFails first last q) was stays in
    subst (λ n. DoorFails n last r) same fails
