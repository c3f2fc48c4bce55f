-- Slots and the workers that they represent.
use Rattle.std.proofs.Common.{◌≡◌, ℕ, zero, suc, ◌+◌, ◌-◌, ◌<◌, ◌≤◌, List, [], ◌∷◌, ◌++◌, Bool, true, false, Option, Some, None, Result, Ok, Err, MatchResult, if◌then◌else◌, length, get_or, set, refl, sym, ap, ◌∙◌, subst, append-nil, arith}
use Rattle.std.specs.Prelude.{◌==◌, ◌||◌, drop, nat_lt, max}
use Rattle.std.proofs.lemmas.Bool.Decides.{nat_tests}
use Rattle.std.proofs.lemmas.List.{length-append, length-drop}
use Rattle.std.proofs.lemmas.Bool.{eqb-true}
use Rattle.std.proofs.lemmas.Option.{same_Some}
use Rattle.collections.specs.ById.{find_id, put_id}
use Rattle.collections.proofs.Finds.{find-put}
use Rattle.dispatch_types.specs.Fold.{contains}
use Rattle.edit_apply.specs.declared.Edit.{Edit}
use Rattle.dispatch_types.specs.declared.viewer.Viewer.{Viewer}
use Rattle.session_core.specs.declared.bot.Bot.{Bot}
use Rattle.session_core.specs.State.{State, Session, Detached, opened, has_connection, with_connection, gone}
use Rattle.session_core.specs.Ends.{is_final, silent_of, lost, all_gone, left, client_closed}
use Rattle.session_core.specs.Frames.{Want, Members, Presence, Voice, Move, Nothing, Answers, ClosesWith, Begins, Denies, Resumes, Wants, framed as with_frame}
use Rattle.world_law.specs.Model.{Worker, cursors, record_of}
use Rattle.world_law.specs.Inputs.{Input, Look, Rebase, Open, Frame, Lost, Closed, Tick, taken, outputs}
use Rattle.world_law.specs.Sent.{ended_at, Sent}
use Rattle.world_law.specs.Looks.{looked, looked_by, rebased_by, entered}
use Rattle.world_law.specs.World.{base_of, lags, look_at}
use Rattle.world_law.specs.Greeting.{begins_with}
use Rattle.world_law.specs.Wants.{after_want}
use Rattle.world_law.specs.Frames.{after_move, move_at}
use Rattle.world_law.specs.Spent.{spends}
use Rattle.world_law.proofs.Found.{here_found}
use Rattle.guild_model.specs.Record.{Record}
use Rattle.edit_apply.specs.Edits.{after}
use Rattle.worker_core.specs.declared.io.Input.{Input as Given}
use Rattle.worker_core.specs.declared.io.Input.TheVariants as given
use Rattle.worker_core.specs.InCode.{wire_text, wire_model}
use Rattle.worker_core.specs.Outputs.{IsGiven, all_written}
use Rattle.worker_core.specs.Represents.{FaultBy}
use Rattle.worker_core.specs.Represents.{Represents as WorkerRepresents, StepsTo}
use Rattle.worker_core.specs.declared.io.StepFault.{StepFault}
use Rattle.worker_core.specs.declared.io.Output.{Output as Written}
use Rattle.world_law.proofs.Worlds.{looked_seen}
use Rattle.scenario.specs.declared.lagged.Lagged.{Lagged}
use Rattle.scenario.specs.declared.worker_slot.WorkerSlot.{WorkerSlot}
use Rattle.scenario.specs.Server.{for_worker, given_sends, given_spends, worker_id, lag_of}
use Rattle.scenario.specs.Represents.{SlotSteps, SlotFails, SlotsStep, SlotsFail, SlotRepresents, SlotsRepresent, moved, all_moved, all_sends, any_spends, cursor_id, cursor_value, cursor_at, is_look, calm_of}

differ : (a b : ℕ) → a < b → (a == b) ≡ false
differ a b h = grind (arith, nat_tests)

differ_below : (a b : ℕ) → b < a → (a == b) ≡ false
differ_below a b h = grind (arith, nat_tests)

same : (a : ℕ) → (a == a) ≡ true
same a = grind (arith, nat_tests)

-- ---- one worker among them

module _ (gs : List ℕ) (m : ℕ) (f : Worker → Input) where
  -- what is given to the worker of this number
  abbrev pub one_given : Worker → Option Input
  one_given w = for_worker m (f w) w

  not_given : (w : Worker) → (w.core.worker == m) ≡ false → one_given w ≡ None
  not_given w e = ap (λ b. if b then Some (f w) else None) e

  is_given : (w : Worker) → (w.core.worker == m) ≡ true → one_given w ≡ Some (f w)
  is_given w e = ap (λ b. if b then Some (f w) else None) e

  -- nothing comes to workers of other numbers
  pub record Stay (ws : List Worker) : Type 0 where
    pub moves : all_moved one_given ws ≡ ws
    pub sends : all_sends one_given ws ≡ []
    pub spends : any_spends one_given ws ≡ false
    pub absent : find_id worker_id m ws ≡ None

  stay_more : (w : Worker) (ws : List Worker) → (w.core.worker == m) ≡ false → Stay ws → Stay (w ∷ ws)
  stay_more w ws e rest =
      let none : one_given w ≡ None = not_given w e in
      record {
        moves = ap (λ o. moved w o ∷ all_moved one_given ws) none ∙ ap (λ vs. w ∷ vs) rest.moves;
        sends = ap (λ o. given_sends w o ++ all_sends one_given ws) none ∙ rest.sends;
        spends = ap (λ o. given_spends w o || any_spends one_given ws) none ∙ rest.spends;
        absent = ap (λ b. if b then Some w else find_id worker_id m ws) e ∙ rest.absent;
      }

  pub others_stay : (ks : List WorkerSlot) (ws : List Worker) (j : ℕ) → SlotsRepresent gs j ks ws → m < j → Stay ws
  others_stay [] [] j sit h = record { moves = refl; sends = refl; spends = refl; absent = refl }
  others_stay [] (w ∷ ws) j sit h = absurd sit
  others_stay (k ∷ ks) [] j sit h = absurd sit
  others_stay (k ∷ ks) (w ∷ ws) j sit h =
      stay_more w ws (ap (λ n. n == m) sit.0.number ∙ differ_below j m h) (others_stay ks ws (j + 1) sit.1 (omega arith))

  pub none_there : (ks : List WorkerSlot) (ws : List Worker) (j : ℕ) → SlotsRepresent gs j ks ws → j + length ks ≤ m → Stay ws
  none_there [] [] j sit h = record { moves = refl; sends = refl; spends = refl; absent = refl }
  none_there [] (w ∷ ws) j sit h = absurd sit
  none_there (k ∷ ks) [] j sit h = absurd sit
  none_there (k ∷ ks) (w ∷ ws) j sit h =
      stay_more w ws (ap (λ n. n == m) sit.0.number ∙ differ j m (omega arith)) (none_there ks ws (j + 1) sit.1 (omega arith))

  -- the worker of this number
  pub record Found (i n : ℕ) (ks : List WorkerSlot) (ws : List Worker) (d : WorkerSlot) : Type 0 where
    pub one : Worker
    pub sits : SlotRepresents gs m (get_or ks n d) one
    pub finds : find_id worker_id m ws ≡ Some one
    pub sends : all_sends one_given ws ≡ outputs wire_model one (f one)
    pub spends : any_spends one_given ws ≡ spends wire_model one (f one)
    pub moves : (k : WorkerSlot) → SlotRepresents gs m k (taken wire_model one (f one)) → SlotsRepresent gs i (set ks n k) (all_moved one_given ws)

  false_or : (b : Bool) → (b || false) ≡ b
  false_or true = refl
  false_or false = refl

  pub found : (ks : List WorkerSlot) (ws : List Worker) (i n : ℕ) (d : WorkerSlot) → m ≡ i + n → n < length ks → SlotsRepresent gs i ks ws → Found i n ks ws d
  found [] ws i n d is h sit = absurd (omega arith)
  found (k ∷ ks) [] i n d is h sit = absurd sit
  found (k ∷ ks) (w ∷ ws) i zero d is h sit =
      let here : m ≡ i = omega arith in
      let it : (w.core.worker == m) ≡ true = ap (λ n. n == m) (sit.0.number ∙ sym here) ∙ same m in
      let some : one_given w ≡ Some (f w) = is_given w it in
      let rest : Stay ws = others_stay ks ws (i + 1) sit.1 (omega arith) in
      record {
        one = w;
        sits = subst (λ n. SlotRepresents gs n k w) (sym here) sit.0;
        finds = ap (λ b. if b then Some w else find_id worker_id m ws) it;
        sends = ap (λ o. given_sends w o ++ all_sends one_given ws) some ∙ (ap (λ l. outputs wire_model w (f w) ++ l) rest.sends ∙ append-nil (outputs wire_model w (f w)));
        spends = ap (λ o. given_spends w o || any_spends one_given ws) some ∙ (ap (λ b. spends wire_model w (f w) || b) rest.spends ∙ false_or (spends wire_model w (f w)));
        moves = λ k' sits. (
          subst (λ o. SlotRepresents gs i k' (moved w o)) (sym some) (subst (λ n. SlotRepresents gs n k' (taken wire_model w (f w))) here sits),
          subst (λ vs. SlotsRepresent gs (i + 1) ks vs) (sym rest.moves) sit.1,
        );
      }
  found (k ∷ ks) (w ∷ ws) i (suc n) d is h sit =
      let other : (w.core.worker == m) ≡ false = ap (λ n. n == m) sit.0.number ∙ differ i m (omega arith) in
      let none : one_given w ≡ None = not_given w other in
      let rest : Found (i + 1) n ks ws d = found ks ws (i + 1) n d (omega arith) (omega arith) sit.1 in
      record {
        one = rest.one;
        sits = rest.sits;
        finds = ap (λ b. if b then Some w else find_id worker_id m ws) other ∙ rest.finds;
        sends = ap (λ o. given_sends w o ++ all_sends one_given ws) none ∙ rest.sends;
        spends = ap (λ o. given_spends w o || any_spends one_given ws) none ∙ rest.spends;
        moves = λ k' sits. (subst (λ o. SlotRepresents gs i k (moved w o)) (sym none) sit.0, rest.moves k' sits);
      }

-- ---- a worker keeps its number and its guilds

looked_number : (es : List Edit) (w : Worker) (g : ℕ) (s : Record) → (looked wire_model w g s es).core.worker ≡ w.core.worker
looked_number [] w g s = refl
looked_number (e ∷ es) w g s = looked_number es (entered wire_model w g s e) g (after s e)

looked_guilds : (es : List Edit) (w : Worker) (g : ℕ) (s : Record) → (looked wire_model w g s es).logs.guilds ≡ w.logs.guilds
looked_guilds [] w g s = refl
looked_guilds (e ∷ es) w g s = looked_guilds es (entered wire_model w g s e) g (after s e)

opened_number : (conn now : ℕ) (s : State Sent) → (opened conn now s).worker ≡ s.worker
opened_number conn now s = by_tests (has_connection conn s) (nat_lt (length s.connections) 64)
  where
    by_tests : (a b : Bool) → (if a then s else (if b then with_connection conn now s else s)).worker ≡ s.worker
    by_tests true b = refl
    by_tests false true = refl
    by_tests false false = refl

moved_number : (conn now : ℕ) (sent : Bot → Viewer → ℕ → Sent) (move : Move) (s : State Sent) → (with_frame conn now sent move s).worker ≡ s.worker
moved_number conn now sent Nothing s = refl
moved_number conn now sent Answers s = refl
moved_number conn now sent (ClosesWith code) s = refl
moved_number conn now sent (Begins bot viewer) s = refl
moved_number conn now sent Denies s = refl
moved_number conn now sent (Resumes number None seq held) s = refl
moved_number conn now sent (Resumes number (Some older) seq held) s = refl
moved_number conn now sent (Wants number want) s = refl

-- a worker that differs in no more than its chunks and what its sessions were sent
record Alike (w v : Worker) : Type 0 where
  pub number : v.core.worker ≡ w.core.worker
  pub guilds : v.logs.guilds ≡ w.logs.guilds
  pub seen : (g : ℕ) → v.logs.seen g ≡ w.logs.seen g

itself : (w : Worker) → Alike w w
itself w = record { number = refl; guilds = refl; seen = λ g. refl }

after_want_alike : (want : Want) (number : ℕ) (w : Worker) → Alike w (after_want wire_model number want w)
after_want_alike (Members ask) number w = record { number = refl; guilds = refl; seen = λ g. refl }
after_want_alike (Presence status) number w = itself w
after_want_alike (Voice ask) number w = itself w

after_move_alike : (move : Move) (w : Worker) → Alike w (after_move wire_model move w)
after_move_alike Nothing w = itself w
after_move_alike Answers w = itself w
after_move_alike (ClosesWith code) w = itself w
after_move_alike (Begins bot viewer) w = itself w
after_move_alike Denies w = itself w
after_move_alike (Resumes number older seq held) w = itself w
after_move_alike (Wants number want) w = after_want_alike want number w

-- what a frame does, and what its session's client wants
framed_alike : (conn : ℕ) (text : List ℕ) (w : Worker) → Alike (record w { core = with_frame conn w.now (begins_with wire_model w) (move_at wire_model w conn text) w.core }) (taken wire_model w (Frame conn text))
framed_alike conn text w =
    let move : Move = move_at wire_model w conn text in
    after_move_alike move (record w { core = with_frame conn w.now (begins_with wire_model w) move w.core })

all_gone_number : (conns : List ℕ) (now : ℕ) (s : State Sent) → (all_gone conns now s).worker ≡ s.worker
all_gone_number [] now s = refl
all_gone_number (conn ∷ conns) now s = all_gone_number conns now (gone conn (Detached now) s)

lost_number : (conn now : ℕ) (s : State Sent) → (lost conn now s).worker ≡ s.worker
lost_number conn now s = by_connection (has_connection conn s)
  where
    by_connection : (b : Bool) → (if b then gone conn (Detached now) s else s).worker ≡ s.worker
    by_connection true = refl
    by_connection false = refl

closed_number : (ended : Session Sent → List (Session Sent)) (conn code now : ℕ) (s : State Sent) → (client_closed ended conn code now s).worker ≡ s.worker
closed_number ended conn code now s = by_code (is_final code) (has_connection conn s)
  where
    by_code : (final there : Bool) → (if final then (if there then left ended conn s else s) else lost conn now s).worker ≡ s.worker
    by_code false there = lost_number conn now s
    by_code true true = refl
    by_code true false = refl

taken_number : (i : Input) (w : Worker) → is_look i ≡ false → (taken wire_model w i).core.worker ≡ w.core.worker
taken_number (Look g es) w calm = absurd (cc calm)
taken_number (Rebase g log) w calm = absurd (cc calm)
taken_number (Open conn) w calm = opened_number conn w.now w.core
taken_number (Frame conn text) w calm = (framed_alike conn text w).number ∙ moved_number conn w.now (begins_with wire_model w) (move_at wire_model w conn text) w.core
taken_number (Lost conn) w calm = lost_number conn w.now w.core
taken_number (Closed conn code) w calm = closed_number (ended_at (cursors w.logs.seen)) conn code w.now w.core
taken_number (Tick now) w calm = all_gone_number (silent_of (max w.now now) w.core.connections) (max w.now now) w.core

taken_guilds : (i : Input) (w : Worker) → is_look i ≡ false → (taken wire_model w i).logs.guilds ≡ w.logs.guilds
taken_guilds (Look g es) w calm = absurd (cc calm)
taken_guilds (Rebase g log) w calm = absurd (cc calm)
taken_guilds (Open conn) w calm = refl
taken_guilds (Frame conn text) w calm = (framed_alike conn text w).guilds
taken_guilds (Lost conn) w calm = refl
taken_guilds (Closed conn code) w calm = refl
taken_guilds (Tick now) w calm = refl

taken_seen : (i : Input) (w : Worker) → is_look i ≡ false → (g : ℕ) → (taken wire_model w i).logs.seen g ≡ w.logs.seen g
taken_seen (Look g es) w calm h = absurd (cc calm)
taken_seen (Rebase g log) w calm h = absurd (cc calm)
taken_seen (Open conn) w calm h = refl
taken_seen (Frame conn text) w calm h = (framed_alike conn text w).seen h
taken_seen (Lost conn) w calm h = refl
taken_seen (Closed conn code) w calm h = refl
taken_seen (Tick now) w calm h = refl

by_same : (j i : Input) → Some j ≡ Some i → is_look j ≡ false → (i ≡ j) × (is_look i ≡ false)
by_same j i same calm = let one : j ≡ i = same_Some j i same in (sym one, subst (λ (k : Input). is_look k ≡ false) one calm)

-- what is given that is no look is so in the model
pub calm_given : (input : Given) (i : Input) → calm_of input ≡ Some i → IsGiven input i × (is_look i ≡ false)
calm_given (given.Look guild entries) i is = absurd (cc is)
calm_given (given.Rebase guild base basis entries) i is = absurd (cc is)
calm_given (given.Open conn) i is = by_same (Open conn) i is refl
calm_given (given.Frame conn text) i is = by_same (Frame conn text) i is refl
calm_given (given.Lost conn) i is = by_same (Lost conn) i is refl
calm_given (given.Closed conn code) i is = by_same (Closed conn code) i is refl
calm_given (given.Tick now) i is = by_same (Tick now) i is refl

-- ---- one slot

module _ (gs : List ℕ) (n : ℕ) (old new : WorkerSlot) (w : Worker) (sits : SlotRepresents gs n old w) where
  -- a worker was given something that is no look
  pub give_sits : (i : Input) → is_look i ≡ false → WorkerRepresents new.worker (taken wire_model w i) → new.cursors ≡ old.cursors → SlotRepresents gs n new (taken wire_model w i)
  give_sits i calm stands cursors = record {
    number = taken_number i w calm ∙ sits.number;
    guilds = taken_guilds i w calm ∙ sits.guilds;
    worker = stands;
    cursors = λ g. ap (cursor_at g) cursors ∙ (sits.cursors g ∙ ap (λ es. length es) (sym (taken_seen i w calm g)));
  }

  -- the cursors after a look, by what the worker has then seen of the log
  look_cursors : (g at : ℕ) (es : List Edit) (now : ℕ → List Edit) → max at (length es) ≡ length (now g)
      → new.cursors ≡ put_id cursor_id (record { guild = g; at = max at (length es) }) old.cursors
      → (h : ℕ) → cursor_at h new.cursors ≡ length (if g == h then now h else w.logs.seen h)
  look_cursors g at es now count cursors h =
      ap (cursor_at h) cursors ∙ (ap cursor_value (find-put cursor_id (record { guild = g; at = max at (length es) }) h old.cursors) ∙ by_guild (g == h) refl)
    where
      by_guild : (b : Bool) → (g == h) ≡ b
          → cursor_value (if b then Some (record { guild = g; at = max at (length es) }) else find_id cursor_id h old.cursors) ≡ length (if b then now h else w.logs.seen h)
      by_guild true e = let one : g ≡ h = eqb-true g h e in count ∙ ap (λ k. length (now k)) one
      by_guild false e = sits.cursors h

  -- a worker was given the entries after its cursor
  look_sits : (g at : ℕ) (es : List Edit) → contains g gs ≡ true → at ≡ cursor_at g old.cursors
      → WorkerRepresents new.worker (taken wire_model w (Look g (drop at es)))
      → new.cursors ≡ put_id cursor_id (record { guild = g; at = max at (length es) }) old.cursors → SlotRepresents gs n new (taken wire_model w (Look g (drop at es)))
  look_sits g at es there is stands cursors =
      let next : List Edit = drop at es in
      let here : contains g w.logs.guilds ≡ true = ap (contains g) sits.guilds ∙ there in
      let s : Record = record_of w.logs.seen g in
      let looks : taken wire_model w (Look g next) ≡ looked wire_model w g s next = ap (λ o. looked_by wire_model o w g next) (here_found wire_text w.logs g here) in
      subst (λ (v : Worker). SlotRepresents gs n new v) (sym looks) (record {
        number = looked_number next w g s ∙ sits.number;
        guilds = looked_guilds next w g s ∙ sits.guilds;
        worker = subst (λ (v : Worker). WorkerRepresents new.worker v) looks stands;
        cursors = λ h. look_cursors g at es (λ k. w.logs.seen k ++ drop at es) (count (sym (sits.cursors g) ∙ sym is)) cursors h ∙ sym (ap length (looked_seen wire_text next w g s h));
      })
    where
      count : length (w.logs.seen g) ≡ at → max at (length es) ≡ length (w.logs.seen g ++ drop at es)
      count e = simp (length-append, length-drop) (omega (arith, e))

  -- a worker was given the whole log
  rebase_sits : (g at : ℕ) (es : List Edit) → contains g gs ≡ true → lags es at ≡ true → WorkerRepresents new.worker (taken wire_model w (Rebase g es))
      → new.cursors ≡ put_id cursor_id (record { guild = g; at = max at (length es) }) old.cursors → SlotRepresents gs n new (taken wire_model w (Rebase g es))
  rebase_sits g at es there late stands cursors =
      let here : contains g w.logs.guilds ≡ true = ap (contains g) sits.guilds ∙ there in
      let s : Record = record_of w.logs.seen g in
      let rebases : taken wire_model w (Rebase g es) ≡ rebased_by wire_model (Some s) w g es = ap (λ o. rebased_by wire_model o w g es) (here_found wire_text w.logs g here) in
      let below : at < length es - 4096 = grind (arith, nat_tests, late) in
      subst (λ (v : Worker). SlotRepresents gs n new v) (sym rebases) (record {
        number = sits.number;
        guilds = sits.guilds;
        worker = subst (λ (v : Worker). WorkerRepresents new.worker v) rebases stands;
        cursors = look_cursors g at es (λ k. es) (omega (arith, below)) cursors;
      })

  look_at_sits : (g at : ℕ) (es : List Edit) → contains g gs ≡ true → at ≡ cursor_at g old.cursors → (b : Bool) → lags es at ≡ b
      → new.cursors ≡ put_id cursor_id (record { guild = g; at = max at (length es) }) old.cursors
      → WorkerRepresents new.worker (taken wire_model w (if b then Rebase g es else Look g (drop at es))) → SlotRepresents gs n new (taken wire_model w (if b then Rebase g es else Look g (drop at es)))
  look_at_sits g at es there is true late cursors stands = rebase_sits g at es there late stands cursors
  look_at_sits g at es there is false soon cursors stands = look_sits g at es there is stands cursors

  pub look_steps : (g at : ℕ) (es : List Edit) (out : List Written) → contains g gs ≡ true → at ≡ cursor_at g old.cursors
      → StepsTo w (look_at g es at) new.worker out → new.cursors ≡ put_id cursor_id (record { guild = g; at = max at (length es) }) old.cursors
      → SlotSteps gs n w (look_at g es (length (w.logs.seen g))) new out
  look_steps g at es out there is steps cursors =
      let all : SlotSteps gs n w (look_at g es at) new out = (look_at_sits g at es there is (lags es at) refl cursors steps.0, (steps.1.0, steps.1.1)) in
      subst (λ (k : ℕ). SlotSteps gs n w (look_at g es k) new out) (is ∙ sits.cursors g) all

module _ (gs : List ℕ) (n : ℕ) (old : WorkerSlot) (w : Worker) (sits : SlotRepresents gs n old w) (g at : ℕ) (es : List Edit) (is : at ≡ cursor_at g old.cursors) where
  -- whether a look lags, by the cursor that is kept
  pub lag_is : (lag : Option Lagged) → lag ≡ (if lags es at then Some (record { worker = n; guild = g; base = base_of es; cursor = at }) else None) → lag ≡ lag_of n g es (Some w)
  lag_is lag found = found ∙ ap (λ (k : ℕ). if lags es k then Some (record { worker = n; guild = g; base = base_of es; cursor = k }) else None) (is ∙ sits.cursors g)

-- ---- all slots

pub by_result : {V E : Type 0} (r : Result V E) (P P' : V → Type 0) (Q Q' : E → Type 0) → ((x : V) → P x → P' x) → ((e : E) → Q e → Q' e) → MatchResult r P Q → MatchResult r P' Q'
by_result (Ok x) P P' Q Q' f g h = f x h
by_result (Err e) P P' Q Q' f g h = g e h

module _ (gs : List ℕ) (m : ℕ) (f : Worker → Input) (ks : List WorkerSlot) (ws : List Worker) (sit : SlotsRepresent gs 0 ks ws) where
  pub stay_step : (out : List Written) → out ≡ [] → length ks ≤ m → SlotsStep gs (one_given gs m f) ws ks out
  stay_step out none h =
      let stay : Stay gs m f ws = none_there gs m f ks ws 0 sit (omega arith) in
      (subst (λ vs. SlotsRepresent gs 0 ks vs) (sym stay.moves) sit, (none ∙ ap all_written (sym stay.sends), stay.spends))

  pub found_step : {V : Type 0} (items : V → List Written) (r : Result V StepFault) (d new : WorkerSlot) → m < length ks → d ≡ get_or ks m d
      → ((w : Worker) → SlotRepresents gs m d w → MatchResult r (λ out. SlotSteps gs m w (f w) new (items out)) (SlotFails w (f w)))
      → MatchResult r (λ out. SlotsStep gs (one_given gs m f) ws (set ks m new) (items out)) (SlotsFail (one_given gs m f) ws)
  found_step items r d new h is steps =
      let it : Found gs m f 0 m ks ws d = found gs m f ks ws 0 m d (omega arith) h sit in
      by_result r (λ out. SlotSteps gs m it.one (f it.one) new (items out)) (λ out. SlotsStep gs (one_given gs m f) ws (set ks m new) (items out))
      (SlotFails it.one (f it.one)) (SlotsFail (one_given gs m f) ws)
      (λ out step. (it.moves new step.0, (step.1.0 ∙ ap all_written (sym it.sends), it.spends ∙ step.1.1)))
      (λ fault fails. subst (λ b. FaultBy b fault) (sym it.spends) fails)
      (steps it.one (subst (λ k. SlotRepresents gs m k it.one) (sym is) it.sits))

  -- the look of the worker of this number, if it lags
  pub no_lag : (g : ℕ) (es : List Edit) → length ks ≤ m → None ≡ lag_of m g es (find_id worker_id m ws)
  no_lag g es h = ap (lag_of m g es) (sym (none_there gs m f ks ws 0 sit (omega arith)).absent)

  pub found_lag : (lag : Option Lagged) (d : WorkerSlot) (g : ℕ) (es : List Edit) → m < length ks → d ≡ get_or ks m d
      → ((w : Worker) → SlotRepresents gs m d w → lag ≡ lag_of m g es (Some w)) → lag ≡ lag_of m g es (find_id worker_id m ws)
  found_lag lag d g es h is lag_at =
      let it : Found gs m f 0 m ks ws d = found gs m f ks ws 0 m d (omega arith) h sit in
      lag_at it.one (subst (λ k. SlotRepresents gs m k it.one) (sym is) it.sits) ∙ ap (lag_of m g es) (sym it.finds)
