-- What lines make of the server.
use Rattle.std.proofs.Common.{◌≡◌, ℕ, List, [], ◌∷◌, ◌++◌, Bool, true, false, Option, Some, None, Result, MatchResult, if◌then◌else◌, length, refl, sym, ap, ◌∙◌, subst, arith}
use Rattle.std.specs.Prelude.{◌==◌, nat_eq, ◌||◌, is_some, option_map}
use Rattle.std.proofs.lemmas.Bool.{eqb-true}
use Rattle.std.proofs.lemmas.Bool.Decides.{nat_tests}
use Rattle.indexmap.specs.IndexMap.{get}
use Rattle.collections.specs.ById.{find_id, has_id, put_id, put_all}
use Rattle.collections.proofs.Has.{has-put}
use Rattle.guild_model.specs.Record.{own_id}
use Rattle.dispatch_types.specs.Fold.{contains}
use Rattle.edit_apply.specs.declared.Edit.{Edit}
use Rattle.edit_text.specs.declared.line.Line.{Line}
use Rattle.edit_text.specs.declared.line.Line.TheVariants as line
use Rattle.worker_core.specs.InCode.{wire_text}
use Rattle.worker_core.specs.Outputs.{all_written}
use Rattle.worker_core.specs.Represents.{FaultBy}
use Rattle.world_law.specs.Model.{Worker, seen_with}
use Rattle.world_law.specs.World.{World, Step, Edits, Looks, Opens, Frames, Loses, Leaves, Ticks, look_at, stepped, run}
use Rattle.world_law.specs.Inputs.{Input, Open, Frame, Lost, Closed, Tick}
use Rattle.world_law.specs.World.{first_world}
use Rattle.worker_core.specs.declared.io.StepFault.{StepFault}
use Rattle.worker_core.specs.declared.io.Output.{Output as Written}
use Rattle.scenario.specs.declared.guild_log.GuildLog.{GuildLog}
use Rattle.session_core.specs.declared.bot.Bot.{Bot as KnownBot}
use Rattle.scenario.specs.declared.opened.Opened.{Opened}
use Rattle.scenario.specs.declared.worker_slot.WorkerSlot.{WorkerSlot}
use Rattle.scenario.specs.declared.server.Server.{Server as KeptServer}
use Rattle.scenario.specs.Server.{Server, has_token, first_workers, world, given, for_worker, step_of, with_step, with_line, noted, opened_id, log, step_sends, step_spends}
use Rattle.scenario.specs.Represents.{log_with, added, SlotsRepresent, guilds_of, HasSlotsOnceStepped, IsFull, Keeps, Represents, all_moved, all_sends, any_spends, SlotsStep, SlotsFail, Plays, PlaysNot, Gives}
use Rattle.scenario.proofs.Latest.{log_more}
use Rattle.scenario.proofs.Slots.{by_result}
use Rattle.scenario.proofs.Worlds.{stepped_workers, world_step, edit_sends, edit_spends}

-- ---- ids

contains_more : (id : ℕ) (gs : List ℕ) (g : ℕ) → contains id (gs ++ g ∷ []) ≡ (contains id gs || (g == id))
contains_more id [] g = by_test (g == id)
  where
    by_test : (b : Bool) → (b || false) ≡ b
    by_test true = refl
    by_test false = refl
contains_more id (x ∷ gs) g = by_test (x == id) (contains_more id gs g)
  where
    by_test : (b : Bool) → contains id (gs ++ g ∷ []) ≡ (contains id gs || (g == id)) → (b || contains id (gs ++ g ∷ [])) ≡ ((b || contains id gs) || (g == id))
    by_test true rest = refl
    by_test false rest = rest

-- a list of ids contains what it finds
contains_found : (id : ℕ) (gs : List ℕ) → contains id gs ≡ has_id own_id id gs
contains_found id [] = refl
contains_found id (g ∷ gs) = by_id (g == id) (contains_found id gs)
  where
    by_id : (b : Bool) → contains id gs ≡ has_id own_id id gs → (b || contains id gs) ≡ is_some (if b then Some g else find_id own_id id gs)
    by_id true rest = refl
    by_id false rest = rest

has_all : (gs xs : List ℕ) (id : ℕ) → (has_id own_id id xs || contains id gs) ≡ true → has_id own_id id (put_all own_id xs gs) ≡ true
has_all [] xs id h = by_test (has_id own_id id xs) h
  where
    by_test : (b : Bool) → (b || false) ≡ true → b ≡ true
    by_test true e = refl
    by_test false e = e
has_all (g ∷ gs) xs id h = has_all gs (put_id own_id g xs) id (ap (λ b. b || contains id gs) (has-put own_id g id xs) ∙ by_tests (g == id) (has_id own_id id xs) (contains id gs) h)
  where
    by_tests : (a b c : Bool) → (b || (a || c)) ≡ true → ((a || b) || c) ≡ true
    by_tests true b c e = refl
    by_tests false b c e = e

-- all ids that are put among them are there
pub contains_all : (id : ℕ) (gs : List ℕ) → contains id gs ≡ true → contains id (put_all own_id [] gs) ≡ true
contains_all id gs h = contains_found id (put_all own_id [] gs) ∙ has_all gs [] id h

-- ---- logs

-- ---- slots

-- a list that has something more is not empty
longer : {A : Type 0} (xs : List A) (x : A) → (length (xs ++ x ∷ []) == 0) ≡ false
longer [] x = refl
longer (y ∷ xs) x = grind (arith, nat_tests)

pub full_moved : (gs : List ℕ) (ks new : List WorkerSlot) (f : Worker → Option Input) (ws : List Worker) → IsFull ks → SlotsRepresent gs 0 ks ws → SlotsRepresent gs 0 new (all_moved f ws) → IsFull new
full_moved gs [] new f ws full sit moved = absurd full
full_moved gs (k ∷ ks) new f [] full sit moved = absurd sit
full_moved gs (k ∷ ks) [] f (w ∷ ws) full sit moved = absurd moved
full_moved gs (k ∷ ks) (l ∷ new) f (w ∷ ws) full sit moved = tt

-- slots that have made a step
slots_stepped : (slots : List WorkerSlot) (p : Server) (s : Step) → IsFull slots → SlotsRepresent (guilds_of p) 0 slots (all_moved (given (world p) s) (world p).workers) → HasSlotsOnceStepped slots (with_step (Some s) p)
slots_stepped [] p s full sit = absurd full
slots_stepped (k ∷ ks) p s full sit =
    let is : (world (with_step (Some s) p)).workers ≡ all_moved (given (world p) s) (world p).workers = ap (λ (m : World). m.workers) (world_step p s) ∙ stepped_workers s (world p) in
    (longer p.steps s, subst (λ ws. SlotsRepresent (guilds_of p) 0 (k ∷ ks) ws) (sym is) sit)

-- ---- a step

-- a step that leaves the logs
pub represents_after : (new : KeptServer) (p : Server) (s : Step) → Keeps new p → IsFull new.slots.items
    → SlotsRepresent (guilds_of p) 0 new.slots.items (all_moved (given (world p) s) (world p).workers) → (stepped wire_text (world p) s).logs ≡ (world p).logs → Represents new (with_step (Some s) p)
represents_after new p s keeps full sit same =
    let is : (world (with_step (Some s) p)).logs ≡ (world p).logs = ap (λ (m : World). m.logs) (world_step p s) ∙ same in
    record {
      keeps = record {
        bots = keeps.bots;
        guilds = keeps.guilds;
        used = keeps.used;
        logs = λ g. keeps.logs g ∙ ap (λ (logs : ℕ → List Edit). if contains g p.guilds then Some (log_with g (logs g)) else None) (sym is);
      };
      slots = slots_stepped new.slots.items p s full sit;
    }

-- what a line that is a step leaves
pub plays_step : (p q : Server) (line : Line) (s : Step) (new : KeptServer) (out : List Written) → step_of p line ≡ Some s → noted p line ≡ q → Represents new (with_step (Some s) q)
    → out ≡ all_written (all_sends (given (world p) s) (world p).workers) → any_spends (given (world p) s) (world p).workers ≡ false → Plays p line new out
plays_step p q line s new out step note stands sends spent =
    let is : with_line p line ≡ with_step (Some s) q = ap (λ o. with_step o (noted p line)) step ∙ ap (with_step (Some s)) note in (
      subst (λ (r : Server). Represents new r) (sym is) stands,
      (sends ∙ ap (λ o. all_written (step_sends (world p) o)) (sym step), ap (λ o. step_spends (world p) o) step ∙ spent),
    )

pub fails_step : (p : Server) (line : Line) (s : Step) (fault : StepFault) → step_of p line ≡ Some s → SlotsFail (given (world p) s) (world p).workers fault → PlaysNot p line fault
fails_step p line s fault step fails = subst (λ b. FaultBy b fault) (ap (λ o. step_spends (world p) o) (sym step)) fails

-- what a line that is no step leaves
pub plays_nothing : (p q : Server) (line : Line) (new : KeptServer) (out : List Written) → step_of p line ≡ None → noted p line ≡ q → Represents new q → out ≡ [] → Plays p line new out
plays_nothing p q line new out step note stands none =
    let is : with_line p line ≡ q = ap (λ o. with_step o (noted p line)) step ∙ note in (
      subst (λ (r : Server). Represents new r) (sym is) stands,
      (none ∙ ap (λ o. all_written (step_sends (world p) o)) (sym step), ap (λ o. step_spends (world p) o) step),
    )

-- ---- lines that give a worker something

-- a step that leaves all but the slots and the numbers that were used
moved_on : {V : Type 0} (items : V → List Written) (r : Result V StepFault) (old new : KeptServer) (p q : Server) (line : Line) (s : Step) (slots : List WorkerSlot)
    → Keeps new q → step_of p line ≡ Some s → noted p line ≡ q → world q ≡ world p → guilds_of q ≡ guilds_of p → (stepped wire_text (world p) s).logs ≡ (world p).logs
    → IsFull slots → SlotsRepresent (guilds_of p) 0 slots (world p).workers
    → MatchResult r (λ out. SlotsStep (guilds_of p) (given (world p) s) (world p).workers new.slots.items (items out)) (SlotsFail (given (world p) s) (world p).workers)
    → MatchResult r (λ out. Plays p line new (items out)) (PlaysNot p line)
moved_on items r old new p q line s slots keeps step note same guilds logs full sit steps =
    by_result r (λ out. SlotsStep (guilds_of p) (given (world p) s) (world p).workers new.slots.items (items out)) (λ out. Plays p line new (items out))
    (SlotsFail (given (world p) s) (world p).workers) (PlaysNot p line)
    (λ out moved.
    let now : SlotsRepresent (guilds_of q) 0 new.slots.items (all_moved (given (world q) s) (world q).workers) =
    subst (λ (m : World). SlotsRepresent (guilds_of q) 0 new.slots.items (all_moved (given m s) m.workers)) (sym same)
    (subst (λ gs. SlotsRepresent gs 0 new.slots.items (all_moved (given (world p) s) (world p).workers)) (sym guilds) moved.0) in
    let is_full : IsFull new.slots.items = full_moved (guilds_of p) slots new.slots.items (given (world p) s) (world p).workers full sit moved.0 in
    let still : (stepped wire_text (world q) s).logs ≡ (world q).logs = subst (λ (m : World). (stepped wire_text m s).logs ≡ m.logs) (sym same) logs in
    plays_step p q line s new (items out) step note (represents_after new q s keeps is_full now still) moved.1.0 moved.1.1)
    (λ fault fails. fails_step p line s fault step fails)
    steps

pub open_plays : {V : Type 0} (items : V → List Written) (r : Result V StepFault) (old new : KeptServer) (p : Server) (worker conn : ℕ) (slots : List WorkerSlot) → Keeps old p
    → has_id opened_id conn old.used ≡ false → new.bots ≡ old.bots → new.guilds ≡ old.guilds → new.logs ≡ old.logs → new.used ≡ put_id opened_id (record { number = conn; worker = worker }) old.used
    → IsFull slots × SlotsRepresent (guilds_of p) 0 slots (world p).workers
    → MatchResult r (λ out. SlotsStep (guilds_of p) (for_worker worker (Open conn)) (world p).workers new.slots.items (items out)) (SlotsFail (for_worker worker (Open conn)) (world p).workers)
    → MatchResult r (λ out. Plays p (line.Open worker conn) new (items out)) (PlaysNot p (line.Open worker conn))
open_plays items r old new p worker conn slots keeps unused bots guilds logs used start steps =
    let o : Opened = record { number = conn; worker = worker } in
    let q : Server = record p { used = put_id opened_id o p.used } in
    let unknown : has_id opened_id conn p.used ≡ false = ap (has_id opened_id conn) (sym keeps.used) ∙ unused in
    moved_on items r old new p q (line.Open worker conn) (Opens worker conn) slots
    (record {
      bots = bots ∙ keeps.bots;
      guilds = guilds ∙ keeps.guilds;
      used = used ∙ ap (put_id opened_id o) keeps.used;
      logs = λ g. ap (λ ls. get nat_eq ls g) logs ∙ keeps.logs g;
    })
    (ap (λ b. if b then None else Some (Opens worker conn)) unknown)
    (ap (λ b. if b then p else q) unknown)
    refl refl refl start.0 start.1 steps

-- a line that gives one worker an input
pub give_plays : {V : Type 0} (items : V → List Written) (r : Result V StepFault) (old new : KeptServer) (p : Server) (line : Line) (worker : ℕ) (i : Input) (slots : List WorkerSlot) → Keeps old p
    → Gives p line worker i → new.bots ≡ old.bots → new.guilds ≡ old.guilds → new.logs ≡ old.logs → new.used ≡ old.used
    → IsFull slots × SlotsRepresent (guilds_of p) 0 slots (world p).workers
    → MatchResult r (λ out. SlotsStep (guilds_of p) (for_worker worker i) (world p).workers new.slots.items (items out)) (SlotsFail (for_worker worker i) (world p).workers)
    → MatchResult r (λ out. Plays p line new (items out)) (PlaysNot p line)
give_plays items r old new p line worker i slots keeps gives bots guilds logs used start steps =
    moved_on items r old new p p line gives.step slots
    (record {
      bots = bots ∙ keeps.bots;
      guilds = guilds ∙ keeps.guilds;
      used = used ∙ keeps.used;
      logs = λ g. ap (λ ls. get nat_eq ls g) logs ∙ keeps.logs g;
    })
    gives.is_step gives.notes refl refl gives.logs start.0 start.1
    (subst (λ (f : Worker → Option Input). MatchResult r (λ out. SlotsStep (guilds_of p) f (world p).workers new.slots.items (items out)) (SlotsFail f (world p).workers)) (sym gives.gives) steps)

-- the worker on which a connection was opened
found_worker : (o : Option Opened) (worker : ℕ) → option_map (λ (o : Opened). o.worker) o ≡ Some worker → (step : ℕ → Step) → option_map (λ (o : Opened). step o.worker) o ≡ Some (step worker)
found_worker None worker is step = absurd (cc)
found_worker (Some o) worker is step = let same : o.worker ≡ worker = cc in ap (λ n. Some (step n)) same

no_worker : (o : Option Opened) → option_map (λ (o : Opened). o.worker) o ≡ None → (step : ℕ → Step) → option_map (λ (o : Opened). step o.worker) o ≡ None
no_worker None is step = refl
no_worker (Some o) is step = absurd (cc)

module _ (old : KeptServer) (p : Server) (keeps : Keeps old p) (conn worker : ℕ) (known : option_map (λ (o : Opened). o.worker) (find_id opened_id conn old.used) ≡ Some worker) where
  on_it : (step : ℕ → Step) → option_map (λ (o : Opened). step o.worker) (find_id opened_id conn p.used) ≡ Some (step worker)
  on_it step = found_worker (find_id opened_id conn p.used) worker (ap (λ us. option_map (λ (o : Opened). o.worker) (find_id opened_id conn us)) (sym keeps.used) ∙ known) step

  pub frame_gives : (text : List ℕ) → Gives p (line.Frame conn text) worker (Frame conn text)
  frame_gives text = record { step = Frames worker conn text; is_step = on_it (λ n. Frames n conn text); notes = refl; gives = refl; logs = refl }

  pub lost_gives : Gives p (line.Lost conn) worker (Lost conn)
  lost_gives = record { step = Loses worker conn; is_step = on_it (λ n. Loses n conn); notes = refl; gives = refl; logs = refl }

  pub closed_gives : (code : ℕ) → Gives p (line.Closed conn code) worker (Closed conn code)
  closed_gives code = record { step = Leaves worker conn code; is_step = on_it (λ n. Leaves n conn code); notes = refl; gives = refl; logs = refl }

pub tick_gives : (p : Server) (worker now : ℕ) → Gives p (line.Tick worker now) worker (Tick now)
tick_gives p worker now = record { step = Ticks worker now; is_step = refl; notes = refl; gives = refl; logs = refl }

module _ (old : KeptServer) (p : Server) (stands : Represents old p) (conn : ℕ) (unknown : option_map (λ (o : Opened). o.worker) (find_id opened_id conn old.used) ≡ None) (out : List Written) (none : out ≡ []) where
  on_none : (step : ℕ → Step) → option_map (λ (o : Opened). step o.worker) (find_id opened_id conn p.used) ≡ None
  on_none step = no_worker (find_id opened_id conn p.used) (ap (λ us. option_map (λ (o : Opened). o.worker) (find_id opened_id conn us)) (sym stands.keeps.used) ∙ unknown) step

  pub frame_past : (text : List ℕ) → Plays p (line.Frame conn text) old out
  frame_past text = plays_nothing p p (line.Frame conn text) old out (on_none (λ n. Frames n conn text)) refl stands none

  pub lost_past : Plays p (line.Lost conn) old out
  lost_past = plays_nothing p p (line.Lost conn) old out (on_none (λ n. Loses n conn)) refl stands none

  pub closed_past : (code : ℕ) → Plays p (line.Closed conn code) old out
  closed_past code = plays_nothing p p (line.Closed conn code) old out (on_none (λ n. Leaves n conn code)) refl stands none

-- a log that is kept is that of a guild with a head line
if_some : (b : Bool) (l m : GuildLog) → (if b then Some m else None) ≡ Some l → (b ≡ true) × (l ≡ m)
if_some true l m e = (refl, cc)
if_some false l m e = absurd (cc)

pub declared : (old : KeptServer) (p : Server) (g : ℕ) (l : GuildLog) → Keeps old p → get nat_eq old.logs g ≡ Some l → (contains g p.guilds ≡ true) × (l ≡ log_with g (log p g))
declared old p g l keeps found = if_some (contains g p.guilds) l (log_with g (log p g)) (sym (keeps.logs g) ∙ found)

pub look_plays : {V : Type 0} (items : V → List Written) (r : Result V StepFault) (old new : KeptServer) (p : Server) (worker g : ℕ) (slots : List WorkerSlot) → Keeps old p
    → contains g p.guilds ≡ true → new.bots ≡ old.bots → new.guilds ≡ old.guilds → new.logs ≡ old.logs → new.used ≡ old.used
    → IsFull slots × SlotsRepresent (guilds_of p) 0 slots (world p).workers
    → MatchResult r (λ out. SlotsStep (guilds_of p) (λ w. for_worker worker (look_at g (log p g) (length (w.logs.seen g))) w) (world p).workers new.slots.items (items out))
    (SlotsFail (λ w. for_worker worker (look_at g (log p g) (length (w.logs.seen g))) w) (world p).workers)
    → MatchResult r (λ out. Plays p (line.Look worker g) new (items out)) (PlaysNot p (line.Look worker g))
look_plays items r old new p worker g slots keeps there bots guilds logs used start steps =
    moved_on items r old new p p (line.Look worker g) (Looks worker g) slots
    (record {
      bots = bots ∙ keeps.bots;
      guilds = guilds ∙ keeps.guilds;
      used = used ∙ keeps.used;
      logs = λ h. ap (λ ls. get nat_eq ls h) logs ∙ keeps.logs h;
    })
    (ap (λ b. if b then Some (Looks worker g) else None) there)
    refl refl refl refl start.0 start.1 steps

-- ---- edits

-- an edit is no step of a worker
pub edit_plays : (old new : KeptServer) (p : Server) (g : ℕ) (e : Edit) (l : GuildLog) (out : List Written) → Keeps old p
    → get nat_eq old.logs g ≡ Some l
    → new.bots ≡ old.bots → new.guilds ≡ old.guilds → new.used ≡ old.used
    → ((h : ℕ) → get nat_eq new.logs h ≡ (if g == h then Some (added l e) else get nat_eq old.logs h))
    → IsFull new.slots.items × SlotsRepresent (guilds_of p) 0 new.slots.items (world p).workers → out ≡ [] → Plays p (line.Edit g e) new out
edit_plays old new p g e l out keeps found bots guilds used logs start none =
    let there = declared old p g l keeps found in
    let es : List Edit = log p g in
    let s : Step = Edits g e in
    let next : added l e ≡ log_with g (es ++ e ∷ []) = ap (λ (x : GuildLog). added x e) there.1 ∙ log_more g es e in
    let is : (world (with_step (Some s) p)).logs ≡ seen_with (world p).logs g e = ap (λ (m : World). m.logs) (world_step p s) in
    let workers : (world (with_step (Some s) p)).workers ≡ (world p).workers = ap (λ (m : World). m.workers) (world_step p s) in
    plays_step p p (line.Edit g e) s new out
    (ap (λ b. if b then Some s else None) there.0)
    refl
    (record {
      keeps = record {
        bots = bots ∙ keeps.bots;
        guilds = guilds ∙ keeps.guilds;
        used = used ∙ keeps.used;
        logs = λ h. logs h ∙ (by_guild h (g == h) refl there.0 next ∙ ap (λ (all : ℕ → List Edit). if contains h p.guilds then Some (log_with h (all h)) else None) (sym is));
      };
      slots = has_slots (new.slots.items) start.0 (subst (λ ws. SlotsRepresent (guilds_of p) 0 new.slots.items ws) (sym workers) start.1);
    })
    (none ∙ ap all_written (sym (edit_sends g e (world p) (world p).workers)))
    (edit_spends g e (world p) (world p).workers)
  where
    has_slots : (slots : List WorkerSlot) → IsFull slots → SlotsRepresent (guilds_of p) 0 slots (world (with_step (Some (Edits g e)) p)).workers → HasSlotsOnceStepped slots (with_step (Some (Edits g e)) p)
    has_slots [] full sit = absurd full
    has_slots (k ∷ ks) full sit = (longer p.steps (Edits g e), sit)

    by_guild : (h : ℕ) (b : Bool) → (g == h) ≡ b → contains g p.guilds ≡ true → added l e ≡ log_with g (log p g ++ e ∷ [])
        → (if b then Some (added l e) else get nat_eq old.logs h)
        ≡ (if contains h p.guilds then Some (log_with h (if b then log p h ++ e ∷ [] else log p h)) else None)
    by_guild h true same there next =
        let one : g ≡ h = eqb-true g h same in
        ap Some next ∙ (ap (λ n. Some (log_with n (log p n ++ e ∷ []))) one
        ∙ ap (λ b. if b then Some (log_with h (log p h ++ e ∷ [])) else None) (sym (ap (λ n. contains n p.guilds) (sym one) ∙ there)))
    by_guild h false apart there next = keeps.logs h

pub is_none : {A : Type 0} (o : Option A) → is_some o ≡ false → o ≡ None
is_none None e = refl
is_none (Some x) e = absurd (cc)

-- ---- head lines

or_true : (b : Bool) → (b || true) ≡ true
or_true true = refl
or_true false = refl

or_false : (b : Bool) → (b || false) ≡ b
or_false true = refl
or_false false = refl

no_items : {A : Type 0} (xs : List A) → length xs ≡ 0 → xs ≡ []
no_items [] e = refl
no_items (x ∷ xs) e = absurd (omega (arith, e))

-- before the first step each log is empty
fresh_log : (p : Server) (g : ℕ) → length p.steps ≡ 0 → log p g ≡ []
fresh_log p g e = ap (λ (ss : List Step). (run wire_text (first_world p.bots p.guilds first_workers) ss).logs g) (no_items p.steps e)

pub bot_plays : (old new : KeptServer) (p : Server) (b : KnownBot) (v : ℕ) (out : List Written) → Represents old p → old.slots.items ≡ [] → has_token b.token old.bots ≡ false
    → new.bots ≡ old.bots ++ b ∷ [] → new.guilds ≡ old.guilds → new.used ≡ old.used → new.logs ≡ old.logs → new.slots.items ≡ old.slots.items
    → out ≡ [] → Plays p (line.Bot b.token b.user b.name b.privileged v b.ring_items b.ring_bytes) new out
bot_plays old new p b v out stands empty unknown bots guilds used logs slots none =
    let fresh : length p.steps ≡ 0 = subst (λ ks. HasSlotsOnceStepped ks p) empty stands.slots in
    let lacks : has_token b.token p.bots ≡ false = ap (has_token b.token) (sym stands.keeps.bots) ∙ unknown in
    let q : Server = record p { bots = p.bots ++ b ∷ [] } in
    plays_nothing p q (line.Bot b.token b.user b.name b.privileged v b.ring_items b.ring_bytes) new out refl
    (ap (λ n. if n == 0 then (if has_token b.token p.bots then p else q) else p) fresh ∙ ap (λ t. if t then p else q) lacks)
    (record {
      keeps = record {
        bots = bots ∙ ap (λ bs. bs ++ b ∷ []) stands.keeps.bots;
        guilds = guilds ∙ stands.keeps.guilds;
        used = used ∙ stands.keeps.used;
        logs = λ h. ap (λ ls. get nat_eq ls h) logs ∙ stands.keeps.logs h
            ∙ ap (λ es. if contains h p.guilds then Some (log_with h es) else None) (fresh_log p h fresh ∙ sym (fresh_log q h fresh));
      };
      slots = subst (λ ks. HasSlotsOnceStepped ks q) (sym (slots ∙ empty)) fresh;
    })
    none

pub guild_plays : (old new : KeptServer) (p : Server) (g : ℕ) (out : List Written) → Represents old p → old.slots.items ≡ [] → get nat_eq old.logs g ≡ None
    → new.bots ≡ old.bots → new.guilds ≡ old.guilds ++ g ∷ [] → new.used ≡ old.used
    → ((h : ℕ) → get nat_eq new.logs h ≡ (if g == h then Some (log_with g []) else get nat_eq old.logs h)) → new.slots.items ≡ old.slots.items
    → out ≡ [] → Plays p (line.Guild g) new out
guild_plays old new p g out stands empty unknown bots guilds used logs slots none =
    let fresh : length p.steps ≡ 0 = subst (λ ks. HasSlotsOnceStepped ks p) empty stands.slots in
    let lacks : contains g p.guilds ≡ false = if_none (contains g p.guilds) (log_with g (log p g)) (sym (stands.keeps.logs g) ∙ unknown) in
    let q : Server = record p { guilds = p.guilds ++ g ∷ [] } in
    plays_nothing p q (line.Guild g) new out refl
    (ap (λ n. if n == 0 then (if contains g p.guilds then p else q) else p) fresh ∙ ap (λ b. if b then p else q) lacks)
    (record {
      keeps = record {
        bots = bots ∙ stands.keeps.bots;
        guilds = guilds ∙ ap (λ gs. gs ++ g ∷ []) stands.keeps.guilds;
        used = used ∙ stands.keeps.used;
        logs = λ h. logs h ∙ (by_guild h (g == h) refl fresh ∙ ap (λ b. if b then Some (log_with h (log q h)) else None) (sym (contains_more h p.guilds g)));
      };
      slots = subst (λ ks. HasSlotsOnceStepped ks q) (sym (slots ∙ empty)) fresh;
    })
    none
  where
    if_none : (b : Bool) (m : GuildLog) → (if b then Some m else None) ≡ None → b ≡ false
    if_none true m e = absurd (cc)
    if_none false m e = refl

    by_guild : (h : ℕ) (b : Bool) → (g == h) ≡ b → length p.steps ≡ 0
        → (if b then Some (log_with g []) else get nat_eq old.logs h)
        ≡ (if (contains h p.guilds || b) then Some (log_with h (log (record p { guilds = p.guilds ++ g ∷ [] }) h)) else None)
    by_guild h true same fresh =
        let q : Server = record p { guilds = p.guilds ++ g ∷ [] } in
        ap (λ n. Some (log_with n [])) (eqb-true g h same) ∙ (ap (λ es. Some (log_with h es)) (sym (fresh_log q h fresh))
        ∙ ap (λ b. if b then Some (log_with h (log q h)) else None) (sym (or_true (contains h p.guilds))))
    by_guild h false same fresh =
        let q : Server = record p { guilds = p.guilds ++ g ∷ [] } in
        stands.keeps.logs h ∙ (ap (λ es. if contains h p.guilds then Some (log_with h es) else None) (fresh_log p h fresh ∙ sym (fresh_log q h fresh))
        ∙ ap (λ b. if b then Some (log_with h (log q h)) else None) (sym (or_false (contains h p.guilds))))
