-- What the calls of a step leave, taken together, is the step.
use Rattle.std.proofs.Common.{◌≡◌, ℕ, ◌+◌, ◌≤◌, List, [], ◌∷◌, ◌++◌, suc, zero, Bool, true, false, Option, Some, None, Result, Ok, Err, if◌then◌else◌, length, map, drop, take, refl, sym, ap, subst, ◌∙◌, arith}
use Rattle.std.specs.Prelude.{◌==◌, ◌&&◌, ◌||◌, nat_lt, flat_map, IsSome, is_some, MatchResult, OnOk, option_map, position}
use Rattle.std.specs.List.{list_all}
use Rattle.std.specs.Option.{option_map_or}
use Rattle.std.proofs.lemmas.List.{take-append-drop}
use Rattle.dispatch_types.specs.declared.dispatch.Dispatch.{Dispatch}
use Rattle.collections.specs.ById.{find_id, has_id, put_id, put_all, IsById}
use Rattle.collections.proofs.Finds.{find-put, key-found, IsById-put_all}
use Rattle.guild_model.specs.Record.{Record, closed, own_id}
use Rattle.gateway_frames.specs.declared.out.Out.TheVariants.{Hello, Resumed}
use Rattle.dispatch_types.specs.declared.viewer.Viewer.{Viewer}
use Rattle.edit_apply.specs.Edits.{state, state_from}
use Rattle.edit_apply.specs.declared.Edit.{Edit}
use Rattle.session_core.specs.declared.bot.Bot.{Bot}
use Rattle.session_core.specs.declared.fault.SessionFault.{SessionFault}
use Rattle.session_core.specs.declared.fault.SessionFault.TheVariants as session
use Rattle.session_core.specs.declared.reply.Reply.{Reply}
use Rattle.session_core.specs.declared.reply.Reply.TheVariants as reply
use Rattle.session_core.specs.State.{State, Session, Attached, AreNumberedOnce, has_connection, live, open_replies}
use Rattle.session_core.specs.Ends.{closes, session_conns, end_all_replies, all_ended}
use Rattle.session_core.specs.Frames.{Move, Nothing, Answers, ClosesWith, Begins, Denies, Resumes, Wants, Want, Members, Presence, Voice, want_reply, move_replies, is_spent}
use Rattle.session_core.specs.Resume.{resume_replies}
use Rattle.replay_ring.specs.Replay.{Replay, fresh, texts_after}
use Rattle.guild_replica.specs.Replicas.{GuildCopy}
use Rattle.worker_core.specs.declared.io.Output.{Output as Written}
use Rattle.worker_core.specs.declared.io.StepFault.{StepFault}
use Rattle.worker_core.proofs.Putting.{all_live, AreLive, look_sends_is, look_spends_is, looked_is, put_twice, puts_once}
use Rattle.world_law.specs.Outputs.{Closes, Says, Sends, sends}
use Rattle.worker_core.specs.Represents.{Fails, FaultBy, Represents, StepsTo, Takes, TakesCounted, TakesNot, TakesWhole}
use Rattle.worker_core.specs.Telling.{FailsAt, TellsAt, further}
use Rattle.world_law.specs.Inputs.{Frame, Input, Look, Rebase, open_sends, outputs, taken}
use Rattle.worker_core.specs.Replies.{Greets, GreetsNot, Replies, RepliesNot, greeted, is_plain, plain, wanted_spends}
use Rattle.worker_core.specs.InCode.{wire_model, KeptMachine, KeptWorker, after_frame, bare, guild_of, in_code, kept_after, replica_id, replica_of, wire_text}
use Rattle.world_law.specs.Model.{Worker, record_of}
use Rattle.worker_core.specs.Outputs.{all_written}
use Rattle.worker_core.proofs.Records.{find_guild}
use Rattle.world_law.specs.Greeting.{first_dispatches}
use Rattle.worker_core.proofs.Numbering.{last_index}
use Rattle.worker_core.proofs.Telling.{found_at}
use Rattle.worker_core.proofs.Wanting.{there_at}
use Rattle.world_law.specs.Wants.{is_numbered, numbered}
use Rattle.world_law.specs.Frames.{frame_sends, framed, move_at, older_sends}
use Rattle.world_law.specs.Spent.{frame_spends, is_past, look_spends_by, spends}
use Rattle.world_law.proofs.Logs.{from_id}
use Rattle.worker_core.proofs.Representing.{input_kept}
use Rattle.worker_core.proofs.Counting.{past_kept}
use Rattle.worker_core.specs.Looked.{kept_looked, kept_sends, kept_spends}
use Rattle.world_law.specs.Looks.{look_sends_by, looked_by, rebase_sends_by, rebased_by}
use Rattle.world_law.specs.Keeping.{record_at, with_sessions}
use Rattle.world_law.proofs.Folds.{same_id, state_join}
use Rattle.worker_core.specs.Faults.{step_fault}
use Rattle.worker_core.specs.Masks.{keep_masks}

abbrev pub empty : ℕ → GuildCopy
empty g = replica_of (closed g)

-- ---- copies, which only the masks that are lent speak of

pub kept_copies : (new is : KeptWorker) → new ≡ is → new ≡ record is { copies = new.copies }
kept_copies new is same = same ∙ ap (λ (cs : List GuildCopy). record is { copies = cs }) (sym (ap (λ (h : KeptWorker). h.copies) same))

then_copies : (new mid is : KeptWorker) → new ≡ mid → mid ≡ record is { copies = mid.copies } → new ≡ record is { copies = new.copies }
then_copies new mid is same moved = same ∙ (moved ∙ ap (λ (cs : List GuildCopy). record is { copies = cs }) (sym (ap (λ (h : KeptWorker). h.copies) same)))

-- ---- looks

-- a look at a guild that the worker has, by its replica
module _ (k : KeptMachine) (g : ℕ) (es : List Edit) (r : GuildCopy) (found : find_id replica_id g k.logs ≡ Some (bare r)) where
  here : record_at in_code k.logs g ≡ Some r.guild
  here = find_guild g k.logs ∙ ap (option_map guild_of) found

  looked_key : replica_id (replica_of (state_from r.guild es)) ≡ g
  looked_key = from_id r.guild es ∙ key-found replica_id g k.logs (bare r) found

  pub is_there : (again : GuildCopy) → again ≡ replica_of (state_from r.guild es) → IsSome (find_id replica_id (replica_id again) (put_id replica_id (empty g) k.logs))
  is_there again is =
      let at : replica_id again ≡ g = ap replica_id is ∙ looked_key in
      ap is_some (ap (λ n. find_id replica_id n (put_id replica_id (empty g) k.logs)) at
      ∙ (find-put replica_id (empty g) g k.logs ∙ ap (λ b. if b then Some (empty g) else find_id replica_id g k.logs) (same_id g)))

  look_spent : AreLive k.core.sessions → spends in_code k (Look g es) ≡ kept_spends r.guild es k.core.sessions
  look_spent live = ap (λ o. look_spends_by in_code o k g es) here ∙ look_spends_is es k g r.guild live

  module _ (ascend : IsById replica_id k.logs) (live : AreLive k.core.sessions) where
    look_is : looked_by in_code (record_at in_code k.logs g) k g es
        ≡ record k { logs = put_id replica_id (replica_of (state_from r.guild es)) k.logs; core = with_sessions (kept_looked r.guild es k.core.sessions) k.core }
    look_is =
        let one : r.guild.id ≡ g = key-found replica_id g k.logs (bare r) found in
        let own : find_id replica_id r.guild.id k.logs ≡ Some (replica_of r.guild) = ap (λ n. find_id replica_id n k.logs) one ∙ found in
        ap (λ o. looked_by in_code o k g es) here
        ∙ (looked_is es k g r.guild live
        ∙ ap (λ rs. record k { logs = rs; core = with_sessions (kept_looked r.guild es k.core.sessions) k.core }) (puts_once es r.guild k.logs own ascend))

module _ (k : KeptWorker) (g : ℕ) (es : List Edit) (r : GuildCopy) (found : find_id replica_id g k.machine.logs ≡ Some (bare r)) (live : AreLive k.machine.core.sessions) where
  pub look_made : (k1 k2 k3 : KeptWorker) (again : GuildCopy) (out : List Written) → IsById replica_id k.machine.logs
      → k1 ≡ record k { copies = k1.copies; machine = record k.machine { logs = put_id replica_id (empty g) k.machine.logs } }
      → k2 ≡ record k1 { machine = record k1.machine { core = with_sessions (kept_looked r.guild es k1.machine.core.sessions) k1.machine.core } }
      → k3 ≡ record k2 { copies = k3.copies; machine = record k2.machine { logs = put_id replica_id again k2.machine.logs } }
      → again ≡ replica_of (state_from r.guild es)
      → out ≡ all_written (kept_sends r.guild es k1.machine.core.sessions)
      → kept_spends r.guild es k1.machine.core.sessions ≡ false
      → Takes k (Look g es) k3 out
  look_made k1 k2 k3 again out ascend one two three is sent counted =
      let core : State Replay = with_sessions (kept_looked r.guild es k.machine.core.sessions) k.machine.core in
      let key : replica_id (replica_of (state_from r.guild es)) ≡ replica_id (empty g) = looked_key k.machine g es r found in (
        three
            ∙ (ap (λ (h : KeptWorker). record h { copies = k3.copies; machine = record h.machine { logs = put_id replica_id again h.machine.logs } }) two
            ∙ (ap (λ (h : KeptWorker). record h { copies = k3.copies; machine = record h.machine { core = with_sessions (kept_looked r.guild es h.machine.core.sessions) h.machine.core; logs = put_id replica_id again h.machine.logs } }) one
            ∙ (ap (λ (a : GuildCopy). record k { copies = k3.copies; machine = record k.machine { core = core; logs = put_id replica_id a (put_id replica_id (empty g) k.machine.logs) } }) is
            ∙ (ap (λ (rs : List GuildCopy). record k { copies = k3.copies; machine = record k.machine { core = core; logs = rs } }) (put_twice (replica_of (state_from r.guild es)) (empty g) k.machine.logs key ascend)
            ∙ ap (λ (h : KeptMachine). record k { copies = k3.copies; machine = h }) (sym (look_is k.machine g es r found ascend live)))))),
        (
          sent ∙ (ap (λ (h : KeptWorker). all_written (kept_sends r.guild es h.machine.core.sessions)) one
              ∙ ap all_written (sym (ap (λ o. look_sends_by in_code o k.machine g es) (here k.machine g es r found) ∙ look_sends_is es k.machine g r.guild live))),
          look_spent k.machine g es r found live ∙ (ap (λ (h : KeptWorker). kept_spends r.guild es h.machine.core.sessions) (sym one) ∙ counted),
        ),
      )

  pub look_fails : (k1 : KeptWorker) (fault : StepFault) → k1 ≡ record k { copies = k1.copies; machine = record k.machine { logs = put_id replica_id (empty g) k.machine.logs } }
      → FaultBy (kept_spends r.guild es k1.machine.core.sessions) fault → TakesNot k (Look g es) fault
  look_fails k1 fault one fails =
      subst (λ b. FaultBy b fault) (ap (λ (h : KeptWorker). kept_spends r.guild es h.machine.core.sessions) one ∙ sym (look_spent k.machine g es r found live)) fails

-- the sessions are as they were before the replica was taken out
pub live_at : (k k1 : KeptWorker) (logs : List GuildCopy) → k1 ≡ record k { copies = k1.copies; machine = record k.machine { logs = logs } } → length (live k1.machine.core) ≡ length k1.machine.core.sessions
    → AreLive k.machine.core.sessions
live_at k k1 logs one same = all_live k.machine.core.sessions (subst (λ (h : KeptWorker). length (live h.machine.core) ≡ length h.machine.core.sessions) one same)

-- a guild that the worker does not have
pub none_here : (k : KeptMachine) (g : ℕ) → find_id replica_id g k.logs ≡ None → record_at in_code k.logs g ≡ None
none_here k g none = find_guild g k.logs ∙ ap (option_map guild_of) none

pub look_past : (k : KeptWorker) (g : ℕ) (es : List Edit) (new : KeptWorker) (out : List Written) → find_id replica_id g k.machine.logs ≡ None → new ≡ k → out ≡ [] → Takes k (Look g es) new out
look_past k g es new out none same empty =
    let o : record_at in_code k.machine.logs g ≡ None = none_here k.machine g none in (
      kept_copies new (record k { machine = looked_by in_code (record_at in_code k.machine.logs g) k.machine g es }) (same ∙ ap (λ o. record k { machine = looked_by in_code o k.machine g es }) (sym o)),
      (empty ∙ ap (λ o. all_written (look_sends_by in_code o k.machine g es)) (sym o), ap (λ o. look_spends_by in_code o k.machine g es) o),
    )

-- ---- the replies of a call

module _ (k1 new : KeptWorker) (out : List Written) where
  -- what a list of replies leaves
  abbrev pub Replied : List Reply → Type 0
  Replied replies = (list_all is_plain replies ≡ true → (new ≡ k1) × (out ≡ all_written (flat_map plain replies))) × ((r : Reply) → replies ≡ r ∷ [] → Replies r k1 new [] out)

abbrev pub RepliedNot : KeptWorker → StepFault → List Reply → Type 0
RepliedNot k1 fault replies = (list_all is_plain replies ≡ true → FaultBy false fault) × ((r : Reply) → replies ≡ r ∷ [] → RepliesNot r k1 fault)

-- replies of which each is plain
pub plain_ends : {V : Type 0} (k k1 new : KeptWorker) (i : Input) (items : V → List Written) (result : Result V StepFault) (replies : List Reply)
    → k1 ≡ record (kept_after k i) { copies = k1.copies } → list_all is_plain replies ≡ true → flat_map plain replies ≡ outputs in_code k.machine i → spends in_code k.machine i ≡ false
    → (list_all is_plain replies ≡ true → MatchResult result (λ out. (new ≡ k1) × (items out ≡ all_written (flat_map plain replies))) (FaultBy false))
    → MatchResult result (λ out. Takes k i new (items out)) (TakesNot k i)
plain_ends k k1 new i items (Ok out) replies moved all is counted told = let done = told all in (then_copies new k1 (kept_after k i) done.0 moved, (done.1 ∙ ap all_written is, counted))
plain_ends k k1 new i items (Err fault) replies moved all is counted told = subst (λ b. FaultBy b fault) (sym counted) (told all)

-- one reply more
pub plain_reply : (r : Reply) (old new : KeptWorker) (before out : List Written) → is_plain r ≡ true → Replies r old new before out → (new ≡ old) × (out ≡ before ++ all_written (plain r))
plain_reply (reply.Send conn payload) old new before out is done = done
plain_reply (reply.Close conn code) old new before out is done = done
plain_reply (reply.Text conn text) old new before out is done = done
plain_reply (reply.Begin n) old new before out is done = absurd (cc is)
plain_reply (reply.Ask n ask) old new before out is done = absurd (cc is)
plain_reply (reply.Presence n status) old new before out is done = absurd (cc is)
plain_reply (reply.Voice n ask) old new before out is done = absurd (cc is)

-- the last of some replies
pub plain_last : (before : List Reply) (r : Reply) → list_all is_plain (before ++ r ∷ []) ≡ true → (list_all is_plain before ≡ true) × (is_plain r ≡ true)
plain_last [] r all = (refl, grind (arith, all))
plain_last (b ∷ before) r all = by_test (is_plain b) all (plain_last before r)
  where
    by_test : (own : Bool) → (own && list_all is_plain (before ++ r ∷ [])) ≡ true
        → (list_all is_plain (before ++ r ∷ []) ≡ true → (list_all is_plain before ≡ true) × (is_plain r ≡ true))
        → ((own && list_all is_plain before) ≡ true) × (is_plain r ≡ true)
    by_test true all rest = rest all
    by_test false all rest = absurd (cc all)

-- a reply that is the only one
pub alone : (before rest : List Reply) (r only : Reply) → before ++ r ∷ rest ≡ only ∷ [] → (before ≡ []) × (r ≡ only)
alone [] rest r only is = (refl, cc)
alone (b ∷ []) rest r only is = absurd (cc)
alone (b ∷ c ∷ before) rest r only is = absurd (cc)

pub still_first : (before : List Reply) (now old : KeptWorker) → before ≡ [] → (list_all is_plain before ≡ true → now ≡ old) → now ≡ old
still_first before now old none same = same (ap (list_all is_plain) none)

pub nothing_left : {A : Type 0} (xs : List A) → length xs ≡ 0 → xs ≡ []
nothing_left [] none = refl
nothing_left (x ∷ xs) none = absurd (omega arith)

-- the session that begins is the last one, and is told its first dispatches
module _ (old : KeptWorker) (n : ℕ) (list : List Dispatch) (once : AreNumberedOnce old.machine.core)
    (first : option_map_or (greeted old.machine n) (numbered n old.machine.core.sessions) [] ≡ list) where
  its_first : (front : List (Session Replay)) (x : Session Replay) → old.machine.core.sessions ≡ front ++ x ∷ [] → is_numbered n x ≡ true → list ≡ greeted old.machine n x
  its_first front x is same =
      let s = old.machine.core in
      sym first ∙ ap (λ o. option_map_or (greeted old.machine n) o [])
      (sym (there_at (is_numbered n) s.sessions (length front) (last_index n front x s is same once)) ∙ found_at (length front) front x [] s (is, refl))

  pub greet_made : {V : Type 0} (new : KeptWorker) (before out : List Written) (result : Result V StepFault)
      → OnOk result (new ≡ record old { machine = record old.machine { core = new.machine.core } })
      → ((index : ℕ) → position (is_numbered n) old.machine.core.sessions ≡ Some index
      → MatchResult result (λ v. TellsAt index (λ x. list) old.machine.core new.machine.core before out) (FailsAt index (λ x. list) old.machine.core))
      → MatchResult result (λ v. Greets old n new before out) (GreetsNot old n)
  greet_made new before out (Ok v) core told = λ front x is same.
      let here = its_first front x is same in
      let all = told (length front) (last_index n front x old.machine.core is same once) front [] x (is, refl) in (
        core ∙ ap (λ (s : State Replay). record old { machine = record old.machine { core = s } }) (all.0 ∙ ap (λ ds. with_sessions (front ++ further ds x ∷ []) old.machine.core) here),
        (
          all.1.0 ∙ ap (λ ds. before ++ all_written (sends wire_text x.condition x.sent.last ds)) here,
          ap (λ ds. is_past x.sent.last (length ds)) (sym here) ∙ all.1.1,
        ),
      )
  greet_made new before out (Err fault) core told = λ front x is same.
      subst (λ ds. FaultBy (is_past x.sent.last (length ds)) fault) (its_first front x is same)
      (told (length front) (last_index n front x old.machine.core is same once) front [] x (is, refl))

-- ---- a connection that opens, and time that passes

pub opens_plain : (conn : ℕ) (s : State Replay) → list_all is_plain (open_replies conn s) ≡ true
opens_plain conn s = by_room (has_connection conn s) (nat_lt (length s.connections) 64)
  where
    by_room : (b c : Bool) → list_all is_plain (if b then [] else (if c then reply.Send conn (Hello 41250) ∷ [] else reply.Close conn 4000 ∷ [])) ≡ true
    by_room true c = refl
    by_room false true = refl
    by_room false false = refl

pub opens_out : (conn : ℕ) (s : State Replay) → flat_map plain (open_replies conn s) ≡ open_sends conn s
opens_out conn s = by_room (has_connection conn s) (nat_lt (length s.connections) 64)
  where
    by_room : (b c : Bool) → flat_map plain (if b then [] else (if c then reply.Send conn (Hello 41250) ∷ [] else reply.Close conn 4000 ∷ []))
        ≡ (if b then [] else (if c then Says conn (Hello 41250) ∷ [] else Closes conn 4000 ∷ []))
    by_room true c = refl
    by_room false true = refl
    by_room false false = refl

pub closes_plain : (conns : List ℕ) → list_all is_plain (closes conns) ≡ true
closes_plain [] = refl
closes_plain (conn ∷ conns) = closes_plain conns

pub closes_out : (conns : List ℕ) → flat_map plain (closes conns) ≡ map (λ conn. Closes conn 4000) conns
closes_out [] = refl
closes_out (conn ∷ conns) = ap (λ out. Closes conn 4000 ∷ out) (closes_out conns)

-- ---- a log that is taken over whole

-- it is given by the record after its first entries and those that follow
pub from_base : (g base : ℕ) (log es : List Edit) (basis : Record) → basis ≡ state g (take base log) → es ≡ drop base log → state_from basis es ≡ state g log
from_base g base log es basis first rest =
    ap (λ s. state_from s es) first
    ∙ (ap (state_from (state g (take base log))) rest
    ∙ (sym (state_join (closed g) (take base log) (drop base log)) ∙ ap (state_from (closed g)) (take-append-drop base log)))

record_there : (k : KeptMachine) (g : ℕ) → has_id replica_id g k.logs ≡ true → (s : Record) × (record_at in_code k.logs g ≡ Some s)
record_there k g has = by_found (find_id replica_id g k.logs) refl
  where
    by_found : (o : Option GuildCopy) → find_id replica_id g k.logs ≡ o → (s : Record) × (record_at in_code k.logs g ≡ Some s)
    by_found None e = absurd (cc (has, ap is_some e))
    by_found (Some r) e = (r.guild, find_guild g k.logs ∙ ap (option_map guild_of) e)

-- a guild that the worker does not have
pub rebase_past : (k : KeptWorker) (g : ℕ) (log : List Edit) (out : List Written) → has_id replica_id g k.machine.logs ≡ false → out ≡ [] → Takes k (Rebase g log) k out
rebase_past k g log out lacks empty =
    let o : record_at in_code k.machine.logs g ≡ None = none_here k.machine g (by_found (find_id replica_id g k.machine.logs) lacks) in
    (kept_copies k (kept_after k (Rebase g log)) (ap (λ o. record k { machine = rebased_by in_code o k.machine g log }) (sym o)), (empty ∙ ap (λ o. all_written (rebase_sends_by o k.machine.core)) (sym o), refl))
  where
    by_found : (o : Option GuildCopy) → is_some o ≡ false → o ≡ None
    by_found None e = refl
    by_found (Some r) e = absurd (cc e)

module _ (k k1 k2 : KeptWorker) (g : ℕ) (log : List Edit) (s : Record) (made : s ≡ state g log) (has : has_id replica_id g k.machine.logs ≡ true)
    (one : k1 ≡ record k { copies = k1.copies; machine = record k.machine { logs = put_id replica_id (replica_of s) k.machine.logs } })
    (two : k2 ≡ record k1 { machine = record k1.machine { core = all_ended (λ x. []) k1.machine.core } }) where
  rebase_moved : k2 ≡ record (kept_after k (Rebase g log)) { copies = k2.copies }
  rebase_moved =
      kept_copies k2 (record (kept_after k (Rebase g log)) { copies = k1.copies })
      (two ∙ (ap (λ (h : KeptWorker). record h { machine = record h.machine { core = all_ended (λ x. []) h.machine.core } }) one
      ∙ (ap (λ (r : Record). record k { copies = k1.copies; machine = record k.machine { logs = put_id replica_id (replica_of r) k.machine.logs; core = all_ended (λ x. []) k.machine.core } }) made
      ∙ ap (λ o. record k { copies = k1.copies; machine = rebased_by in_code o k.machine g log }) (sym (record_there k.machine g has).1))))

  rebase_out : map (λ conn. Closes conn 4000) (session_conns k1.machine.core) ≡ outputs in_code k.machine (Rebase g log)
  rebase_out =
      ap (λ (h : KeptWorker). map (λ conn. Closes conn 4000) (session_conns h.machine.core)) one
      ∙ ap (λ o. rebase_sends_by o k.machine.core) (sym (record_there k.machine g has).1)

  pub rebase_ends : {V : Type 0} (new : KeptWorker) (items : V → List Written) (result : Result V StepFault) (replies : List Reply) → replies ≡ end_all_replies k1.machine.core
      → (list_all is_plain replies ≡ true → MatchResult result (λ out. (new ≡ k2) × (items out ≡ all_written (flat_map plain replies))) (FaultBy false))
      → MatchResult result (λ out. Takes k (Rebase g log) new (items out)) (TakesNot k (Rebase g log))
  rebase_ends new items result replies is told =
      plain_ends k k2 new (Rebase g log) items result replies rebase_moved (ap (list_all is_plain) is ∙ closes_plain (session_conns k1.machine.core))
      (ap (flat_map plain) is ∙ (closes_out (session_conns k1.machine.core) ∙ rebase_out)) refl told

-- ---- a frame

texts_plain : (conn : ℕ) (texts : List (List ℕ)) (rest : List Reply) → list_all is_plain rest ≡ true → list_all is_plain (map (λ text. reply.Text conn text) texts ++ rest) ≡ true
texts_plain conn [] rest all = all
texts_plain conn (t ∷ texts) rest all = texts_plain conn texts rest all

texts_out : (conn : ℕ) (texts : List (List ℕ)) (rest : List Reply) → flat_map plain (map (λ text. reply.Text conn text) texts ++ rest) ≡ map (λ text. Sends conn text) texts ++ flat_map plain rest
texts_out conn [] rest = refl
texts_out conn (t ∷ texts) rest = ap (λ out. Sends conn t ∷ out) (texts_out conn texts rest)

resume_plain : (conn : ℕ) (older : Option ℕ) (seq : ℕ) (held : Replay) → list_all is_plain (resume_replies conn older seq held) ≡ true
resume_plain conn None seq held = texts_plain conn (texts_after held seq) (reply.Send conn (Resumed held.last) ∷ []) refl
resume_plain conn (Some c) seq held = texts_plain conn (texts_after held seq) (reply.Send conn (Resumed held.last) ∷ []) refl

resume_out : (conn : ℕ) (older : Option ℕ) (seq : ℕ) (held : Replay)
    → flat_map plain (resume_replies conn older seq held) ≡ older_sends older ++ (map (λ text. Sends conn text) (texts_after held seq) ++ Says conn (Resumed held.last) ∷ [])
resume_out conn None seq held = texts_out conn (texts_after held seq) (reply.Send conn (Resumed held.last) ∷ [])
resume_out conn (Some c) seq held = ap (λ out. Closes c 4000 ∷ out) (texts_out conn (texts_after held seq) (reply.Send conn (Resumed held.last) ∷ []))

module _ (k : KeptWorker) (conn : ℕ) where
  -- the session that has begun
  abbrev begun_with : Bot → Viewer → Session Replay
  begun_with bot v = record { number = k.machine.core.made + 1; token = bot.token; name = bot.name; viewer = v; condition = Attached conn; sent = fresh bot.ring_items bot.ring_bytes }

  abbrev first_count : Bot → Viewer → ℕ
  first_count bot v = length (first_dispatches in_code k.machine v bot.name (k.machine.core.made + 1))

  abbrev Made : KeptWorker → List Written → Move → Type 0
  Made new out move = (new ≡ record k { machine = framed in_code k.machine conn move }) × ((out ≡ all_written (frame_sends in_code k.machine conn move)) × (frame_spends in_code k.machine move ≡ false))

  move_made : (k1 new : KeptWorker) (out : List Written) (move : Move) → k1 ≡ after_frame k conn move → is_spent move k.machine.core ≡ false
      → Replied k1 new out (move_replies conn move k.machine.core) → Made new out move
  move_made k1 new out Nothing is counted told = ((told.0 refl).0 ∙ is, ((told.0 refl).1, refl))
  move_made k1 new out Answers is counted told = ((told.0 refl).0 ∙ is, ((told.0 refl).1, refl))
  move_made k1 new out (ClosesWith code) is counted told = ((told.0 refl).0 ∙ is, ((told.0 refl).1, refl))
  move_made k1 new out (Begins bot v) is counted told =
      let greets : Greets (after_frame k conn (Begins bot v)) (k.machine.core.made + 1) new [] out =
      subst (λ (h : KeptWorker). Greets h (k.machine.core.made + 1) new [] out) is (told.1 (reply.Begin (k.machine.core.made + 1)) refl) in
      let all = greets k.machine.core.sessions (begun_with bot v) refl (same_id (k.machine.core.made + 1)) in
      (all.0, (all.1.0, ap (λ b. b || is_past 0 (first_count bot v)) counted ∙ all.1.1))
  move_made k1 new out Denies is counted told = ((told.0 refl).0 ∙ is, ((told.0 refl).1, refl))
  move_made k1 new out (Resumes number older seq held) is counted told =
      let plain = told.0 (resume_plain conn older seq held) in
      (plain.0 ∙ is, (plain.1 ∙ ap all_written (resume_out conn older seq held), refl))
  move_made k1 new out (Wants number want) is counted told =
      want_made number want (subst (λ (h : KeptWorker). Replies (want_reply number want) h new [] out) is (told.1 (want_reply number want) refl))
    where
      want_made : (number : ℕ) (want : Want) → Replies (want_reply number want) (after_frame k conn (Wants number want)) new [] out → Made new out (Wants number want)
      want_made number (Members ask) gives = gives
      want_made number (Presence status) gives = gives
      want_made number (Voice ask) gives = gives

  move_fails : (k1 : KeptWorker) (fault : StepFault) (move : Move) → k1 ≡ after_frame k conn move → is_spent move k.machine.core ≡ false
      → RepliedNot k1 fault (move_replies conn move k.machine.core) → FaultBy (frame_spends in_code k.machine move) fault
  move_fails k1 fault Nothing is counted told = told.0 refl
  move_fails k1 fault Answers is counted told = told.0 refl
  move_fails k1 fault (ClosesWith code) is counted told = told.0 refl
  move_fails k1 fault (Begins bot v) is counted told =
      let here = subst (λ (h : KeptWorker). GreetsNot h (k.machine.core.made + 1) fault) is (told.1 (reply.Begin (k.machine.core.made + 1)) refl) in
      let past = here k.machine.core.sessions (begun_with bot v) refl (same_id (k.machine.core.made + 1)) in
      subst (λ b. FaultBy (b || is_past 0 (first_count bot v)) fault) (sym counted) past
  move_fails k1 fault Denies is counted told = told.0 refl
  move_fails k1 fault (Resumes number older seq held) is counted told = told.0 (resume_plain conn older seq held)
  move_fails k1 fault (Wants number want) is counted told =
      want_fails number want (subst (λ (h : KeptWorker). RepliesNot (want_reply number want) h fault) is (told.1 (want_reply number want) refl))
    where
      want_fails : (number : ℕ) (want : Want) → RepliesNot (want_reply number want) (after_frame k conn (Wants number want)) fault → FaultBy (wanted_spends k.machine number want) fault
      want_fails number (Members ask) gives = gives
      want_fails number (Presence status) gives = gives
      want_fails number (Voice ask) gives = gives

  spent_frame : (move : Move) → is_spent move k.machine.core ≡ true → frame_spends in_code k.machine move ≡ true
  spent_frame Nothing e = e
  spent_frame Answers e = e
  spent_frame (ClosesWith code) e = e
  spent_frame (Begins bot v) e = ap (λ b. b || is_past 0 (first_count bot v)) e
  spent_frame Denies e = e
  spent_frame (Resumes number older seq held) e = e
  spent_frame (Wants number want) e = absurd (cc e)

  module _ (received : List ℕ) where
    abbrev move : Move
    move = move_at in_code k.machine conn received

    pub frame_ends : {V : Type 0} (items : V → List Written) (result : Result V StepFault) (k1 new : KeptWorker) (replies : List Reply) → replies ≡ move_replies conn move k.machine.core
        → k1 ≡ after_frame k conn move → is_spent move k.machine.core ≡ false
        → (list_all is_plain replies ≡ true → MatchResult result (λ out. (new ≡ k1) × (items out ≡ all_written (flat_map plain replies))) (FaultBy false))
        → ((r : Reply) → replies ≡ r ∷ [] → MatchResult result (λ out. Replies r k1 new [] (items out)) (RepliesNot r k1))
        → MatchResult result (λ out. Takes k (Frame conn received) new (items out)) (TakesNot k (Frame conn received))
    frame_ends items (Ok out) k1 new replies is moved_to counted all one =
        let made = move_made k1 new (items out) move moved_to counted (subst (Replied k1 new (items out)) is (all, one)) in
        (kept_copies new (kept_after k (Frame conn received)) made.0, made.1)
    frame_ends items (Err fault) k1 new replies is moved_to counted all one = move_fails k1 fault move moved_to counted (subst (RepliedNot k1 fault) is (all, one))

    pub frame_refused : (fault : SessionFault) → (fault ≡ session.Spent → is_spent move k.machine.core ≡ true) → TakesNot k (Frame conn received) (step_fault fault)
    frame_refused session.Spent spent = spent_frame move (spent refl)
    frame_refused session.Memory spent = tt

-- masks are kept after the worker has taken it
pub taken_whole : (k mid new : KeptWorker) (i : Input) (out : List Written) → TakesCounted k i mid out → new ≡ record mid { copies = new.copies }
    → keep_masks new.copies mid.machine.core.sessions ≡ true → TakesWhole k i new out
taken_whole k mid new i out takes same keeps = (
  (same ∙ ap (λ (h : KeptWorker). record h { copies = new.copies }) takes.0, takes.1),
  ap (λ (h : KeptWorker). keep_masks new.copies h.machine.core.sessions) same ∙ keeps,
)

-- ---- in the words of the model

pub steps : {V : Type 0} (k new : KeptWorker) (w : Worker) (i : Input) (items : V → List Written) (result : Result V StepFault) → Represents k w
    → MatchResult result (λ out. TakesWhole k i new (items out)) (TakesNot k i) → MatchResult result (λ out. StepsTo w i new (items out)) (Fails w i)
steps k new w i items (Ok out) stands takes =
    let same = input_kept k.machine w stands.machine i in (
      subst (λ (h : KeptWorker). Represents h (taken wire_model w i)) (sym takes.0.0) (record {
        goes_on = stands.goes_on;
        keeps = ap (λ (h : KeptWorker). keep_masks new.copies h.machine.core.sessions) (sym takes.0.0) ∙ takes.1;
        past = past_kept k w stands i;
        machine = same.0;
      }),
      (takes.0.1.0 ∙ ap all_written same.1.0, sym same.1.1 ∙ takes.0.1.1),
    )
steps k new w i items (Err fault) stands takes = subst (λ b. FaultBy b fault) (input_kept k.machine w stands.machine i).1.1 takes

-- ---- the first worker

abbrev pub first_replica : ℕ → GuildCopy
first_replica g = replica_of (closed g)

first_put : (g : ℕ) (gs : List ℕ) → put_id replica_id (first_replica g) (map first_replica gs) ≡ map first_replica (put_id own_id g gs)
first_put g [] = refl
first_put g (h ∷ gs) = by_place (nat_lt g h) (g == h) (first_put g gs)
  where
    by_place : (below same : Bool) → put_id replica_id (first_replica g) (map first_replica gs) ≡ map first_replica (put_id own_id g gs)
        → (if below then first_replica g ∷ first_replica h ∷ map first_replica gs else (if same then first_replica g ∷ map first_replica gs else first_replica h ∷ put_id replica_id (first_replica g) (map first_replica gs)))
        ≡ map first_replica (if below then g ∷ h ∷ gs else (if same then g ∷ gs else h ∷ put_id own_id g gs))
    by_place true same rest = refl
    by_place false true rest = refl
    by_place false false rest = ap (λ rs. first_replica h ∷ rs) rest

pub first_all : (gs hs : List ℕ) → put_all replica_id (map first_replica hs) (map first_replica gs) ≡ map first_replica (put_all own_id hs gs)
first_all [] hs = refl
first_all (g ∷ gs) hs = ap (λ rs. put_all replica_id rs (map first_replica gs)) (first_put g hs) ∙ first_all gs (put_id own_id g hs)

pub ids_ascend : (gs : List ℕ) → IsById own_id (put_all own_id [] gs)
ids_ascend gs = IsById-put_all own_id [] gs tt

pub no_more : {A : Type 0} (xs : List A) (i : ℕ) → length xs ≤ i → drop i xs ≡ []
no_more [] zero le = refl
no_more [] (suc i) le = refl
no_more (x ∷ xs) zero le = absurd (omega (arith, le))
no_more (x ∷ xs) (suc i) le = no_more xs i (omega (arith, le))

-- their records are those of empty logs
pub first_records : (gs : List ℕ) → map guild_of (map first_replica gs) ≡ map (record_of (λ g. [])) gs
first_records [] = refl
first_records (g ∷ gs) = ap (λ rs. closed g ∷ rs) (first_records gs)
