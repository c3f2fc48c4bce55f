-- What was sent to each session of a worker holds after each input.
use Rattle.edit_events.proofs.Keeps.{edit_keeps}
use Rattle.edit_events.proofs.Others.{projection_stays, others_stay}
use Rattle.std.proofs.Common.{◌≡◌, ℕ, ◌+◌, ◌≤◌, List, [], ◌∷◌, ◌++◌, Bool, true, false, Option, Some, None, if◌then◌else◌, length, take, refl, sym, ap, subst, ◌∙◌, arith, ◌⊎◌, inl}
use Rattle.std.specs.Prelude.{All, ◌==◌, flat_map, nat_le, nat_lt}
use Rattle.std.proofs.lemmas.List.Elements.{All-map, All-weaker, All-nil, All-cons, All-append, All-push, All-head, All-tail}
use Rattle.std.proofs.lemmas.List.{take-append-le, length-append}
use Rattle.std.proofs.Math.Seq.{take-length}
use Rattle.std.proofs.lemmas.Bool.{eqb-true}
use Rattle.guild_model.specs.Record.{Record, closed}
use Rattle.dispatch_types.specs.declared.viewer.Viewer.{Viewer}
use Rattle.dispatch_types.specs.declared.dispatch.Dispatch.{Dispatch}
use Rattle.dispatch_types.specs.declared.dispatch.Dispatch.TheVariants.{Ready}
use Rattle.dispatch_types.specs.Fold.{Held, contains, purge, fold_from}
use Rattle.edit_apply.specs.Edits.{after, state}
use Rattle.edit_apply.specs.declared.Edit.{Edit}
use Rattle.edit_events.specs.Due.{due}
use Rattle.edit_events.specs.Law.{Agrees}
use Rattle.session_core.specs.declared.bot.Bot.{Bot}
use Rattle.session_core.specs.declared.reply.Mark.{Mark}
use Rattle.session_core.specs.declared.reply.Mark.TheVariants.{Start, Entry}
use Rattle.session_core.specs.State.{State, Session, Condition, Attached, Detached, Ended, is_live, has_connection, released, opened, gone, begun}
use Rattle.session_core.specs.Resume.{joined, attached_to, resumed}
use Rattle.session_core.specs.Ends.{is_final, lost, all_gone, left_of, left, client_closed, kept_for, silent_of, ended_if_live}
use Rattle.world_law.specs.Keeping.{Cursors}
use Rattle.world_law.proofs.Entries.{Entries, entries_after, entries_first, entries_grown}
use Rattle.world_law.proofs.Quiet.{IsQuiet, greetings_quiet}
use Rattle.world_law.proofs.Sessions.{Meets, grown, more_sent}
use Rattle.world_law.specs.Model.{Seen, Worker, cursors, in_model, record_of, records_of, seen_as, seen_with}
use Rattle.world_law.specs.Sent.{Sent, SentDispatch, ended_at, told}
use Rattle.world_law.specs.Greeting.{begins_with, first_dispatches, greeting_of, ready}
use Rattle.world_law.specs.Looks.{entered, looked, rebased_by}
use Rattle.world_law.proofs.Greetings.{first_agrees}
use Rattle.world_law.specs.Entries.{first_cursors}
use Rattle.world_law.specs.Folds.{held, last_cursors}
use Rattle.world_law.proofs.Folds.{held_join, state_join}
use Rattle.world_law.proofs.Entered.{next_record, told_entry}
use Rattle.world_law.specs.Inputs.{passed}
use Rattle.world_law.proofs.Logs.{state_id, state_is_well}

module _ (seen : Seen) (g : ℕ) (e : Edit) where
  abbrev pub is : Seen
  is = seen_with seen g e

  prefix_kept : (h p : ℕ) → p ≤ length (seen h) → take p (is h) ≡ take p (seen h)
  prefix_kept h p le = by_id (g == h)
    where
      by_id : (b : Bool) → take p (if b then seen h ++ e ∷ [] else seen h) ≡ take p (seen h)
      by_id true = take-append-le p (seen h) (e ∷ []) le
      by_id false = refl

  longer : (h : ℕ) → length (seen h) ≤ length (is h)
  longer h = by_id (g == h)
    where
      by_id : (b : Bool) → length (seen h) ≤ length (if b then seen h ++ e ∷ [] else seen h)
      by_id true = omega (arith, length-append (seen h) (e ∷ []))
      by_id false = omega arith

  by_one : (h p : ℕ) → p ≤ length (is h) → (p ≤ length (seen h)) ⊎ (p ≡ length (is h))
  by_one h p = by_id (g == h)
    where
      by_id : (b : Bool) → p ≤ length (if b then seen h ++ e ∷ [] else seen h) → (p ≤ length (seen h)) ⊎ (p ≡ length (if b then seen h ++ e ∷ [] else seen h))
      by_id true le = grind (arith, length-append (seen h) (e ∷ []))
      by_id false le = inl le

  -- a client that held the projection holds that of the longer log
  module _ (v : Viewer) (sent : List SentDispatch) (mark : Mark) (old : Meets seen (cursors seen) v sent) where
    abbrev pub ds : List Dispatch
    ds = due (state g (seen g)) e v

    held_now : (h : ℕ) → Agrees (state h (seen h)) v (held v h sent)
    held_now h = subst (λ (es : List Edit). Agrees (state h es) v (held v h sent)) (take-length (seen h)) (old.current h)

    own_more : Agrees (state g (seen g ++ e ∷ [])) v (fold_from v.intents g (held v g sent) ds)
    own_more =
        let s : Record = state g (seen g) in
        let P : ℕ → Type 0 = λ n. Agrees (after s e) v (fold_from v.intents n (held v g sent) ds) in
        let kept : P s.id = edit_keeps s e v (held v g sent) (state_is_well g (seen g)) (held_now g) in
        let here : P g = subst P (state_id g (seen g)) kept in
        subst (λ (t : Record). Agrees t v (fold_from v.intents g (held v g sent) ds)) (sym (state_join (closed g) (seen g) (e ∷ []))) here

    others_more : (h : ℕ) → (g == h) ≡ false → Agrees (state h (seen h)) v (fold_from v.intents h (held v h sent) ds)
    others_more h differ =
        let Q : ℕ → Type 0 = λ n. purge v.intents n (held v h sent) ≡ held v h sent in
        let still : Q h = subst Q (state_id h (seen h)) (projection_stays (state h (seen h)) v (held v h sent) (state_is_well h (seen h)) (held_now h)) in
        let apart : ((state g (seen g)).id == h) ≡ false = ap (λ n. n == h) (state_id g (seen g)) ∙ differ in
        subst (λ (hd : Held). Agrees (state h (seen h)) v hd) (sym (others_stay (state g (seen g)) e v h (held v h sent) apart still)) (held_now h)

    held_more : (h : ℕ) (b : Bool) → (g == h) ≡ b → Agrees (state h (if b then seen h ++ e ∷ [] else seen h)) v (fold_from v.intents h (held v h sent) ds)
    held_more h true same =
        let here : g ≡ h = eqb-true g h same in
        subst (λ (n : ℕ). Agrees (state n (seen n ++ e ∷ [])) v (fold_from v.intents n (held v n sent) ds)) here own_more
    held_more h false differ = others_more h differ

    held_after : (h : ℕ) → Agrees (state h (is h)) v (held v h (sent ++ told mark (cursors seen) (cursors is) ds))
    held_after h = subst (λ (hd : Held). Agrees (state h (is h)) v hd) (sym (held_join v h sent mark (cursors seen) (cursors is) ds)) (held_more h (g == h) refl)

    pub after_more : Meets is (cursors is) v (sent ++ told mark (cursors seen) (cursors is) ds)
    after_more = more_sent seen is v sent mark ds prefix_kept longer by_one old.folds old.rises old.past held_after

-- only of a session that has ended the last cursors are kept
abbrev pub IsMarked : Condition → Option Cursors → Type 0
IsMarked (Attached conn) end = end ≡ None
IsMarked (Detached since) end = end ≡ None
IsMarked Ended end = (last : Cursors) × (end ≡ Some last)

pub record SessionMeets (seen : Seen) (x : Session Sent) : Type 0 where
  pub meets : Meets seen (last_cursors (cursors seen) x) x.viewer x.sent.told
  pub marked : IsMarked x.condition x.sent.end
  pub entries : Entries seen (last_cursors (cursors seen) x) x.viewer x.sent.told

abbrev pub at : Session Sent → Condition → Option Cursors → Session Sent
at x condition end = record x { condition = condition; sent = record x.sent { end = end } }

-- a session that has ended saw less than what was handled since
ended_grown : (was is : Seen) → ((g p : ℕ) → p ≤ length (was g) → take p (is g) ≡ take p (was g)) → ((g : ℕ) → length (was g) ≤ length (is g))
    → (x : Session Sent) (last : Cursors) → SessionMeets was (at x Ended (Some last)) → SessionMeets is (at x Ended (Some last))
ended_grown was is same up x last old = record {
  meets = grown was is last x.viewer x.sent.told (λ h p le. same h p (omega (arith, old.meets.within h, le))) (λ h. omega (arith, old.meets.within h, up h)) old.meets;
  marked = old.marked;
  entries = record {
    starts = old.entries.starts;
    plain = old.entries.plain;
    holds = entries_grown was is (first_cursors x.sent.told) last x.viewer x.sent.told (λ h p le. same h p (omega (arith, old.meets.within h, le))) old.entries.holds;
  };
}

session_entered : (seen : Seen) (g : ℕ) (e : Edit) → (x : Session Sent) → SessionMeets seen x → SessionMeets (seen_with seen g e) (told_entry seen g e x)
session_entered seen g e x = by_condition x.condition x.sent.end
  where
    live_on : (condition : Condition) → is_live condition ≡ true → IsMarked condition None → Meets seen (cursors seen) x.viewer x.sent.told → Entries seen (cursors seen) x.viewer x.sent.told → SessionMeets (seen_with seen g e) (told_entry seen g e (at x condition None))
    live_on (Attached conn) live marked old entries = record { meets = after_more seen g e x.viewer x.sent.told (Entry g (length (seen g) + 1)) old; marked = refl; entries = entries_after seen g e x.viewer x.sent.told entries }
    live_on (Detached since) live marked old entries = record { meets = after_more seen g e x.viewer x.sent.told (Entry g (length (seen g) + 1)) old; marked = refl; entries = entries_after seen g e x.viewer x.sent.told entries }
    live_on Ended live marked old entries = absurd (cc live)

    by_condition : (condition : Condition) (end : Option Cursors) → SessionMeets seen (at x condition end) → SessionMeets (seen_with seen g e) (told_entry seen g e (at x condition end))
    by_condition (Attached conn) None old = live_on (Attached conn) refl refl old.meets old.entries
    by_condition (Attached conn) (Some last) old = absurd (cc (old.marked))
    by_condition (Detached since) None old = live_on (Detached since) refl refl old.meets old.entries
    by_condition (Detached since) (Some last) old = absurd (cc (old.marked))
    by_condition Ended None old = absurd (cc (old.marked.1))
    by_condition Ended (Some last) old = ended_grown seen (seen_with seen g e) (prefix_kept seen g e) (longer seen g e) x last old

pub record Follows (w : Worker) : Type 0 where
  pub sessions : All (SessionMeets w.logs.seen) w.core.sessions
  pub strangers : (g : ℕ) → contains g w.logs.guilds ≡ false → w.logs.seen g ≡ []

entered_follows : (text : ℕ → Dispatch → List ℕ) (w : Worker) (g : ℕ) (e : Edit) → contains g w.logs.guilds ≡ true → Follows w
    → Follows (entered (in_model text) w g (record_of w.logs.seen g) e)
entered_follows text w g e there old = record {
  sessions = All-map (SessionMeets (seen_with w.logs.seen g e)) (told_entry w.logs.seen g e) w.core.sessions
      (All-weaker (SessionMeets w.logs.seen) (λ x. SessionMeets (seen_with w.logs.seen g e) (told_entry w.logs.seen g e x)) (session_entered w.logs.seen g e) w.core.sessions old.sessions);
  strangers = λ h none. by_id h none (g == h) refl;
}
  where
    by_id : (h : ℕ) → contains h w.logs.guilds ≡ false → (b : Bool) → (g == h) ≡ b → (if b then w.logs.seen h ++ e ∷ [] else w.logs.seen h) ≡ []
    by_id h none true same = let here : g ≡ h = eqb-true g h same in absurd (cc (ap (λ n. contains n w.logs.guilds) here))
    by_id h none false differ = old.strangers h none

pub looked_follows : (text : ℕ → Dispatch → List ℕ) (es : List Edit) (w : Worker) (g : ℕ) (s : Record) → s ≡ record_of w.logs.seen g → contains g w.logs.guilds ≡ true → Follows w
    → Follows (looked (in_model text) w g s es)
looked_follows text [] w g s same there old = old
looked_follows text (e ∷ es) w g s same there old =
    looked_follows text es (entered (in_model text) w g s e) g (after s e) (next_record w.logs.seen g e s same) there
    (subst (λ (r : Record). Follows (entered (in_model text) w g r e)) (sym same) (entered_follows text w g e there old))

-- a session whose connection is gone stays detached
released_meets : (seen : Seen) (conn now : ℕ) (x : Session Sent) → SessionMeets seen x → SessionMeets seen (released conn (Detached now) x)
released_meets seen conn now x = by_condition x.condition
  where
    choose : (b : Bool) (c : ℕ) → SessionMeets seen (record x { condition = Attached c }) → SessionMeets seen (if b then record x { condition = Detached now } else record x { condition = Attached c })
    choose true c old = record { meets = old.meets; marked = old.marked; entries = old.entries }
    choose false c old = old

    by_condition : (condition : Condition) → SessionMeets seen (record x { condition = condition }) → SessionMeets seen (released conn (Detached now) (record x { condition = condition }))
    by_condition (Attached c) old = choose (c == conn) c old
    by_condition (Detached since) old = old
    by_condition Ended old = old

pub gone_follows : (w : Worker) (conn : ℕ) → Follows w → Follows (record w { core = gone conn (Detached w.now) w.core })
gone_follows w conn old = record {
  sessions = All-map (SessionMeets w.logs.seen) (released conn (Detached w.now)) w.core.sessions
      (All-weaker (SessionMeets w.logs.seen) (λ x. SessionMeets w.logs.seen (released conn (Detached w.now) x)) (released_meets w.logs.seen conn w.now) w.core.sessions old.sessions);
  strangers = old.strangers;
}

pub begun_follows : (text : ℕ → Dispatch → List ℕ) (w : Worker) (conn : ℕ) (bot : Bot) (v : Viewer) → Follows w
    → Follows (record w { core = begun conn bot v (begins_with (in_model text) w bot v) w.core })
begun_follows text w conn bot v old = record {
  sessions = All-push (SessionMeets w.logs.seen) w.core.sessions _ old.sessions (record {
    meets = more_sent w.logs.seen w.logs.seen v [] Start (first_dispatches (in_model text) w v bot.name (w.core.made + 1)) (λ g p le. refl) (λ g. omega arith) (λ g p le. inl le)
        (λ earlier t later e settled g p low high. absurd (none earlier t later e)) tt (All-nil (λ t. (g : ℕ) → t.before g ≤ cursors w.logs.seen g))
        (λ h. subst (λ (hd : Held). Agrees (state h (w.logs.seen h)) v hd) (sym (held_join v h [] Start (cursors w.logs.seen) (cursors w.logs.seen) (first_dispatches (in_model text) w v bot.name (w.core.made + 1))))
        (first_agrees text w v h bot.name (w.core.made + 1) (old.strangers h)));
    marked = refl;
    entries = entries_first w.logs.seen v (Ready (ready (in_model text) w v bot.name (w.core.made + 1))) (flat_map (greeting_of v) (records_of w.logs))
        (All-cons IsQuiet _ _ refl (greetings_quiet v (records_of w.logs)));
  });
  strangers = old.strangers;
}
  where
    none : (earlier : List SentDispatch) (t : SentDispatch) (later : List SentDispatch) → [] ≡ earlier ++ t ∷ later → ⊥
    none [] t later e = cc
    none (x ∷ earlier) t later e = cc

-- a session that resumes
joined_meets : (seen : Seen) (conn number : ℕ) (x : Session Sent) → SessionMeets seen x → SessionMeets seen (joined conn number x)
joined_meets seen conn number x = by_condition x.condition
  where
    choose : (b : Bool) (condition : Condition) → is_live condition ≡ true → SessionMeets seen (record x { condition = condition }) → SessionMeets seen (if b then record x { condition = Attached conn } else record x { condition = condition })
    choose true (Attached c) live old = record { meets = old.meets; marked = old.marked; entries = old.entries }
    choose true (Detached since) live old = record { meets = old.meets; marked = old.marked; entries = old.entries }
    choose true Ended live old = absurd (cc live)
    choose false condition live old = old

    by_condition : (condition : Condition) → SessionMeets seen (record x { condition = condition }) → SessionMeets seen (joined conn number (record x { condition = condition }))
    by_condition (Attached c) old = choose (x.number == number) (Attached c) refl old
    by_condition (Detached since) old = choose (x.number == number) (Detached since) refl old
    by_condition Ended old = old

joined_follows : (w : Worker) (conn number : ℕ) → Follows w → Follows (record w { core = attached_to conn number w.core })
joined_follows w conn number old = record {
  sessions = All-map (SessionMeets w.logs.seen) (joined conn number) w.core.sessions
      (All-weaker (SessionMeets w.logs.seen) (λ x. SessionMeets w.logs.seen (joined conn number x)) (joined_meets w.logs.seen conn number) w.core.sessions old.sessions);
  strangers = old.strangers;
}

pub resumed_follows : (w : Worker) (conn number : ℕ) (older : Option ℕ) → Follows w → Follows (record w { core = resumed conn w.now number older w.core })
resumed_follows w conn number None old = joined_follows w conn number old
resumed_follows w conn number (Some c) old = joined_follows (record w { core = gone c (Detached w.now) w.core }) conn number (gone_follows w c old)

pub opened_follows : (w : Worker) (conn : ℕ) → Follows w → Follows (record w { core = opened conn w.now w.core })
opened_follows w conn old = by_connection (has_connection conn w.core) (nat_lt (length w.core.connections) 64)
  where
    by_connection : (b c : Bool) → Follows (record w { core = if b then w.core else (if c then record w.core { connections = w.core.connections ++ record { number = conn; last_heartbeat_ms = w.now; times = [] } ∷ [] } else w.core) })
    by_connection true c = old
    by_connection false true = record { sessions = old.sessions; strangers = old.strangers }
    by_connection false false = old

-- what ends, or is lost

each_all : {A : Type 0} (P Q : A → Type 0) (f : A → List A) → ((x : A) → P x → All Q (f x)) → (xs : List A) → All P xs → All Q (flat_map f xs)
each_all P Q f one [] all = All-nil Q
each_all P Q f one (x ∷ xs) all = All-append Q (f x) (flat_map f xs) (one x (All-head P x xs all)) (each_all P Q f one xs (All-tail P x xs all))

single : (seen : Seen) (x : Session Sent) → SessionMeets seen x → All (SessionMeets seen) (x ∷ [])
single seen x old = All-cons (SessionMeets seen) x [] old (All-nil (SessionMeets seen))

-- a session that has not ended, as it ends
ended_meets : (seen : Seen) (x : Session Sent) (condition : Condition) → Meets seen (cursors seen) x.viewer x.sent.told → Entries seen (cursors seen) x.viewer x.sent.told → All (SessionMeets seen) (ended_at (cursors seen) (at x condition None))
ended_meets seen x condition old entries = All-cons (SessionMeets seen) _ [] (record { meets = old; marked = (cursors seen, refl); entries = entries }) (All-nil (SessionMeets seen))

left_meets : (seen : Seen) (conn : ℕ) (x : Session Sent) → SessionMeets seen x → All (SessionMeets seen) (left_of (ended_at (cursors seen)) conn x)
left_meets seen conn x = by_condition x.condition x.sent.end
  where
    choose : (b : Bool) (c : ℕ) → SessionMeets seen (at x (Attached c) None) → All (SessionMeets seen) (if b then ended_at (cursors seen) (at x (Attached c) None) else at x (Attached c) None ∷ [])
    choose true c old = ended_meets seen x (Attached c) old.meets old.entries
    choose false c old = single seen (at x (Attached c) None) old

    by_condition : (condition : Condition) (end : Option Cursors) → SessionMeets seen (at x condition end) → All (SessionMeets seen) (left_of (ended_at (cursors seen)) conn (at x condition end))
    by_condition (Attached c) None old = choose (c == conn) c old
    by_condition (Attached c) (Some last) old = absurd (cc (old.marked))
    by_condition (Detached since) end old = single seen (at x (Detached since) end) old
    by_condition Ended end old = single seen (at x Ended end) old

kept_meets : (seen : Seen) (now : ℕ) (x : Session Sent) → SessionMeets seen x → All (SessionMeets seen) (kept_for (ended_at (cursors seen)) now x)
kept_meets seen now x = by_condition x.condition x.sent.end
  where
    choose : (b : Bool) (since : ℕ) → SessionMeets seen (at x (Detached since) None) → All (SessionMeets seen) (if b then ended_at (cursors seen) (at x (Detached since) None) else at x (Detached since) None ∷ [])
    choose true since old = ended_meets seen x (Detached since) old.meets old.entries
    choose false since old = single seen (at x (Detached since) None) old

    by_condition : (condition : Condition) (end : Option Cursors) → SessionMeets seen (at x condition end) → All (SessionMeets seen) (kept_for (ended_at (cursors seen)) now (at x condition end))
    by_condition (Attached c) end old = single seen (at x (Attached c) end) old
    by_condition (Detached since) None old = choose (nat_le (since + 180000) now) since old
    by_condition (Detached since) (Some last) old = absurd (cc (old.marked))
    by_condition Ended end old = single seen (at x Ended end) old

abbrev with_core : Worker → State Sent → Worker
with_core w s = record w { core = s }

gone_at : (w : Worker) (conn now : ℕ) → Follows w → Follows (with_core w (gone conn (Detached now) w.core))
gone_at w conn now old = record {
  sessions = All-map (SessionMeets w.logs.seen) (released conn (Detached now)) w.core.sessions
      (All-weaker (SessionMeets w.logs.seen) (λ x. SessionMeets w.logs.seen (released conn (Detached now) x)) (released_meets w.logs.seen conn now) w.core.sessions old.sessions);
  strangers = old.strangers;
}

pub lost_follows : (w : Worker) (conn : ℕ) → Follows w → Follows (with_core w (lost conn w.now w.core))
lost_follows w conn old = by_connection (has_connection conn w.core)
  where
    by_connection : (b : Bool) → Follows (with_core w (if b then gone conn (Detached w.now) w.core else w.core))
    by_connection true = gone_at w conn w.now old
    by_connection false = record { sessions = old.sessions; strangers = old.strangers }

pub closed_follows : (w : Worker) (conn code : ℕ) → Follows w → Follows (with_core w (client_closed (ended_at (cursors w.logs.seen)) conn code w.now w.core))
closed_follows w conn code old = by_code (is_final code) (has_connection conn w.core)
  where
    by_code : (final there : Bool) → Follows (with_core w (if final then (if there then left (ended_at (cursors w.logs.seen)) conn w.core else w.core) else lost conn w.now w.core))
    by_code false there = lost_follows w conn old
    by_code true false = record { sessions = old.sessions; strangers = old.strangers }
    by_code true true = record {
      sessions = each_all (SessionMeets w.logs.seen) (SessionMeets w.logs.seen) (left_of (ended_at (cursors w.logs.seen)) conn) (left_meets w.logs.seen conn) w.core.sessions old.sessions;
      strangers = old.strangers;
    }

all_gone_follows : (conns : List ℕ) (now : ℕ) (w : Worker) → Follows w → Follows (with_core w (all_gone conns now w.core))
all_gone_follows [] now w old = record { sessions = old.sessions; strangers = old.strangers }
all_gone_follows (conn ∷ conns) now w old = all_gone_follows conns now (with_core w (gone conn (Detached now) w.core)) (gone_at w conn now old)

pub ticked_follows : (text : ℕ → Dispatch → List ℕ) (w : Worker) (now : ℕ) → Follows w → Follows (passed (in_model text) w now)
ticked_follows text w now old =
    let before : Follows (with_core w (all_gone (silent_of now w.core.connections) now w.core)) = all_gone_follows (silent_of now w.core.connections) now w old in
    record {
      sessions = each_all (SessionMeets w.logs.seen) (SessionMeets w.logs.seen) (kept_for (ended_at (cursors w.logs.seen)) now) (kept_meets w.logs.seen now) (all_gone (silent_of now w.core.connections) now w.core).sessions before.sessions;
      strangers = old.strangers;
    }

-- ---- a log that is taken over whole

module _ (seen : Seen) (g : ℕ) (log missed : List Edit) (is : log ≡ seen g ++ missed) where
  abbrev whole : Seen
  whole = seen_as seen g log

  whole_kept : (h p : ℕ) → p ≤ length (seen h) → take p (whole h) ≡ take p (seen h)
  whole_kept h p le = by_id (g == h) refl
    where
      by_id : (b : Bool) → (g == h) ≡ b → take p (if b then log else seen h) ≡ take p (seen h)
      by_id true same =
          let long : log ≡ seen h ++ missed = subst (λ (n : ℕ). log ≡ seen n ++ missed) (eqb-true g h same) is in
          ap (λ es. take p es) long ∙ take-append-le p (seen h) missed le
      by_id false differ = refl

  whole_longer : (h : ℕ) → length (seen h) ≤ length (whole h)
  whole_longer h = by_id (g == h) refl
    where
      by_id : (b : Bool) → (g == h) ≡ b → length (seen h) ≤ length (if b then log else seen h)
      by_id true same =
          let long : log ≡ seen h ++ missed = subst (λ (n : ℕ). log ≡ seen n ++ missed) (eqb-true g h same) is in
          omega (arith, ap length long, length-append (seen h) missed)
      by_id false differ = omega arith

  -- each session ends as it was before
  all_end : (x : Session Sent) → SessionMeets seen x → All (SessionMeets whole) (ended_if_live (ended_at (cursors seen)) x)
  all_end x = by_condition x.condition x.sent.end
    where
      ends : Meets seen (cursors seen) x.viewer x.sent.told → Entries seen (cursors seen) x.viewer x.sent.told → All (SessionMeets whole) (at x Ended (Some (cursors seen)) ∷ [])
      ends meets entries =
          single whole (at x Ended (Some (cursors seen)))
          (ended_grown seen whole whole_kept whole_longer x (cursors seen) (record { meets = meets; marked = (cursors seen, refl); entries = entries }))

      by_condition : (condition : Condition) (end : Option Cursors) → SessionMeets seen (at x condition end) → All (SessionMeets whole) (ended_if_live (ended_at (cursors seen)) (at x condition end))
      by_condition (Attached c) None old = ends old.meets old.entries
      by_condition (Attached c) (Some last) old = absurd (cc (old.marked))
      by_condition (Detached since) None old = ends old.meets old.entries
      by_condition (Detached since) (Some last) old = absurd (cc (old.marked))
      by_condition Ended None old = absurd (cc (old.marked.1))
      by_condition Ended (Some last) old = single whole (at x Ended (Some last)) (ended_grown seen whole whole_kept whole_longer x last old)

pub rebased_follows : (text : ℕ → Dispatch → List ℕ) (w : Worker) (g : ℕ) (before : Record) (log missed : List Edit) → log ≡ w.logs.seen g ++ missed → contains g w.logs.guilds ≡ true
    → Follows w → Follows (rebased_by (in_model text) (Some before) w g log)
rebased_follows text w g before log missed is there old = record {
  sessions = each_all (SessionMeets w.logs.seen) (SessionMeets (seen_as w.logs.seen g log)) (ended_if_live (ended_at (cursors w.logs.seen))) (all_end w.logs.seen g log missed is) w.core.sessions old.sessions;
  strangers = λ h none. by_id h none (g == h) refl;
}
  where
    by_id : (h : ℕ) → contains h w.logs.guilds ≡ false → (b : Bool) → (g == h) ≡ b → (if b then log else w.logs.seen h) ≡ []
    by_id h none true same = let here : g ≡ h = eqb-true g h same in absurd (cc (ap (λ n. contains n w.logs.guilds) here))
    by_id h none false differ = old.strangers h none
