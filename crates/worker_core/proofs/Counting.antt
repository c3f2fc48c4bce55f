-- How many dispatches there are, as sessions are made, are sent more, and end.
use Rattle.std.proofs.Common.{◌≡◌, ℕ, ◌+◌, ◌-◌, ◌^◌, ◌≤◌, List, [], ◌∷◌, ◌++◌, Bool, true, false, Option, Some, None, Result, Ok, Err, if◌then◌else◌, length, min, map, refl, sym, ap, ◌∙◌, arith}
use Rattle.std.specs.Prelude.{◌==◌, flat_map, max, nat_lt, MatchResult}
use Rattle.std.specs.List.{sum_by}
use Rattle.std.proofs.lemmas.List.Sums.{sum_by-cons, sum_by-append, sum_by_push}
use Rattle.guild_model.specs.Record.{Record}
use Rattle.gateway_frames.specs.declared.frame.Ask.{Ask}
use Rattle.dispatch_types.specs.declared.viewer.Viewer.{Viewer}
use Rattle.edit_apply.specs.Edits.{after}
use Rattle.edit_apply.specs.declared.Edit.{Edit}
use Rattle.replay_ring.specs.Replay.{Replay}
use Rattle.session_core.specs.declared.bot.Bot.{Bot}
use Rattle.session_core.specs.State.{State, Session, Condition, Attached, Detached, Ended, is_on, is_live, has_connection, released, opened, gone}
use Rattle.session_core.specs.Frames.{Want, Members, Presence, Voice, Move, Nothing, Answers, ClosesWith, Begins, Denies, Resumes, Wants, moved, framed as with_frame}
use Rattle.session_core.specs.Resume.{joined, resumed}
use Rattle.session_core.specs.Ends.{is_final, is_overdue, lost, all_gone, left, client_closed, expired, ticked, silent_of}
use Rattle.world_law.specs.Keeping.{Cursors, record_at}
use Rattle.world_law.specs.Sent.{Sent, ended_at}
use Rattle.world_law.specs.Looks.{after_entry, entered, looked, looked_by, rebased_by}
use Rattle.world_law.specs.Greeting.{begins_with}
use Rattle.world_law.specs.Wants.{is_numbered, change_first, after_answer, after_want}
use Rattle.world_law.specs.Frames.{move_at, after_move, framed}
use Rattle.world_law.specs.Inputs.{Input, Look, Rebase, Open, Frame, Lost, Closed, Tick, taken}
use Rattle.world_law.specs.Model.{Logs, Worker, cursors, replay}
use Rattle.world_law.proofs.Replays.{last_is}
use Rattle.worker_core.specs.InCode.{wire_model, wire_text, in_code, KeptWorker, kept_after}
use Rattle.guild_replica.specs.Replicas.{GuildCopy}
use Rattle.worker_core.specs.declared.io.Input.{Input as Given}
use Rattle.worker_core.specs.declared.io.Input.TheVariants as given
use Rattle.worker_core.specs.declared.io.Output.{Output as Written}
use Rattle.worker_core.specs.declared.io.StepFault.{StepFault}
use Rattle.worker_core.specs.Outputs.{IsGiven}
use Rattle.worker_core.proofs.Representing.{input_kept}
use Rattle.worker_core.specs.Made.{dispatch_count, all_dispatches, ended_count, ended_dispatches, last_number, live_dispatches}
use Rattle.worker_core.specs.Represents.{Represents, counted, kept_session, kept, TakesNot, Takes, TakesCounted, may_end, may_end_by, past_with, with_ended, past_after, counted_after}

-- ---- sums

module _ {A : Type 0} (f : A → ℕ) where
  -- each item changed to one that counts as much
  same_sum : (h : A → A) → ((x : A) → f (h x) ≡ f x) → (xs : List A) → sum_by f (map h xs) ≡ sum_by f xs
  same_sum h same [] = refl
  same_sum h same (x ∷ xs) =
      sum_by-cons f (h x) (map h xs)
      ∙ (ap (λ n. n + sum_by f (map h xs)) (same x) ∙ (ap (λ n. f x + n) (same_sum h same xs) ∙ sym (sum_by-cons f x xs)))

  -- or to items that together do
  spread_sum : (h : A → List A) → ((x : A) → sum_by f (h x) ≡ f x) → (xs : List A) → sum_by f (flat_map h xs) ≡ sum_by f xs
  spread_sum h same [] = refl
  spread_sum h same (x ∷ xs) =
      sum_by-append f (h x) (flat_map h xs)
      ∙ (ap (λ n. n + sum_by f (flat_map h xs)) (same x) ∙ (ap (λ n. f x + n) (spread_sum h same xs) ∙ sym (sum_by-cons f x xs)))

  -- or that count at least as much
  spread_more : (h : A → List A) → ((x : A) → f x ≤ sum_by f (h x)) → (xs : List A) → sum_by f xs ≤ sum_by f (flat_map h xs)
  spread_more h more [] = omega arith
  spread_more h more (x ∷ xs) =
      let whole : sum_by f (x ∷ xs) ≡ f x + sum_by f xs = sum_by-cons f x xs in
      let spread : sum_by f (flat_map h (x ∷ xs)) ≡ sum_by f (h x) + sum_by f (flat_map h xs) = sum_by-append f (h x) (flat_map h xs) in
      omega (arith, whole, spread, more x, spread_more h more xs)

-- ---- a worker's dispatches are those of the sessions that have ended, and those of the live ones

one_is : (x : Session Sent) → dispatch_count x ≡ ended_count x + live_dispatches (kept_session x)
one_is x = by_condition x.condition
  where
    last : (replay wire_text x.sent).last ≡ dispatch_count x
    last = last_is wire_text x.sent

    by_condition : (condition : Condition) → dispatch_count x ≡ ended_count (record x { condition = condition }) + live_dispatches (kept_session (record x { condition = condition }))
    by_condition (Attached c) = omega (arith, last)
    by_condition (Detached since) = omega (arith, last)
    by_condition Ended = omega arith

all_is : (xs : List (Session Sent)) → all_dispatches xs ≡ ended_dispatches xs + live_dispatches (flat_map kept_session xs)
all_is [] = refl
all_is (x ∷ xs) =
    let all : all_dispatches (x ∷ xs) ≡ dispatch_count x + all_dispatches xs = sum_by-cons dispatch_count x xs in
    let ended : ended_dispatches (x ∷ xs) ≡ ended_count x + ended_dispatches xs = sum_by-cons ended_count x xs in
    let live : live_dispatches (flat_map kept_session (x ∷ xs)) ≡ live_dispatches (kept_session x) + live_dispatches (flat_map kept_session xs) = sum_by-append last_number (kept_session x) (flat_map kept_session xs) in
    omega (arith, all, ended, live, one_is x, all_is xs)

-- ---- what ends no session

entry_ends_none : (logs : Logs) (g : ℕ) (s : Record) (e : Edit) (x : Session Sent) → ended_count (after_entry wire_model logs g s e x) ≡ ended_count x
entry_ends_none logs g s e x = by_condition x.condition
  where
    by_condition : (condition : Condition) → ended_count (after_entry wire_model logs g s e (record x { condition = condition })) ≡ ended_count (record x { condition = condition })
    by_condition (Attached c) = refl
    by_condition (Detached since) = refl
    by_condition Ended = refl

looked_ends_none : (es : List Edit) (w : Worker) (g : ℕ) (s : Record) → ended_dispatches (looked wire_model w g s es).core.sessions ≡ ended_dispatches w.core.sessions
looked_ends_none [] w g s = refl
looked_ends_none (e ∷ es) w g s =
    looked_ends_none es (entered wire_model w g s e) g (after s e)
    ∙ same_sum ended_count (after_entry wire_model w.logs g s e) (entry_ends_none w.logs g s e) w.core.sessions

look_ends_none : (o : Option Record) (w : Worker) (g : ℕ) (es : List Edit) → ended_dispatches (looked_by wire_model o w g es).core.sessions ≡ ended_dispatches w.core.sessions
look_ends_none None w g es = refl
look_ends_none (Some s) w g es = looked_ends_none es w g s

released_ends_none : (conn now : ℕ) (x : Session Sent) → ended_count (released conn (Detached now) x) ≡ ended_count x
released_ends_none conn now x = by_condition x.condition
  where
    by_test : (c : ℕ) (b : Bool) → ended_count (if b then record x { condition = Detached now } else record x { condition = Attached c }) ≡ 0
    by_test c true = refl
    by_test c false = refl

    by_condition : (condition : Condition) → ended_count (released conn (Detached now) (record x { condition = condition })) ≡ ended_count (record x { condition = condition })
    by_condition (Attached c) = by_test c (c == conn)
    by_condition (Detached since) = refl
    by_condition Ended = refl

all_released : (conn now : ℕ) (xs : List (Session Sent)) → ended_dispatches (map (released conn (Detached now)) xs) ≡ ended_dispatches xs
all_released conn now xs = same_sum ended_count (released conn (Detached now)) (released_ends_none conn now) xs

joined_ends_none : (conn number : ℕ) (x : Session Sent) → ended_count (joined conn number x) ≡ ended_count x
joined_ends_none conn number x = by_condition x.condition
  where
    by_test : (condition : Condition) → is_live condition ≡ true → (b : Bool) → ended_count (if b then record x { condition = Attached conn } else record x { condition = condition }) ≡ ended_count (record x { condition = condition })
    by_test (Attached c) live true = refl
    by_test (Attached c) live false = refl
    by_test (Detached since) live true = refl
    by_test (Detached since) live false = refl
    by_test Ended live b = absurd (cc live)

    by_condition : (condition : Condition) → ended_count (joined conn number (record x { condition = condition })) ≡ ended_count (record x { condition = condition })
    by_condition (Attached c) = by_test (Attached c) refl (x.number == number)
    by_condition (Detached since) = by_test (Detached since) refl (x.number == number)
    by_condition Ended = refl

all_joined : (conn number : ℕ) (xs : List (Session Sent)) → ended_dispatches (map (joined conn number) xs) ≡ ended_dispatches xs
all_joined conn number xs = same_sum ended_count (joined conn number) (joined_ends_none conn number) xs

resumed_ends_none : (conn now number : ℕ) (older : Option ℕ) (s : State Sent) → ended_dispatches (resumed conn now number older s).sessions ≡ ended_dispatches s.sessions
resumed_ends_none conn now number None s = all_joined conn number s.sessions
resumed_ends_none conn now number (Some older) s =
    all_joined conn number (map (released older (Detached now)) s.sessions) ∙ all_released older now s.sessions

moved_ends_none : (conn now : ℕ) (start : Bot → Viewer → ℕ → Sent) (move : Move) (s : State Sent) → ended_dispatches (moved conn now start move s).sessions ≡ ended_dispatches s.sessions
moved_ends_none conn now start Nothing s = refl
moved_ends_none conn now start Answers s = refl
moved_ends_none conn now start (ClosesWith code) s = all_released conn now s.sessions
moved_ends_none conn now start (Begins bot v) s =
    let new : Session Sent = record { number = s.made + 1; token = bot.token; name = bot.name; viewer = v; condition = Attached conn; sent = start bot v (s.made + 1) } in
    let more : ended_dispatches (s.sessions ++ new ∷ []) ≡ ended_dispatches s.sessions + 0 = sum_by_push ended_count s.sessions new in
    more ∙ omega arith
moved_ends_none conn now start Denies s = refl
moved_ends_none conn now start (Resumes number older seq held) s = resumed_ends_none conn now number older s
moved_ends_none conn now start (Wants number want) s = refl

asked_ends_none : (w : Worker) (ask : Ask) (number : ℕ) (xs : List (Session Sent)) → ended_dispatches (change_first (is_numbered number) (after_answer wire_model w ask) xs) ≡ ended_dispatches xs
asked_ends_none w ask number [] = refl
asked_ends_none w ask number (x ∷ xs) = by_condition x.condition (asked_ends_none w ask number xs)
  where
    changed : List (Session Sent)
    changed = change_first (is_numbered number) (after_answer wire_model w ask) xs

    by_test : (y : Session Sent) → ended_count (after_answer wire_model w ask y) ≡ ended_count y → (b : Bool) → ended_dispatches changed ≡ ended_dispatches xs
        → ended_dispatches (if b then after_answer wire_model w ask y ∷ xs else y ∷ changed) ≡ ended_dispatches (y ∷ xs)
    by_test y same true rest = sum_by-cons ended_count (after_answer wire_model w ask y) xs ∙ (ap (λ n. n + ended_dispatches xs) same ∙ sym (sum_by-cons ended_count y xs))
    by_test y same false rest = sum_by-cons ended_count y changed ∙ (ap (λ n. ended_count y + n) rest ∙ sym (sum_by-cons ended_count y xs))

    by_condition : (condition : Condition) → ended_dispatches changed ≡ ended_dispatches xs
        → ended_dispatches (change_first (is_numbered number) (after_answer wire_model w ask) (record x { condition = condition } ∷ xs)) ≡ ended_dispatches (record x { condition = condition } ∷ xs)
    by_condition (Attached c) rest = by_test (record x { condition = Attached c }) refl (x.number == number) rest
    by_condition (Detached since) rest = by_test (record x { condition = Detached since }) refl (x.number == number) rest
    by_condition Ended rest = sum_by-cons ended_count (record x { condition = Ended }) changed
        ∙ (ap (λ n. dispatch_count x + n) rest ∙ sym (sum_by-cons ended_count (record x { condition = Ended }) xs))

want_ends_none : (number : ℕ) (want : Want) (w : Worker) → ended_dispatches (after_want wire_model number want w).core.sessions ≡ ended_dispatches w.core.sessions
want_ends_none number (Members ask) w = asked_ends_none w ask number w.core.sessions
want_ends_none number (Presence status) w = refl
want_ends_none number (Voice ask) w = refl

after_move_ends_none : (move : Move) (w : Worker) → ended_dispatches (after_move wire_model move w).core.sessions ≡ ended_dispatches w.core.sessions
after_move_ends_none Nothing w = refl
after_move_ends_none Answers w = refl
after_move_ends_none (ClosesWith code) w = refl
after_move_ends_none (Begins bot v) w = refl
after_move_ends_none Denies w = refl
after_move_ends_none (Resumes number older seq held) w = refl
after_move_ends_none (Wants number want) w = want_ends_none number want w

framed_ends_none : (w : Worker) (conn : ℕ) (move : Move) → ended_dispatches (framed wire_model w conn move).core.sessions ≡ ended_dispatches w.core.sessions
framed_ends_none w conn move =
    after_move_ends_none move (record w { core = with_frame conn w.now (begins_with wire_model w) move w.core })
    ∙ moved_ends_none conn w.now (begins_with wire_model w) move w.core

opened_ends_none : (s : State Sent) (conn now : ℕ) → ended_dispatches (opened conn now s).sessions ≡ ended_dispatches s.sessions
opened_ends_none s conn now = by_tests (has_connection conn s) (nat_lt (length s.connections) 64)
  where
    by_tests : (b c : Bool) → ended_dispatches (if b then s else (if c then record s { connections = s.connections ++ record { number = conn; last_heartbeat_ms = now; times = [] } ∷ [] } else s)).sessions ≡ ended_dispatches s.sessions
    by_tests true c = refl
    by_tests false true = refl
    by_tests false false = refl

lost_ends_none : (s : State Sent) (conn now : ℕ) → ended_dispatches (lost conn now s).sessions ≡ ended_dispatches s.sessions
lost_ends_none s conn now = by_test (has_connection conn s)
  where
    by_test : (b : Bool) → ended_dispatches (if b then gone conn (Detached now) s else s).sessions ≡ ended_dispatches s.sessions
    by_test true = all_released conn now s.sessions
    by_test false = refl

-- ---- what ends sessions: no dispatch is made, and none is lost

abbrev Ends : List (Session Sent) → List (Session Sent) → Type 0
Ends xs ys = (all_dispatches ys ≡ all_dispatches xs) × (ended_dispatches xs ≤ ended_dispatches ys)

ends_none : (xs : List (Session Sent)) → Ends xs xs
ends_none xs = (refl, omega arith)

ends_then : (xs ys zs : List (Session Sent)) → Ends xs ys → Ends ys zs → Ends xs zs
ends_then xs ys zs first later = (later.0 ∙ first.0, omega (arith, first.1, later.1))

released_count : (conn now : ℕ) (x : Session Sent) → dispatch_count (released conn (Detached now) x) ≡ dispatch_count x
released_count conn now x = by_test (is_on conn x.condition)
  where
    by_test : (b : Bool) → dispatch_count (if b then record x { condition = Detached now } else x) ≡ dispatch_count x
    by_test true = refl
    by_test false = refl

released_ends : (conn now : ℕ) (xs : List (Session Sent)) → Ends xs (map (released conn (Detached now)) xs)
released_ends conn now xs = (same_sum dispatch_count (released conn (Detached now)) (released_count conn now) xs, omega (arith, all_released conn now xs))

module _ (last : Cursors) where
  -- the sessions end that pass a test
  module _ (p : Session Sent → Bool) where
    abbrev if_ended : Session Sent → List (Session Sent)
    if_ended x = if p x then ended_at last x else x ∷ []

    if_ended_count : (x : Session Sent) → all_dispatches (if_ended x) ≡ dispatch_count x
    if_ended_count x = by_test (p x)
      where
        by_test : (b : Bool) → all_dispatches (if b then ended_at last x else x ∷ []) ≡ dispatch_count x
        by_test true = omega arith
        by_test false = omega arith

    if_ended_more : (x : Session Sent) → ended_count x ≤ ended_dispatches (if_ended x)
    if_ended_more x = by_test (p x)
      where
        at_most : (b : Bool) (n : ℕ) → (if b then 0 else n) ≤ n
        at_most true n = omega arith
        at_most false n = omega arith

        by_test : (b : Bool) → ended_count x ≤ ended_dispatches (if b then ended_at last x else x ∷ [])
        by_test true = omega (arith, at_most (is_live x.condition) (dispatch_count x))
        by_test false = omega arith

    if_ended_ends : (xs : List (Session Sent)) → Ends xs (flat_map if_ended xs)
    if_ended_ends xs = (spread_sum dispatch_count if_ended if_ended_count xs, spread_more ended_count if_ended if_ended_more xs)

  closed_ends : (s : State Sent) (conn code now : ℕ) → Ends s.sessions (client_closed (ended_at last) conn code now s).sessions
  closed_ends s conn code now = by_tests (is_final code) (has_connection conn s)
    where
      by_tests : (final there : Bool) → Ends s.sessions (if final then (if there then left (ended_at last) conn s else s) else (if there then gone conn (Detached now) s else s)).sessions
      by_tests true true = if_ended_ends (λ x. is_on conn x.condition) s.sessions
      by_tests true false = ends_none s.sessions
      by_tests false true = released_ends conn now s.sessions
      by_tests false false = ends_none s.sessions

  all_gone_ends : (conns : List ℕ) (now : ℕ) (s : State Sent) → Ends s.sessions (all_gone conns now s).sessions
  all_gone_ends [] now s = ends_none s.sessions
  all_gone_ends (conn ∷ conns) now s =
      ends_then s.sessions (gone conn (Detached now) s).sessions (all_gone conns now (gone conn (Detached now) s)).sessions
      (released_ends conn now s.sessions) (all_gone_ends conns now (gone conn (Detached now) s))

  ticked_ends : (s : State Sent) (now : ℕ) → Ends s.sessions (ticked (ended_at last) now s).sessions
  ticked_ends s now =
      let there : State Sent = all_gone (silent_of now s.connections) now s in
      ends_then s.sessions there.sessions (expired (ended_at last) now there).sessions
      (all_gone_ends (silent_of now s.connections) now s) (if_ended_ends (λ x. is_overdue now x.condition) there.sessions)

rebased_ends : (o : Option Record) (w : Worker) (g : ℕ) (log : List Edit) → Ends w.core.sessions (rebased_by wire_model o w g log).core.sessions
rebased_ends None w g log = ends_none w.core.sessions
rebased_ends (Some s) w g log = if_ended_ends (cursors w.logs.seen) (λ x. is_live x.condition) w.core.sessions

-- ---- each input

live_kept_is : (s : State Replay) (t : State Sent) → s ≡ kept t → live_dispatches s.sessions ≡ live_dispatches (flat_map kept_session t.sessions)
live_kept_is s t same = ap (λ (c : State Replay). live_dispatches c.sessions) same

-- a count up to the last number, when sessions have ended
ended_more : (past all ended live all' ended' live' : ℕ) → past ≡ min ended (2 ^ 64 - 1) → all ≡ ended + live → all' ≡ ended' + live' → all' ≡ all → ended ≤ ended'
    → min (past + (live - live')) (2 ^ 64 - 1) ≡ min ended' (2 ^ 64 - 1)
ended_more past all ended live all' ended' live' is whole whole' same more = omega (arith, is, whole, whole', same, more)

past_ended : (past : ℕ) (s s' : State Replay) (t t' : State Sent) → past ≡ min (ended_dispatches t.sessions) (2 ^ 64 - 1) → s ≡ kept t → s' ≡ kept t' → Ends t.sessions t'.sessions
    → min (past + (live_dispatches s.sessions - live_dispatches s'.sessions)) (2 ^ 64 - 1) ≡ min (ended_dispatches t'.sessions) (2 ^ 64 - 1)
past_ended past s s' t t' is same same' ends =
    ended_more past (all_dispatches t.sessions) (ended_dispatches t.sessions) (live_dispatches s.sessions)
    (all_dispatches t'.sessions) (ended_dispatches t'.sessions) (live_dispatches s'.sessions) is
    (all_is t.sessions ∙ ap (λ n. ended_dispatches t.sessions + n) (sym (live_kept_is s t same)))
    (all_is t'.sessions ∙ ap (λ n. ended_dispatches t'.sessions + n) (sym (live_kept_is s' t' same')))
    ends.0 ends.1

pub nothing_past : 0 ≡ min 0 (2 ^ 64 - 1)
nothing_past = omega arith

module _ (k : KeptWorker) (w : Worker) (stands : Represents k w) where
  when_none_ends : (n : ℕ) → n ≡ ended_dispatches w.core.sessions → k.past ≡ min n (2 ^ 64 - 1)
  when_none_ends n same = stands.past ∙ ap (λ m. min m (2 ^ 64 - 1)) (sym same)

  when_some_end : (i : Input) → Ends w.core.sessions (taken wire_model w i).core.sessions
      → past_with (live_dispatches k.machine.core.sessions) (kept_after k i) ≡ min (ended_dispatches (taken wire_model w i).core.sessions) (2 ^ 64 - 1)
  when_some_end i ends =
      past_ended k.past k.machine.core (taken in_code k.machine i).core w.core (taken wire_model w i).core
      stands.past stands.machine.core (input_kept k.machine w stands.machine i).0.core ends

  pub past_kept : (i : Input) → past_after k i ≡ min (ended_dispatches (taken wire_model w i).core.sessions) (2 ^ 64 - 1)
  past_kept (Look g es) = when_none_ends _ (look_ends_none (record_at wire_model w.logs g) w g es)
  past_kept (Rebase g log) = when_some_end (Rebase g log) (rebased_ends (record_at wire_model w.logs g) w g log)
  past_kept (Open conn) = when_none_ends _ (opened_ends_none w.core conn w.now)
  past_kept (Frame conn received) = when_none_ends _ (framed_ends_none w conn (move_at wire_model w conn received))
  past_kept (Lost conn) = when_none_ends _ (lost_ends_none w.core conn w.now)
  past_kept (Closed conn code) = when_some_end (Closed conn code) (closed_ends (cursors w.logs.seen) w.core conn code w.now)
  past_kept (Tick now) = when_some_end (Tick now) (ticked_ends (cursors w.logs.seen) w.core (max w.now now))

  -- all dispatches, by those of the sessions that have ended and of the live ones
  pub made_is : min (k.past + live_dispatches k.machine.core.sessions) (2 ^ 64 - 1) ≡ min (all_dispatches w.core.sessions) (2 ^ 64 - 1)
  made_is = omega (arith, stands.past, all_is w.core.sessions, live_kept_is k.machine.core w.core stands.machine.core)

-- ---- the calls of a step

pub ends_given : (g : Given) (i : Input) → IsGiven g i → may_end_by g ≡ may_end i
ends_given (given.Look g es) i is = ap may_end (sym is)
ends_given (given.Rebase g base basis es) i is = ap may_end (sym is.1.0)
ends_given (given.Open conn) i is = ap may_end (sym is)
ends_given (given.Frame conn text) i is = ap may_end (sym is)
ends_given (given.Lost conn) i is = ap may_end (sym is)
ends_given (given.Closed conn code) i is = ap may_end (sym is)
ends_given (given.Tick now) i is = ap may_end (sym is)

module _ (k : KeptWorker) (i : Input) where
  abbrev after_if : List GuildCopy → Bool → KeptWorker
  after_if cs b = record (kept_after k i) { copies = cs; past = if b then past_with (live_dispatches k.machine.core.sessions) (kept_after k i) else k.past }

  pub none_end : {V : Type 0} (new : KeptWorker) (items : V → List Written) (result : Result V StepFault) → may_end i ≡ false
      → MatchResult result (λ out. Takes k i new (items out)) (TakesNot k i) → MatchResult result (λ out. TakesCounted k i new (items out)) (TakesNot k i)
  none_end new items (Ok out) none takes = (takes.0 ∙ ap (after_if new.copies) (sym none), takes.1)
  none_end new items (Err fault) none takes = takes

  pub some_end : {V : Type 0} (mid new : KeptWorker) (before : ℕ) (items : V → List Written) (result : Result V StepFault) → may_end i ≡ true
      → before ≡ live_dispatches k.machine.core.sessions → new ≡ with_ended before mid
      → MatchResult result (λ out. Takes k i mid (items out)) (TakesNot k i) → MatchResult result (λ out. TakesCounted k i new (items out)) (TakesNot k i)
  some_end mid new before items (Ok out) some is counted takes =
      let same : mid.copies ≡ new.copies = sym (ap (λ (h : KeptWorker). h.copies) counted) in (
        counted ∙ (ap (λ n. with_ended n mid) is ∙ (ap (with_ended (live_dispatches k.machine.core.sessions)) takes.0 ∙ (ap (after_if mid.copies) (sym some)
            ∙ ap (λ (cs : List GuildCopy). record (counted_after k i) { copies = cs }) same))),
        takes.1,
      )
  some_end mid new before items (Err fault) some is counted takes = takes
