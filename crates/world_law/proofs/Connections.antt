-- A worker gives out nothing for a connection that has not opened or has ended.
use Rattle.std.proofs.Common.{◌≡◌, ℕ, ◌+◌, ◌<◌, List, [], ◌∷◌, ◌++◌, Bool, true, false, not, ◌||◌, ◌&&◌, Option, Some, None, Result, Ok, Err, if◌then◌else◌, length, map, refl, sym, ap, subst, ◌∙◌, arith, eq-eqb, bytes_eq, ◌-◌}
use Rattle.std.specs.Prelude.{◌==◌, flat_map, max, nat_lt, filter}
use Rattle.std.specs.List.{find, list_any}
use Rattle.std.specs.Option.{option_map_or}
use Rattle.std.proofs.lemmas.Bool.{eqb-true, or_left, or_right, or_parts, true≢false}
use Rattle.std.proofs.lemmas.Bool.Decides.{nat_tests}
use Rattle.std.proofs.lemmas.List.Folds.{list_any-append}
use Rattle.collections.specs.ById.{AllAbove, IsById, put_id, put_all}
use Rattle.collections.proofs.Finds.{IsById-put_all}
use Rattle.guild_model.specs.Record.{Record}
use Rattle.guild_model.specs.declared.presence.Status.{Status}
use Rattle.dispatch_types.specs.declared.viewer.Viewer.{Viewer}
use Rattle.dispatch_types.specs.declared.dispatch.Dispatch.{Dispatch}
use Rattle.edit_apply.specs.declared.Edit.{Edit}
use Rattle.edit_apply.specs.Edits.{after}
use Rattle.gateway_frames.specs.declared.frame.Frame.{Frame as Received}
use Rattle.gateway_frames.specs.declared.frame.Frame.TheVariants as frame
use Rattle.gateway_frames.specs.declared.frame.Identify.{Identify}
use Rattle.gateway_frames.specs.declared.frame.Resume.{Resume}
use Rattle.gateway_frames.specs.declared.fault.FrameFault.{FrameFault}
use Rattle.gateway_frames.specs.declared.out.Out.{Out}
use Rattle.gateway_frames.specs.declared.out.Out.TheVariants.{Hello, Ack, Invalid}
use Rattle.gateway_frames.specs.declared.out.Out.TheVariants as out
use Rattle.gateway_frames.specs.Read.{frame_of}
use Rattle.edit_events.specs.Due.{due}
use Rattle.session_core.specs.declared.bot.Bot.{Bot}
use Rattle.session_core.specs.State.{State, Session, Connection, Condition, Attached, Detached, Ended, is_on, is_live, attached, has_connection, has_session, number_on, released, opened, gone, begun, after_heartbeat}
use Rattle.session_core.specs.Identify.{identified}
use Rattle.session_core.specs.Rate.{is_rated, with_time, frame_counted}
use Rattle.session_core.specs.Frames.{Want, Members, Presence, Voice, Move, Nothing, Answers, ClosesWith, Begins, Denies, Resumes, Wants, identify_move, resume_move, move_in_session, move_before_session, read_move}
use Rattle.session_core.specs.Resume.{NotResumable, InvalidSeq, Resumed, session_named, resume_by, attached_to, resumed}
use Rattle.session_core.specs.Ends.{is_final, lost, all_gone, left, client_closed, silent_of, is_silent, is_overdue, own_number, connection_number, session_conns}
use Rattle.replay_ring.specs.Replay.{texts_after}
use Rattle.world_law.specs.Outputs.{Output, Says, Sends, Closes, sends}
use Rattle.world_law.specs.Keeping.{record_at}
use Rattle.world_law.specs.Sent.{Sent, ended_at}
use Rattle.world_law.specs.Looks.{after_entry, entry_sends, entered, looked, looked_by, look_sends, look_sends_by, rebased_by, rebase_sends_by}
use Rattle.world_law.specs.Wants.{is_numbered, numbered, wished, presence_wishes, voice_wishes, after_answer, after_want, want_sends}
use Rattle.world_law.specs.Greeting.{first_dispatches, begins_with}
use Rattle.world_law.specs.Frames.{older_sends, framed, frame_sends, move_at}
use Rattle.world_law.specs.Inputs.{Input, Look, Rebase, Open, Frame, Lost, Closed, Tick, taken, outputs, open_sends}
use Rattle.world_law.specs.Model.{Worker, in_model, replay, cursors, first_worker}
use Rattle.world_law.specs.Sends.{IsOff, AreOff}
use Rattle.world_law.specs.Connections.{Opened, none_opened, with_conn, without_conn, after_input, after_outputs, after_output, AreToOpen, GivesToOpen, EachOutputHolds}
use Rattle.world_law.proofs.Alone.{each_off, map_off, first_off, entry_keeps, answer_keeps, released_keeps, ending_leaves, others_off, none_on}

-- ---- outputs that close nothing

-- they go to open connections, which stay as they are
pub record IsPlain (on : Opened) (os : List Output) : Type 0 where
  pub to_open : AreToOpen on os
  pub stays : after_outputs os on ≡ on

after_join : (xs ys : List Output) (on : Opened) → after_outputs (xs ++ ys) on ≡ after_outputs ys (after_outputs xs on)
after_join [] ys on = refl
after_join (o ∷ xs) ys on = after_join xs ys (after_output o on)

to_join : (xs ys : List Output) (on : Opened) → AreToOpen on xs → AreToOpen (after_outputs xs on) ys → AreToOpen on (xs ++ ys)
to_join [] ys on first later = later
to_join (o ∷ xs) ys on first later = (first.0, to_join xs ys (after_output o on) first.1 later)

plain_join : (on : Opened) (xs ys : List Output) → IsPlain on xs → IsPlain on ys → IsPlain on (xs ++ ys)
plain_join on xs ys first later = record {
  to_open = to_join xs ys on first.to_open (subst (λ o. AreToOpen o ys) (sym first.stays) later.to_open);
  stays = after_join xs ys on ∙ ap (after_outputs ys) first.stays ∙ later.stays;
}

plain_none : (on : Opened) → IsPlain on []
plain_none on = record { to_open = tt; stays = refl }

plain_said : (on : Opened) (conn : ℕ) (out : _) → on conn ≡ true → IsPlain on (Says conn out ∷ [])
plain_said on conn out e = record { to_open = (e, tt); stays = refl }

plain_texts : (on : Opened) (conn : ℕ) (texts : List (List ℕ)) → on conn ≡ true → IsPlain on (map (λ text. Sends conn text) texts)
plain_texts on conn [] e = plain_none on
plain_texts on conn (t ∷ texts) e =
    let rest = plain_texts on conn texts e in
    record { to_open = (e, rest.to_open); stays = rest.stays }

plain_sends : (on : Opened) (text : ℕ → Dispatch → List ℕ) (condition : Condition) (n : ℕ) (ds : List Dispatch) → ((c : ℕ) → is_on c condition ≡ true → on c ≡ true) → IsPlain on (sends text condition n ds)
plain_sends on text (Attached conn) n [] opened = plain_none on
plain_sends on text (Attached conn) n (d ∷ ds) opened =
    let rest = plain_sends on text (Attached conn) (n + 1) ds opened in
    record { to_open = (opened conn (eq-eqb conn conn refl), rest.to_open); stays = rest.stays }
plain_sends on text (Detached since) n ds opened = plain_none on
plain_sends on text Ended n ds opened = plain_none on

plain_wished : (on : Opened) (g : ℕ) (edit : Option Edit) → IsPlain on (wished g edit)
plain_wished on g None = plain_none on
plain_wished on g (Some e) = record { to_open = (tt, tt); stays = refl }

-- ---- the connections and sessions of a worker

abbrev has : ℕ → List Connection → Bool
has conn ls = list_any (λ (l : Connection). l.number == conn) ls

-- no connection stands there twice
abbrev pub AreOnce : List Connection → Type 0
AreOnce [] = Unit {0}
AreOnce (l ∷ ls) = (has l.number ls ≡ false) × AreOnce ls

-- each connection of the worker is open, and each session that is attached is on one of them
pub record Holds (on : Opened) (s : State Sent) : Type 0 where
  pub opened : (conn : ℕ) → has_connection conn s ≡ true → on conn ≡ true
  pub off : (conn : ℕ) → has_connection conn s ≡ false → AreOff conn s.sessions
  pub once : AreOnce s.connections

either_way : (b : Bool) (P : Bool → Type 0) → P true → P false → P b
either_way true P t f = t
either_way false P t f = f

-- sessions that are attached are on open connections
abbrev OnOpen : Opened → List (Session Sent) → Type 0
OnOpen on xs = (conn : ℕ) → on conn ≡ false → AreOff conn xs

on_open : (on : Opened) (s : State Sent) → Holds on s → OnOpen on s.sessions
on_open on s holds conn closed = by_test (has_connection conn s) refl
  where
    by_test : (b : Bool) → has_connection conn s ≡ b → AreOff conn s.sessions
    by_test true there = absurd (true≢false (sym (holds.opened conn there) ∙ closed))
    by_test false lacks = holds.off conn lacks

one_open : (on : Opened) (x : Session Sent) → ((conn : ℕ) → on conn ≡ false → IsOff conn x) → (conn : ℕ) → is_on conn x.condition ≡ true → on conn ≡ true
one_open on x off conn here = by_test (on conn) refl
  where
    by_test : (b : Bool) → on conn ≡ b → b ≡ true
    by_test true e = refl
    by_test false e = absurd (true≢false (sym here ∙ off conn e))

-- one that is found
found_off : (conn : ℕ) (p : Session Sent → Bool) (xs : List (Session Sent)) (x : Session Sent) → find p xs ≡ Some x → AreOff conn xs → IsOff conn x
found_off conn p [] x found off = absurd (cc found)
found_off conn p (y ∷ xs) x found off = by_test (p y) found (λ later. found_off conn p xs x later off.1)
  where
    by_test : (b : Bool) → (if b then Some y else find p xs) ≡ Some x → (find p xs ≡ Some x → IsOff conn x) → IsOff conn x
    by_test true same rest = cc (same, off.0)
    by_test false later rest = rest later

found_open : (on : Opened) (p : Session Sent → Bool) (xs : List (Session Sent)) (x : Session Sent) → find p xs ≡ Some x → OnOpen on xs → (conn : ℕ) → is_on conn x.condition ≡ true → on conn ≡ true
found_open on p xs x found open_on = one_open on x (λ conn closed. found_off conn p xs x found (open_on conn closed))

-- ---- lists of connections

-- connections that keep their numbers
kept_has : (f : Connection → Connection) → ((l : Connection) → (f l).number ≡ l.number) → (conn : ℕ) (ls : List Connection) → has conn (map f ls) ≡ has conn ls
kept_has f same conn [] = refl
kept_has f same conn (l ∷ ls) = ap (λ n. (n == conn) || has conn (map f ls)) (same l) ∙ ap (λ b. (l.number == conn) || b) (kept_has f same conn ls)

kept_once : (f : Connection → Connection) → ((l : Connection) → (f l).number ≡ l.number) → (ls : List Connection) → AreOnce ls → AreOnce (map f ls)
kept_once f same [] once = tt
kept_once f same (l ∷ ls) once = (ap (λ n. has n (map f ls)) (same l) ∙ kept_has f same l.number ls ∙ once.0, kept_once f same ls once.1)

kept_holds : (on : Opened) (s : State Sent) (f : Connection → Connection) → ((l : Connection) → (f l).number ≡ l.number) → Holds on s → Holds on (record s { connections = map f s.connections })
kept_holds on s f same holds = record {
  opened = λ conn there. holds.opened conn (sym (kept_has f same conn s.connections) ∙ there);
  off = λ conn lacks. holds.off conn (sym (kept_has f same conn s.connections) ∙ lacks);
  once = kept_once f same s.connections holds.once;
}

-- connections whose numbers pass a test
left_has : (p : ℕ → Bool) (conn : ℕ) (ls : List Connection) → has conn (filter (λ (l : Connection). p l.number) ls) ≡ (p conn && has conn ls)
left_has p conn [] = never (p conn)
  where
    never : (b : Bool) → false ≡ (b && false)
    never true = refl
    never false = refl
left_has p conn (l ∷ ls) = by_tests (p l.number) (l.number == conn) refl refl (left_has p conn ls)
  where
    never : (b c : Bool) → b ≡ false → (b && c) ≡ false
    never b c e = ap (λ x. x && c) e

    by_tests : (b same : Bool) → p l.number ≡ b → (l.number == conn) ≡ same → has conn (filter (λ (l : Connection). p l.number) ls) ≡ (p conn && has conn ls)
        → has conn (if b then l ∷ filter (λ (l : Connection). p l.number) ls else filter (λ (l : Connection). p l.number) ls) ≡ (p conn && (same || has conn ls))
    by_tests true true passes same rest =
        let own : p conn ≡ true = ap p (sym (eqb-true l.number conn same)) ∙ passes in
        ap (λ b. b || has conn (filter (λ (l : Connection). p l.number) ls)) same ∙ sym (ap (λ b. b && true) own)
    by_tests true false passes differ rest = ap (λ b. b || has conn (filter (λ (l : Connection). p l.number) ls)) differ ∙ rest
    by_tests false true fails same rest =
        let own : p conn ≡ false = ap p (sym (eqb-true l.number conn same)) ∙ fails in
        rest ∙ never (p conn) (has conn ls) own ∙ sym (never (p conn) true own)
    by_tests false false fails differ rest = rest

left_once : (p : ℕ → Bool) (ls : List Connection) → AreOnce ls → AreOnce (filter (λ (l : Connection). p l.number) ls)
left_once p [] once = tt
left_once p (l ∷ ls) once = by_test (p l.number) (left_once p ls once.1)
  where
    lacks : has l.number (filter (λ (l : Connection). p l.number) ls) ≡ false
    lacks = left_has p l.number ls ∙ ap (λ b. p l.number && b) once.0 ∙ never (p l.number)
      where
        never : (b : Bool) → (b && false) ≡ false
        never true = refl
        never false = refl

    by_test : (b : Bool) → AreOnce (filter (λ (l : Connection). p l.number) ls) → AreOnce (if b then l ∷ filter (λ (l : Connection). p l.number) ls else filter (λ (l : Connection). p l.number) ls)
    by_test true rest = (lacks, rest)
    by_test false rest = rest

-- a test of two numbers, turned round
turned : (a b : ℕ) → (a == b) ≡ (b == a)
turned a b = grind (arith, nat_tests)

once_more : (ls : List Connection) (l : Connection) → has l.number ls ≡ false → AreOnce ls → AreOnce (ls ++ l ∷ [])
once_more [] l lacks once = (refl, tt)
once_more (k ∷ ls) l lacks once =
    let parts = or_parts (k.number == l.number) (has l.number ls) lacks in (
      list_any-append (λ (m : Connection). m.number == k.number) ls (l ∷ []) ∙ ap (λ b. b || ((l.number == k.number) || false)) once.0 ∙ ap (λ b. b || false) (turned l.number k.number ∙ parts.0),
      once_more ls l parts.1 once.1,
    )

-- ---- a connection that ends

not_same : (b c : Bool) → (not b && c) ≡ true → (b ≡ false) × (c ≡ true)
not_same true c e = absurd (cc e)
not_same false c e = (refl, e)

abbrev others : ℕ → ℕ → Bool
others conn n = not (n == conn)

-- a connection that is not there is not missed
without_holds : (on : Opened) (s : State Sent) (conn : ℕ) → has_connection conn s ≡ false → Holds on s → Holds (without_conn conn on) s
without_holds on s conn lacks holds = record {
  opened = λ c there. by_id c there (conn == c) refl;
  off = holds.off;
  once = holds.once;
}
  where
    by_id : (c : ℕ) → has_connection c s ≡ true → (b : Bool) → (conn == c) ≡ b → (not b && on c) ≡ true
    by_id c there true same = absurd (true≢false (sym there ∙ ap (λ n. has_connection n s) (sym (eqb-true conn c same)) ∙ lacks))
    by_id c there false differ = holds.opened c there

-- one that ends leaves no session behind
ends_holds : (on : Opened) (s : State Sent) (conn : ℕ) (xs : List (Session Sent)) → AreOff conn xs → ((c : ℕ) → AreOff c s.sessions → AreOff c xs) → Holds on s
    → Holds (without_conn conn on) (record s { connections = filter (λ (l : Connection). others conn l.number) s.connections; sessions = xs })
ends_holds on s conn xs own keeps holds = record {
  opened = λ c there.
      let parts = not_same (c == conn) (has_connection c s) (sym (left_has (others conn) c s.connections) ∙ there) in
      ap (λ b. not b && on c) (turned conn c ∙ parts.0) ∙ holds.opened c parts.1;
  off = λ c lacks. by_id c (c == conn) refl (sym (left_has (others conn) c s.connections) ∙ lacks);
  once = left_once (others conn) s.connections holds.once;
}
  where
    by_id : (c : ℕ) (b : Bool) → (c == conn) ≡ b → (others conn c && has_connection c s) ≡ false → AreOff c xs
    by_id c true same lacks = subst (λ n. AreOff n xs) (sym (eqb-true c conn same)) own
    by_id c false differ lacks = keeps c (holds.off c (sym (ap (λ b. not b && has_connection c s) differ) ∙ lacks))

pub released_off : (conn now : ℕ) (xs : List (Session Sent)) → AreOff conn (map (released conn (Detached now)) xs)
released_off conn now [] = tt
released_off conn now (x ∷ xs) = (by_test (is_on conn x.condition) refl, released_off conn now xs)
  where
    by_test : (b : Bool) → is_on conn x.condition ≡ b → IsOff conn (if b then record x { condition = Detached now } else x)
    by_test true here = refl
    by_test false off = off

gone_holds : (on : Opened) (s : State Sent) (conn now : ℕ) → Holds on s → Holds (without_conn conn on) (gone conn (Detached now) s)
gone_holds on s conn now holds =
    ends_holds on s conn (map (released conn (Detached now)) s.sessions) (released_off conn now s.sessions)
    (λ c off. map_off (released conn (Detached now)) (released_keeps conn now) c s.sessions off) holds

lost_holds : (on : Opened) (s : State Sent) (conn now : ℕ) → Holds on s → Holds (without_conn conn on) (lost conn now s)
lost_holds on s conn now holds = by_test (has_connection conn s) refl
  where
    by_test : (b : Bool) → has_connection conn s ≡ b → Holds (without_conn conn on) (if b then gone conn (Detached now) s else s)
    by_test true there = gone_holds on s conn now holds
    by_test false lacks = without_holds on s conn lacks holds

-- sessions that end by a test are on no connection
ended_off : (last : ℕ → ℕ) (p : Session Sent → Bool) (conn : ℕ) (xs : List (Session Sent)) → ((x : Session Sent) → p x ≡ false → IsOff conn x) → AreOff conn (flat_map (λ x. if p x then ended_at last x else x ∷ []) xs)
ended_off last p conn [] off = tt
ended_off last p conn (x ∷ xs) off = by_test (p x) refl (ended_off last p conn xs off)
  where
    by_test : (b : Bool) → p x ≡ b → AreOff conn (flat_map (λ x. if p x then ended_at last x else x ∷ []) xs) → AreOff conn ((if b then ended_at last x else x ∷ []) ++ flat_map (λ x. if p x then ended_at last x else x ∷ []) xs)
    by_test true ends rest = (refl, rest)
    by_test false stays rest = (off x stays, rest)

closed_holds : (on : Opened) (s : State Sent) (last : ℕ → ℕ) (conn code now : ℕ) → Holds on s → Holds (without_conn conn on) (client_closed (ended_at last) conn code now s)
closed_holds on s last conn code now holds = by_tests (is_final code) (has_connection conn s) refl
  where
    by_tests : (final b : Bool) → has_connection conn s ≡ b → Holds (without_conn conn on) (if final then (if b then left (ended_at last) conn s else s) else lost conn now s)
    by_tests false b e = lost_holds on s conn now holds
    by_tests true true there =
        ends_holds on s conn _ (ended_off last (λ x. is_on conn x.condition) conn s.sessions (λ x off. off))
        (λ c off. each_off (λ x. if is_on conn x.condition then ended_at last x else x ∷ []) (ending_leaves last (λ x. is_on conn x.condition)) c s.sessions off) holds
    by_tests true false lacks = without_holds on s conn lacks holds

-- ---- connections that are closed one after another

abbrev pub closing : List ℕ → List Output
closing conns = map (λ conn. Closes conn 4000) conns

abbrev InAll : State Sent → List ℕ → Type 0
InAll s [] = Unit {0}
InAll s (conn ∷ conns) = (has_connection conn s ≡ true) × InAll s conns

-- silent ones
gone_in : (s : State Sent) (conn now : ℕ) (conns : List ℕ) → AllAbove own_number conn conns → InAll s conns → InAll (gone conn (Detached now) s) conns
gone_in s conn now [] above all = tt
gone_in s conn now (c ∷ conns) above all =
    let differ : (c == conn) ≡ false = apart c above.0 in
    (left_has (others conn) c s.connections ∙ ap (λ b. not b && has_connection c s) differ ∙ all.0, gone_in s conn now conns above.1 all.1)
  where
    apart : (n : ℕ) → conn < n → (n == conn) ≡ false
    apart n lt = grind (arith, nat_tests)

pub record Ends (conns : List ℕ) (on : Opened) (s : State Sent) : Type 0 where
  pub to_open : AreToOpen on (closing conns)
  pub holds : Holds (after_outputs (closing conns) on) s

all_gone_ends : (conns : List ℕ) (now : ℕ) (on : Opened) (s : State Sent) → IsById own_number conns → InAll s conns → Holds on s → Ends conns on (all_gone conns now s)
all_gone_ends [] now on s up all holds = record { to_open = tt; holds = holds }
all_gone_ends (conn ∷ conns) now on s up all holds =
    let rest = all_gone_ends conns now (without_conn conn on) (gone conn (Detached now) s) up.1 (gone_in s conn now conns up.0 all.1) (gone_holds on s conn now holds) in
    record { to_open = (holds.opened conn all.0, rest.to_open); holds = rest.holds }

put_in : (s : State Sent) (c : ℕ) (conns : List ℕ) → has_connection c s ≡ true → InAll s conns → InAll s (put_id own_number c conns)
put_in s c [] there all = (there, tt)
put_in s c (d ∷ conns) there all = by_tests (nat_lt c d) (c == d) (put_in s c conns there all.1)
  where
    by_tests : (b e : Bool) → InAll s (put_id own_number c conns) → InAll s (if b then c ∷ d ∷ conns else (if e then c ∷ conns else d ∷ put_id own_number c conns))
    by_tests true e rest = (there, all)
    by_tests false true rest = (there, all.1)
    by_tests false false rest = (all.0, rest)

put_all_in : (s : State Sent) (conns more : List ℕ) → InAll s conns → InAll s more → InAll s (put_all own_number conns more)
put_all_in s conns [] all new = all
put_all_in s conns (c ∷ more) all new = put_all_in s (put_id own_number c conns) more (put_in s c conns new.0 all) new.1

-- those of a list that pass a test
some_in : (s : State Sent) (p : Connection → Bool) (ls : List Connection) → ((conn : ℕ) → has conn ls ≡ true → has_connection conn s ≡ true) → InAll s (map connection_number (filter p ls))
some_in s p [] there = tt
some_in s p (l ∷ ls) there = by_test (p l) (some_in s p ls (λ conn here. there conn (or_right (l.number == conn) (has conn ls) here)))
  where
    by_test : (b : Bool) → InAll s (map connection_number (filter p ls)) → InAll s (map connection_number (if b then l ∷ filter p ls else filter p ls))
    by_test true rest = (there l.number (or_left (l.number == l.number) (has l.number ls) (eq-eqb l.number l.number refl)), rest)
    by_test false rest = rest

silent_in : (s : State Sent) (now : ℕ) → InAll s (silent_of now s.connections)
silent_in s now = put_all_in s [] (map connection_number (filter (is_silent now) s.connections)) tt (some_in s (is_silent now) s.connections (λ conn here. here))

-- sessions that end are on no connection
expired_holds : (on : Opened) (s : State Sent) (last : ℕ → ℕ) (p : Session Sent → Bool) → Holds on s → Holds on (record s { sessions = flat_map (λ x. if p x then ended_at last x else x ∷ []) s.sessions })
expired_holds on s last p holds = record {
  opened = holds.opened;
  off = λ conn lacks. each_off (λ x. if p x then ended_at last x else x ∷ []) (ending_leaves last p) conn s.sessions (holds.off conn lacks);
  once = holds.once;
}

-- ---- connections of which each has a session

among_after : (conns : List ℕ) (on : Opened) (c : ℕ) → after_outputs (closing conns) on c ≡ (not (list_any (λ n. n == c) conns) && on c)
among_after [] on c = refl
among_after (conn ∷ conns) on c = among_after conns (without_conn conn on) c ∙ by_tests (list_any (λ n. n == c) conns) (conn == c) (on c)
  where
    by_tests : (b e o : Bool) → (not b && (not e && o)) ≡ (not (e || b) && o)
    by_tests true true o = refl
    by_tests true false o = refl
    by_tests false true o = refl
    by_tests false false o = refl

numbers_has : (conn : ℕ) (ls : List Connection) → list_any (λ n. n == conn) (map connection_number ls) ≡ has conn ls
numbers_has conn [] = refl
numbers_has conn (l ∷ ls) = ap (λ b. (l.number == conn) || b) (numbers_has conn ls)

once_to_open : (on : Opened) (ls : List Connection) → AreOnce ls → ((conn : ℕ) → has conn ls ≡ true → on conn ≡ true) → AreToOpen on (closing (map connection_number ls))
once_to_open on [] once opened = tt
once_to_open on (l ∷ ls) once opened = (
  opened l.number (or_left (l.number == l.number) (has l.number ls) (eq-eqb l.number l.number refl)),
  once_to_open (without_conn l.number on) ls once.1 (λ conn there. by_id conn there (l.number == conn) refl),
)
  where
    by_id : (conn : ℕ) → has conn ls ≡ true → (b : Bool) → (l.number == conn) ≡ b → (not b && on conn) ≡ true
    by_id conn there true same = absurd (true≢false (sym there ∙ ap (λ n. has n ls) (sym (eqb-true l.number conn same)) ∙ once.0))
    by_id conn there false differ = opened conn (or_right (l.number == conn) (has conn ls) there)

live_off : (x : Session Sent) → is_live x.condition ≡ false → (conn : ℕ) → IsOff conn x
live_off x dead conn = by_condition x.condition refl dead
  where
    by_condition : (condition : Condition) → x.condition ≡ condition → is_live condition ≡ false → is_on conn x.condition ≡ false
    by_condition (Attached c) e dead = absurd (true≢false dead)
    by_condition (Detached since) e dead = absurd (true≢false dead)
    by_condition Ended e dead = ap (is_on conn) e

module _ (on : Opened) (s : State Sent) (last : ℕ → ℕ) (holds : Holds on s) where
  abbrev with_session : ℕ → Bool
  with_session conn = has_session conn s

  abbrev without_session : ℕ → Bool
  without_session conn = not (has_session conn s)

  own_has : (conn : ℕ) → list_any (λ n. n == conn) (session_conns s) ≡ (has_session conn s && has_connection conn s)
  own_has conn = numbers_has conn (filter (λ (l : Connection). with_session l.number) s.connections) ∙ left_has with_session conn s.connections

  pub ends_all : Ends (session_conns s) on (record s {
    connections = filter (λ (l : Connection). without_session l.number) s.connections;
    sessions = flat_map (λ x. if is_live x.condition then ended_at last x else x ∷ []) s.sessions;
  })
  ends_all = record {
    to_open =
        once_to_open on (filter (λ (l : Connection). with_session l.number) s.connections) (left_once with_session s.connections holds.once)
        (λ conn there. holds.opened conn (both (has_session conn s) (has_connection conn s) (sym (left_has with_session conn s.connections) ∙ there)));
    holds = record {
      opened = λ conn there.
          let parts = not_same (has_session conn s) (has_connection conn s) (sym (left_has without_session conn s.connections) ∙ there) in
          among_after (session_conns s) on conn ∙ ap (λ b. not b && on conn) (own_has conn ∙ ap (λ b. b && has_connection conn s) parts.0) ∙ holds.opened conn parts.1;
      off = λ conn lacks. ended_off last (λ x. is_live x.condition) conn s.sessions (λ x dead. live_off x dead conn);
      once = left_once without_session s.connections holds.once;
    };
  }
    where
      both : (a b : Bool) → (a && b) ≡ true → b ≡ true
      both true b e = e
      both false b e = absurd (cc e)

-- ---- what a frame does

-- if an older connection is given up, it is that of a session
abbrev IsOlder : Option ℕ → List (Session Sent) → Type 0
IsOlder None xs = Unit {0}
IsOlder (Some older) xs = (conn : ℕ) → AreOff conn xs → (older == conn) ≡ false

-- what is so of a move on a connection
abbrev Fits : ℕ → State Sent → Move → Type 0
Fits conn s Nothing = Unit {0}
Fits conn s Answers = has_connection conn s ≡ true
Fits conn s (ClosesWith code) = has_connection conn s ≡ true
Fits conn s (Begins bot viewer) = has_connection conn s ≡ true
Fits conn s Denies = has_connection conn s ≡ true
Fits conn s (Resumes number older seq held) = (has_connection conn s ≡ true) × (AreOff conn s.sessions × IsOlder older s.sessions)
Fits conn s (Wants number want) = Unit {0}

module _ (text : ℕ → Dispatch → List ℕ) (w : Worker) (conn : ℕ) where
  older_of : (p : Session Sent → Bool) (x : Session Sent) → find p w.core.sessions ≡ Some x → (condition : Condition) → x.condition ≡ condition → IsOlder (attached condition) w.core.sessions
  older_of p x found (Attached c) is = λ other off. sym (ap (is_on other) is) ∙ found_off other p w.core.sessions x found off
  older_of p x found (Detached since) is = tt
  older_of p x found Ended is = tt

  module _ (there : has_connection conn w.core ≡ true) where
    by_start : (i : Identify) (r : Result Bot ℕ) → Fits conn w.core (identify_move i r)
    by_start i (Ok bot) = there
    by_start i (Err code) = there

    by_resume : AreOff conn w.core.sessions → (r : Resume) (p : Session Sent → Bool) (o : Option (Session Sent)) → find p w.core.sessions ≡ o → Fits conn w.core (resume_move (resume_by (replay text) r o))
    by_resume free r p None found = there
    by_resume free r p (Some x) found = by_tests (bytes_eq x.token r.token) (nat_lt (replay text x.sent).last r.seq) (nat_lt r.seq ((replay text x.sent).last - length (replay text x.sent).held))
      where
        by_tests : (a b c : Bool) → Fits conn w.core (resume_move (if not a then NotResumable else (if b then InvalidSeq else (if c then NotResumable else Resumed x.number (attached x.condition) r.seq (replay text x.sent)))))
        by_tests false b c = there
        by_tests true true c = there
        by_tests true false true = there
        by_tests true false false = (there, (free, older_of p x found x.condition refl))

    by_first : AreOff conn w.core.sessions → (f : Received) → Fits conn w.core (move_before_session (replay text) w.core f)
    by_first free (frame.Heartbeat seq) = there
    by_first free (frame.Identify i) = by_start i (identified w.core i)
    by_first free (frame.Resume r) = by_resume free r _ (session_named r.session w.core) refl
    by_first free (frame.Presence status) = there
    by_first free (frame.Voice ask) = there
    by_first free (frame.Ask ask) = there

    by_later : (number : ℕ) (f : Received) → Fits conn w.core (move_in_session number f)
    by_later number (frame.Heartbeat seq) = there
    by_later number (frame.Identify i) = there
    by_later number (frame.Resume r) = there
    by_later number (frame.Presence status) = tt
    by_later number (frame.Voice ask) = tt
    by_later number (frame.Ask ask) = tt

    by_read : (session : Option ℕ) → number_on conn w.core ≡ session → (r : Result Received FrameFault) → Fits conn w.core (read_move (replay text) w.core session r)
    by_read session is (Err fault) = there
    by_read (Some number) is (Ok f) = by_later number f
    by_read None is (Ok f) = by_first (none_on conn w.core.sessions is) f

  text_fits : (received : List ℕ) → Fits conn w.core (move_at (in_model text) w conn received)
  text_fits received = by_connection (has_connection conn w.core) refl (is_rated conn w.now w.core)
    where
      by_connection : (b : Bool) → has_connection conn w.core ≡ b → (rated : Bool) → Fits conn w.core (if b then (if rated then ClosesWith 4008 else read_move (replay text) w.core (number_on conn w.core) (frame_of received)) else Nothing)
      by_connection false e rated = tt
      by_connection true there true = there
      by_connection true there false = by_read there (number_on conn w.core) refl (frame_of received)

-- ---- each input

-- its outputs go to open connections, and the worker is on those that are left
pub record Goes (on : Opened) (os : List Output) (s : State Sent) : Type 0 where
  pub to_open : AreToOpen on os
  pub holds : Holds (after_outputs os on) s

plainly : (on : Opened) (os : List Output) (s : State Sent) → IsPlain on os → Holds on s → Goes on os s
plainly on os s plain holds = record { to_open = plain.to_open; holds = subst (λ o. Holds o s) (sym plain.stays) holds }

module _ (text : ℕ → Dispatch → List ℕ) (on : Opened) where
  plain_entry : (s : Record) (e : Edit) (xs : List (Session Sent)) → OnOpen on xs → IsPlain on (flat_map (entry_sends (in_model text) s e) xs)
  plain_entry s e [] off = plain_none on
  plain_entry s e (x ∷ xs) off =
      plain_join on (entry_sends (in_model text) s e x) (flat_map (entry_sends (in_model text) s e) xs)
      (plain_sends on text x.condition (length x.sent.told) (due s e x.viewer) (one_open on x (λ conn closed. (off conn closed).0)))
      (plain_entry s e xs (λ conn closed. (off conn closed).1))

  entered_holds : (w : Worker) (g : ℕ) (s : Record) (e : Edit) → Holds on w.core → Holds on (entered (in_model text) w g s e).core
  entered_holds w g s e holds = record {
    opened = holds.opened;
    off = λ conn lacks. map_off (after_entry (in_model text) w.logs g s e) (entry_keeps text w.logs g s e) conn w.core.sessions (holds.off conn lacks);
    once = holds.once;
  }

  look_plain : (es : List Edit) (w : Worker) (g : ℕ) (s : Record) → Holds on w.core → IsPlain on (look_sends (in_model text) w g s es) × Holds on (looked (in_model text) w g s es).core
  look_plain [] w g s holds = (plain_none on, holds)
  look_plain (e ∷ es) w g s holds =
      let rest = look_plain es (entered (in_model text) w g s e) g (after s e) (entered_holds w g s e holds) in (
        plain_join on (flat_map (entry_sends (in_model text) s e) w.core.sessions) (look_sends (in_model text) (entered (in_model text) w g s e) g (after s e) es)
            (plain_entry s e w.core.sessions (on_open on w.core holds)) rest.0,
        rest.1,
      )

  look_goes : (o : Option Record) (w : Worker) (g : ℕ) (es : List Edit) → Holds on w.core → Goes on (look_sends_by (in_model text) o w g es) (looked_by (in_model text) o w g es).core
  look_goes None w g es holds = record { to_open = tt; holds = holds }
  look_goes (Some s) w g es holds = let all = look_plain es w g s holds in plainly on (look_sends (in_model text) w g s es) _ all.0 all.1

  rebase_goes : (o : Option Record) (w : Worker) (g : ℕ) (log : List Edit) → Holds on w.core → Goes on (rebase_sends_by o w.core) (rebased_by (in_model text) o w g log).core
  rebase_goes None w g log holds = record { to_open = tt; holds = holds }
  rebase_goes (Some s) w g log holds =
      let all = ends_all on w.core (cursors w.logs.seen) holds in
      record { to_open = all.to_open; holds = record { opened = all.holds.opened; off = all.holds.off; once = all.holds.once } }

  -- wishes, and chunks to the session of a number
  wishes_plain : (viewer : Viewer) (status : Status) (records : List Record) → IsPlain on (presence_wishes viewer status records)
  wishes_plain viewer status [] = plain_none on
  wishes_plain viewer status (s ∷ records) = plain_join on _ (presence_wishes viewer status records) (plain_wished on s.id _) (wishes_plain viewer status records)

  want_plain : (w : Worker) (want : Want) (x : Session Sent) → ((conn : ℕ) → is_on conn x.condition ≡ true → on conn ≡ true) → IsPlain on (want_sends (in_model text) w want x)
  want_plain w (Members ask) x opened = plain_sends on text x.condition _ _ opened
  want_plain w (Presence status) x opened = wishes_plain x.viewer status ((in_model text).records w.logs)
  want_plain w (Voice ask) x opened = by_found (record_at (in_model text) w.logs ask.guild)
    where
      by_found : (o : Option Record) → IsPlain on (voice_wishes x.viewer ask o)
      by_found None = plain_none on
      by_found (Some s) = plain_wished on s.id _

  wants_plain : (w : Worker) (want : Want) (number : ℕ) (o : Option (Session Sent)) → find (is_numbered number) w.core.sessions ≡ o → Holds on w.core → IsPlain on (option_map_or (want_sends (in_model text) w want) o [])
  wants_plain w want number None found holds = plain_none on
  wants_plain w want number (Some x) found holds = want_plain w want x (found_open on (is_numbered number) w.core.sessions x found (on_open on w.core holds))

  want_holds : (w : Worker) (number : ℕ) (want : Want) → Holds on w.core → Holds on (after_want (in_model text) number want w).core
  want_holds w number (Members ask) holds = record {
    opened = holds.opened;
    off = λ conn lacks. first_off (after_answer (in_model text) w ask) (answer_keeps text w ask) (is_numbered number) conn w.core.sessions (holds.off conn lacks);
    once = holds.once;
  }
  want_holds w number (Presence status) holds = holds
  want_holds w number (Voice ask) holds = holds

  -- a session that begins, or one that resumes
  begun_holds : (s : State Sent) (conn : ℕ) (made : ℕ) (x : Session Sent) → x.condition ≡ Attached conn → has_connection conn s ≡ true → Holds on s
      → Holds on (record s { made = made; sessions = s.sessions ++ x ∷ [] })
  begun_holds s conn made x is there holds = record {
    opened = holds.opened;
    off = λ c lacks. off_more c s.sessions (other c lacks) (holds.off c lacks);
    once = holds.once;
  }
    where
      other : (c : ℕ) → has_connection c s ≡ false → IsOff c x
      other c lacks = by_id (conn == c) refl
        where
          by_id : (b : Bool) → (conn == c) ≡ b → IsOff c x
          by_id true same = absurd (true≢false (sym there ∙ ap (λ n. has_connection n s) (eqb-true conn c same) ∙ lacks))
          by_id false differ = ap (is_on c) is ∙ differ

      off_more : (c : ℕ) (xs : List (Session Sent)) → IsOff c x → AreOff c xs → AreOff c (xs ++ x ∷ [])
      off_more c [] own off = (own, tt)
      off_more c (y ∷ xs) own off = (off.0, off_more c xs own off.1)

joined_holds : (on : Opened) (s : State Sent) (conn number : ℕ) → has_connection conn s ≡ true → Holds on s → Holds on (attached_to conn number s)
joined_holds on s conn number there holds = record {
  opened = holds.opened;
  off = λ c lacks. others_off conn number c (differs c lacks) s.sessions (holds.off c lacks);
  once = holds.once;
}
  where
    differs : (c : ℕ) → has_connection c s ≡ false → (conn == c) ≡ false
    differs c lacks = by_id (conn == c) refl
      where
        by_id : (b : Bool) → (conn == c) ≡ b → b ≡ false
        by_id true same = absurd (true≢false (sym there ∙ ap (λ n. has_connection n s) (eqb-true conn c same) ∙ lacks))
        by_id false differ = refl

-- the texts of a session, and RESUMED
resume_plain : (on : Opened) (conn : ℕ) (texts : List (List ℕ)) (out : Out) → on conn ≡ true → IsPlain on (map (λ text. Sends conn text) texts ++ Says conn out ∷ [])
resume_plain on conn texts out opened = plain_join on (map (λ text. Sends conn text) texts) (Says conn out ∷ []) (plain_texts on conn texts opened) (plain_said on conn out opened)

resumed_goes : (on : Opened) (s : State Sent) (conn number now : ℕ) (older : Option ℕ) (texts : List (List ℕ)) (out : Out) → has_connection conn s ≡ true → AreOff conn s.sessions → IsOlder older s.sessions → Holds on s
    → Goes on (older_sends older ++ (map (λ text. Sends conn text) texts ++ Says conn out ∷ [])) (resumed conn now number older s)
resumed_goes on s conn number now None texts out there free older holds =
    plainly on _ _ (resume_plain on conn texts out (holds.opened conn there)) (joined_holds on s conn number there holds)
resumed_goes on s conn number now (Some c) texts out there free older holds =
    let differ : (c == conn) ≡ false = older conn free in
    let cut : Holds (without_conn c on) (gone c (Detached now) s) = gone_holds on s c now holds in
    let kept : has_connection conn (gone c (Detached now) s) ≡ true = left_has (others c) conn s.connections ∙ ap (λ b. not b && has_connection conn s) (turned conn c ∙ differ) ∙ there in
    let rest = plainly (without_conn c on) _ _ (resume_plain (without_conn c on) conn texts out (cut.opened conn kept)) (joined_holds (without_conn c on) (gone c (Detached now) s) conn number kept cut) in
    record { to_open = (closed, rest.to_open); holds = rest.holds }
  where
    -- the older connection is that of a session
    closed : on c ≡ true
    closed = by_test (on c) refl
      where
        by_test : (b : Bool) → on c ≡ b → b ≡ true
        by_test true e = refl
        by_test false e = absurd (true≢false (sym (eq-eqb c c refl) ∙ older c (on_open on s holds c e)))

-- ---- each move

module _ (text : ℕ → Dispatch → List ℕ) (on : Opened) (w : Worker) (conn : ℕ) (holds : Holds on w.core) where
  counted_holds : (on : Opened) (s : State Sent) → Holds on s → Holds on (frame_counted conn w.now s)
  counted_holds on s holds = kept_holds on s (λ l. if l.number == conn then record l { times = with_time w.now l.times } else l) (λ l. same l (l.number == conn)) holds
    where
      same : (l : Connection) (b : Bool) → (if b then record l { times = with_time w.now l.times } else l).number ≡ l.number
      same l true = refl
      same l false = refl

  beaten_holds : Holds on (after_heartbeat conn w.now w.core)
  beaten_holds = kept_holds on w.core (λ l. if l.number == conn then record l { last_heartbeat_ms = w.now } else l) (λ l. same l (l.number == conn)) holds
    where
      same : (l : Connection) (b : Bool) → (if b then record l { last_heartbeat_ms = w.now } else l).number ≡ l.number
      same l true = refl
      same l false = refl

  with_count : (os : List Output) (s : State Sent) → Goes on os s → Goes on os (frame_counted conn w.now s)
  with_count os s goes = record { to_open = goes.to_open; holds = counted_holds (after_outputs os on) s goes.holds }

  frame_goes : (move : Move) → Fits conn w.core move → Goes on (frame_sends (in_model text) w conn move) (framed (in_model text) w conn move).core
  frame_goes Nothing fits = with_count [] w.core (record { to_open = tt; holds = holds })
  frame_goes Answers there = with_count (Says conn Ack ∷ []) (after_heartbeat conn w.now w.core) (record { to_open = (holds.opened conn there, tt); holds = beaten_holds })
  frame_goes (ClosesWith code) there = with_count (Closes conn code ∷ []) (gone conn (Detached w.now) w.core) (record { to_open = (holds.opened conn there, tt); holds = gone_holds on w.core conn w.now holds })
  frame_goes (Begins bot viewer) there =
      with_count _ _
      (plainly on (frame_sends (in_model text) w conn (Begins bot viewer)) (begun conn bot viewer (begins_with (in_model text) w bot viewer) w.core)
      (plain_sends on text (Attached conn) 0 (first_dispatches (in_model text) w viewer bot.name (w.core.made + 1)) (λ c here. subst (λ n. on n ≡ true) (eqb-true conn c here) (holds.opened conn there)))
      (begun_holds text on w.core conn (w.core.made + 1) _ refl there holds))
  frame_goes Denies there = with_count (Says conn (Invalid false) ∷ []) w.core (record { to_open = (holds.opened conn there, tt); holds = holds })
  frame_goes (Resumes number older seq held) fits =
      with_count _ _ (resumed_goes on w.core conn number w.now older (texts_after held seq) (out.Resumed held.last) fits.0 fits.1.0 fits.1.1 holds)
  frame_goes (Wants number want) fits =
      plainly on (frame_sends (in_model text) w conn (Wants number want)) (framed (in_model text) w conn (Wants number want)).core
      (wants_plain text on w want number (numbered number w.core.sessions) refl holds)
      (want_holds text on (record w { core = frame_counted conn w.now w.core }) number want (counted_holds on w.core holds))

  opens_goes : Goes (with_conn conn on) (open_sends conn w.core) (opened conn w.now w.core)
  opens_goes = by_tests (has_connection conn w.core) refl (nat_lt (length w.core.connections) 64)
    where
      now_on : with_conn conn on conn ≡ true
      now_on = ap (λ b. b || on conn) (eq-eqb conn conn refl)

      more : (c : ℕ) → on c ≡ true → with_conn conn on c ≡ true
      more c here = or_right (conn == c) (on c) here

      still : (c : ℕ) → has_connection conn w.core ≡ false → has_connection c w.core ≡ true → without_conn conn (with_conn conn on) c ≡ true
      still c lacks there = by_id (conn == c) refl
        where
          by_id : (b : Bool) → (conn == c) ≡ b → (not b && (b || on c)) ≡ true
          by_id true same = absurd (true≢false (sym there ∙ ap (λ n. has_connection n w.core) (sym (eqb-true conn c same)) ∙ lacks))
          by_id false differ = holds.opened c there

      l : Connection
      l = record { number = conn; last_heartbeat_ms = w.now; times = [] }

      has_more : (c : ℕ) → has c (w.core.connections ++ l ∷ []) ≡ (has_connection c w.core || ((conn == c) || false))
      has_more c = list_any-append (λ (k : Connection). k.number == c) w.core.connections (l ∷ [])

      on_more : (c : ℕ) (a b : Bool) → (a ≡ true → on c ≡ true) → (conn == c) ≡ b → (a || (b || false)) ≡ true → with_conn conn on c ≡ true
      on_more c true b opened same e = more c (opened refl)
      on_more c false true opened same e = ap (λ b. b || on c) same
      on_more c false false opened same e = absurd (true≢false (sym e))

      first : (a b : Bool) → (a || b) ≡ false → a ≡ false
      first true b e = absurd (true≢false e)
      first false b e = refl

      by_tests : (b : Bool) → has_connection conn w.core ≡ b → (c : Bool)
          → Goes (with_conn conn on) (if b then [] else (if c then Says conn (Hello 41250) ∷ [] else Closes conn 4000 ∷ []))
          (if b then w.core else (if c then record w.core { connections = w.core.connections ++ l ∷ [] } else w.core))
      by_tests true there c = record { to_open = tt; holds = record { opened = λ c here. more c (holds.opened c here); off = holds.off; once = holds.once } }
      by_tests false lacks true = record {
        to_open = (now_on, tt);
        holds = record {
          opened = λ c here. on_more c (has_connection c w.core) (conn == c) (holds.opened c) refl (sym (has_more c) ∙ here);
          off = λ c none. holds.off c (first (has_connection c w.core) ((conn == c) || false) (sym (has_more c) ∙ none));
          once = once_more w.core.connections l lacks holds.once;
        };
      }
      by_tests false lacks false = record { to_open = (now_on, tt); holds = record { opened = λ c there. still c lacks there; off = holds.off; once = holds.once } }

-- ---- each input

input_goes : (text : ℕ → Dispatch → List ℕ) (on : Opened) (i : Input) (w : Worker) → Holds on w.core → Goes (after_input i on) (outputs (in_model text) w i) (taken (in_model text) w i).core
input_goes text on (Look g es) w holds = look_goes text on (record_at (in_model text) w.logs g) w g es holds
input_goes text on (Rebase g log) w holds = rebase_goes text on (record_at (in_model text) w.logs g) w g log holds
input_goes text on (Open conn) w holds = opens_goes text on w conn holds
input_goes text on (Frame conn received) w holds = frame_goes text on w conn holds (move_at (in_model text) w conn received) (text_fits text w conn received)
input_goes text on (Lost conn) w holds = record { to_open = tt; holds = lost_holds on w.core conn w.now holds }
input_goes text on (Closed conn code) w holds = record { to_open = tt; holds = closed_holds on w.core (cursors w.logs.seen) conn code w.now holds }
input_goes text on (Tick now) w holds =
    let time = max w.now now in
    let silent = silent_of time w.core.connections in
    let all = all_gone_ends silent time on w.core (IsById-put_all own_number [] (map connection_number (filter (is_silent time) w.core.connections)) tt) (silent_in w.core time) holds in
    record {
      to_open = all.to_open;
      holds = expired_holds (after_outputs (closing silent) on) (all_gone silent time w.core) (cursors w.logs.seen) (λ x. is_overdue time x.condition) all.holds;
    }

all_go : (text : ℕ → Dispatch → List ℕ) (on : Opened) (w : Worker) (is : List Input) → Holds on w.core → GivesToOpen text on w is
all_go text on w [] holds = tt
all_go text on w (i ∷ is) holds =
    let here = input_goes text on i w holds in
    (here.to_open, all_go text (after_outputs (outputs (in_model text) w i) (after_input i on)) (taken (in_model text) w i) is here.holds)

pub each_output_holds : EachOutputHolds
unfolding EachOutputHolds
each_output_holds text bots guilds number url inputs =
    all_go text none_opened (first_worker bots guilds number url) inputs (record { opened = λ conn there. absurd (true≢false (sym there)); off = λ conn lacks. tt; once = tt })
