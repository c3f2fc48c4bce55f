-- A connection has at most one session.
use Rattle.std.proofs.Common.{◌≡◌, ℕ, ◌+◌, ◌≤◌, ◌<◌, List, [], ◌∷◌, ◌++◌, Bool, true, false, Option, Some, None, Result, Ok, Err, if◌then◌else◌, length, map, refl, sym, ap, subst, arith}
use Rattle.std.specs.Prelude.{◌==◌, ◌&&◌, flat_map, max, nat_lt, option_map}
use Rattle.std.specs.List.{find}
use Rattle.std.proofs.lemmas.Bool.{eqb-true}
use Rattle.std.proofs.lemmas.Bool.Decides.{nat_tests}
use Rattle.guild_model.specs.Record.{Record}
use Rattle.dispatch_types.specs.declared.viewer.Viewer.{Viewer}
use Rattle.dispatch_types.specs.declared.dispatch.Dispatch.{Dispatch}
use Rattle.edit_apply.specs.declared.Edit.{Edit}
use Rattle.edit_apply.specs.Edits.{after}
use Rattle.gateway_frames.specs.declared.frame.Ask.{Ask}
use Rattle.gateway_frames.specs.declared.frame.Frame.{Frame as Received}
use Rattle.gateway_frames.specs.declared.frame.Frame.TheVariants as frame
use Rattle.gateway_frames.specs.declared.frame.Identify.{Identify}
use Rattle.gateway_frames.specs.declared.fault.FrameFault.{FrameFault}
use Rattle.gateway_frames.specs.Read.{frame_of}
use Rattle.edit_events.specs.Due.{due}
use Rattle.session_core.specs.declared.bot.Bot.{Bot}
use Rattle.session_core.specs.declared.reply.Mark.TheVariants.{Entry}
use Rattle.session_core.specs.State.{State, Session, Connection, Condition, Attached, Detached, Ended, is_on, is_live, has_connection, number_on, released, opened, gone, begun}
use Rattle.session_core.specs.Identify.{identified}
use Rattle.session_core.specs.Rate.{is_rated}
use Rattle.session_core.specs.Frames.{Want, Members, Presence, Voice, Move, Nothing, Answers, ClosesWith, Begins, Denies, Resumes, Wants, identify_move, resume_move, move_in_session, move_before_session, read_move}
use Rattle.session_core.specs.Resume.{ResumeAnswer, NotResumable, InvalidSeq, Resumed, joined, resumed, resume_answer}
use Rattle.session_core.specs.Ends.{is_final, lost, all_gone, left, client_closed, silent_of, is_overdue}
use Rattle.world_law.specs.Keeping.{Cursors, record_at}
use Rattle.world_law.specs.Sent.{Sent, ended_at}
use Rattle.world_law.specs.Looks.{after_entry, entered, looked, looked_by, rebased_by}
use Rattle.world_law.specs.Greeting.{begins_with}
use Rattle.world_law.specs.Wants.{is_numbered, change_first, after_answer, after_want}
use Rattle.world_law.specs.Frames.{framed, move_at}
use Rattle.world_law.specs.Inputs.{Input, Look, Rebase, Open, Frame, Lost, Closed, Tick, taken}
use Rattle.world_law.specs.Model.{Logs, Worker, in_model, replay, cursors, seen_with}
use Rattle.world_law.specs.Sends.{IsOff, AreOff, IsAlone}

-- the sessions of a list have numbers that ascend above one number, up to another
abbrev pub Ascend : ℕ → ℕ → List (Session Sent) → Type 0
Ascend above made [] = above ≤ made
Ascend above made (x ∷ xs) = (above < x.number) × Ascend x.number made xs

pub record IsSound (w : Worker) : Type 0 where
  pub numbers : Ascend 0 w.core.made w.core.sessions
  pub alone : (conn : ℕ) → IsAlone conn w.core.sessions

-- ---- lists that are joined

off_join : (conn : ℕ) (xs ys : List (Session Sent)) → AreOff conn xs → AreOff conn ys → AreOff conn (xs ++ ys)
off_join conn [] ys off rest = rest
off_join conn (x ∷ xs) ys off rest = (off.0, off_join conn xs ys off.1 rest)

pub alone_off : (conn : ℕ) (xs : List (Session Sent)) → AreOff conn xs → IsAlone conn xs
alone_off conn [] off = tt
alone_off conn (x ∷ xs) off = (λ on. off.1, alone_off conn xs off.1)

-- one of two parts has the connection alone
alone_before : (conn : ℕ) (xs ys : List (Session Sent)) → AreOff conn xs → IsAlone conn ys → IsAlone conn (xs ++ ys)
alone_before conn [] ys off alone = alone
alone_before conn (x ∷ xs) ys off alone = (λ on. absurd (cc (on, off.0)), alone_before conn xs ys off.1 alone)

alone_after : (conn : ℕ) (xs ys : List (Session Sent)) → IsAlone conn xs → AreOff conn ys → IsAlone conn (xs ++ ys)
alone_after conn [] ys alone off = alone_off conn ys off
alone_after conn (x ∷ xs) ys alone off = (λ on. off_join conn xs ys (alone.0 on) off, alone_after conn xs ys alone.1 off)

-- ---- each session changed, or ended

-- what is left of a session: at most itself, with its number, on no connection that it did not have
pub record Leaves (f : Session Sent → List (Session Sent)) : Type 0 where
  pub off : (conn : ℕ) (x : Session Sent) → IsOff conn x → AreOff conn (f x)
  pub alone : (conn : ℕ) (x : Session Sent) → IsAlone conn (f x)
  pub numbers : (above made : ℕ) (x : Session Sent) (rest : List (Session Sent)) → above < x.number → Ascend x.number made rest → Ascend above made (f x ++ rest)

module _ (f : Session Sent → List (Session Sent)) (leaves : Leaves f) where
  pub each_off : (conn : ℕ) (xs : List (Session Sent)) → AreOff conn xs → AreOff conn (flat_map f xs)
  each_off conn [] off = tt
  each_off conn (x ∷ xs) off = off_join conn (f x) (flat_map f xs) (leaves.off conn x off.0) (each_off conn xs off.1)

  each_alone : (conn : ℕ) (xs : List (Session Sent)) → IsAlone conn xs → IsAlone conn (flat_map f xs)
  each_alone conn [] alone = tt
  each_alone conn (x ∷ xs) alone = by_test (is_on conn x.condition) refl (each_alone conn xs alone.1)
    where
      by_test : (b : Bool) → is_on conn x.condition ≡ b → IsAlone conn (flat_map f xs) → IsAlone conn (f x ++ flat_map f xs)
      by_test true on rest = alone_after conn (f x) (flat_map f xs) (leaves.alone conn x) (each_off conn xs (alone.0 on))
      by_test false off rest = alone_before conn (f x) (flat_map f xs) (leaves.off conn x off) rest

  each_number : (above made : ℕ) (xs : List (Session Sent)) → Ascend above made xs → Ascend above made (flat_map f xs)
  each_number above made [] le = le
  each_number above made (x ∷ xs) up = leaves.numbers above made x (flat_map f xs) up.0 (each_number x.number made xs up.1)

-- from a smaller number on
lower : (less above made : ℕ) (xs : List (Session Sent)) → less ≤ above → Ascend above made xs → Ascend less made xs
lower less above made [] le up = omega (arith, le, up)
lower less above made (x ∷ xs) le up = (omega (arith, le, up.0), up.1)

-- a session that is left as one
abbrev pub one_of : (Session Sent → Session Sent) → Session Sent → List (Session Sent)
one_of f x = f x ∷ []

map_each : (f : Session Sent → Session Sent) (xs : List (Session Sent)) → flat_map (one_of f) xs ≡ map f xs
map_each f [] = refl
map_each f (x ∷ xs) = ap (λ ys. f x ∷ ys) (map_each f xs)

-- a change that keeps numbers, and puts no session on a connection
pub record Keeps (f : Session Sent → Session Sent) : Type 0 where
  pub off : (conn : ℕ) (x : Session Sent) → IsOff conn x → IsOff conn (f x)
  pub number : (x : Session Sent) → (f x).number ≡ x.number

keeps_leave : (f : Session Sent → Session Sent) → Keeps f → Leaves (one_of f)
keeps_leave f keeps = record {
  off = λ conn x off. (keeps.off conn x off, tt);
  alone = λ conn x. (λ on. tt, tt);
  numbers = λ above made x rest lt up.
      (subst (λ n. above < n) (sym (keeps.number x)) lt, subst (λ n. Ascend n made rest) (sym (keeps.number x)) up);
}

module _ (f : Session Sent → Session Sent) (keeps : Keeps f) where
  map_alone : (conn : ℕ) (xs : List (Session Sent)) → IsAlone conn xs → IsAlone conn (map f xs)
  map_alone conn xs alone = subst (IsAlone conn) (map_each f xs) (each_alone (one_of f) (keeps_leave f keeps) conn xs alone)

  pub map_off : (conn : ℕ) (xs : List (Session Sent)) → AreOff conn xs → AreOff conn (map f xs)
  map_off conn xs off = subst (AreOff conn) (map_each f xs) (each_off (one_of f) (keeps_leave f keeps) conn xs off)

  map_number : (above made : ℕ) (xs : List (Session Sent)) → Ascend above made xs → Ascend above made (map f xs)
  map_number above made xs up = subst (Ascend above made) (map_each f xs) (each_number (one_of f) (keeps_leave f keeps) above made xs up)

  -- also where the first that passes a test is changed
  pub first_off : (p : Session Sent → Bool) (conn : ℕ) (xs : List (Session Sent)) → AreOff conn xs → AreOff conn (change_first p f xs)
  first_off p conn [] off = tt
  first_off p conn (x ∷ xs) off = by_test (p x) (first_off p conn xs off.1)
    where
      by_test : (b : Bool) → AreOff conn (change_first p f xs) → AreOff conn (if b then f x ∷ xs else x ∷ change_first p f xs)
      by_test true rest = (keeps.off conn x off.0, off.1)
      by_test false rest = (off.0, rest)

  first_alone : (p : Session Sent → Bool) (conn : ℕ) (xs : List (Session Sent)) → IsAlone conn xs → IsAlone conn (change_first p f xs)
  first_alone p conn [] alone = tt
  first_alone p conn (x ∷ xs) alone = by_test (p x) (is_on conn x.condition) refl (first_alone p conn xs alone.1)
    where
      by_test : (b on : Bool) → is_on conn x.condition ≡ on → IsAlone conn (change_first p f xs) → IsAlone conn (if b then f x ∷ xs else x ∷ change_first p f xs)
      by_test true true on rest = (λ still. alone.0 on, alone.1)
      by_test true false off rest = (λ on. absurd (cc (on, keeps.off conn x off)), alone.1)
      by_test false here on rest = (λ on. first_off p conn xs (alone.0 on), rest)

  first_number : (p : Session Sent → Bool) (above made : ℕ) (xs : List (Session Sent)) → Ascend above made xs → Ascend above made (change_first p f xs)
  first_number p above made [] up = up
  first_number p above made (x ∷ xs) up = by_test (p x) (first_number p x.number made xs up.1)
    where
      by_test : (b : Bool) → Ascend x.number made (change_first p f xs) → Ascend above made (if b then f x ∷ xs else x ∷ change_first p f xs)
      by_test true rest = (subst (λ n. above < n) (sym (keeps.number x)) up.0, subst (λ n. Ascend n made xs) (sym (keeps.number x)) up.1)
      by_test false rest = (up.0, rest)

-- ---- one session

pub entry_keeps : (text : ℕ → Dispatch → List ℕ) (logs : Logs) (g : ℕ) (s : Record) (e : Edit) → Keeps (after_entry (in_model text) logs g s e)
entry_keeps text logs g s e = record { off = λ conn x off. by_condition conn x x.condition off; number = λ x. number_of x (is_live x.condition) }
  where
    by_condition : (conn : ℕ) (x : Session Sent) (condition : Condition) → IsOff conn (record x { condition = condition }) → IsOff conn (after_entry (in_model text) logs g s e (record x { condition = condition }))
    by_condition conn x (Attached c) off = off
    by_condition conn x (Detached since) off = off
    by_condition conn x Ended off = off

    number_of : (x : Session Sent) (b : Bool) → (if b then record x { sent = (in_model text).tells (Entry g (length (logs.seen g) + 1)) (cursors logs.seen) (cursors (seen_with logs.seen g e)) (due s e x.viewer) x.sent } else x).number ≡ x.number
    number_of x true = refl
    number_of x false = refl

pub answer_keeps : (text : ℕ → Dispatch → List ℕ) (w : Worker) (ask : Ask) → Keeps (after_answer (in_model text) w ask)
answer_keeps text w ask = record { off = λ conn x off. off; number = λ x. refl }

pub released_keeps : (c now : ℕ) → Keeps (released c (Detached now))
released_keeps c now = record { off = λ conn x off. by_test conn x (is_on c x.condition) off; number = λ x. number_of x (is_on c x.condition) }
  where
    by_test : (conn : ℕ) (x : Session Sent) (b : Bool) → IsOff conn x → IsOff conn (if b then record x { condition = Detached now } else x)
    by_test conn x true off = refl
    by_test conn x false off = off

    number_of : (x : Session Sent) (b : Bool) → (if b then record x { condition = Detached now } else x).number ≡ x.number
    number_of x true = refl
    number_of x false = refl

-- a session that ends by a test
pub ending_leaves : (last : Cursors) (p : Session Sent → Bool) → Leaves (λ x. if p x then ended_at last x else x ∷ [])
ending_leaves last p = record {
  off = λ conn x off. by_off conn x (p x) off;
  alone = λ conn x. by_alone conn x (p x);
  numbers = λ above made x rest lt up. by_number above made x rest (p x) lt up;
}
  where
    by_off : (conn : ℕ) (x : Session Sent) (b : Bool) → IsOff conn x → AreOff conn (if b then ended_at last x else x ∷ [])
    by_off conn x true off = (refl, tt)
    by_off conn x false off = (off, tt)

    by_alone : (conn : ℕ) (x : Session Sent) (b : Bool) → IsAlone conn (if b then ended_at last x else x ∷ [])
    by_alone conn x true = (λ on. tt, tt)
    by_alone conn x false = (λ on. tt, tt)

    by_number : (above made : ℕ) (x : Session Sent) (rest : List (Session Sent)) (b : Bool) → above < x.number → Ascend x.number made rest → Ascend above made ((if b then ended_at last x else x ∷ []) ++ rest)
    by_number above made x rest true lt up = (lt, up)
    by_number above made x rest false lt up = (lt, up)

-- ---- a session that resumes on a free connection

module _ (conn number : ℕ) where
  -- numbers above it are others
  joined_past : (other above made : ℕ) (xs : List (Session Sent)) → number ≤ above → Ascend above made xs → AreOff other xs → AreOff other (map (joined conn number) xs)
  joined_past other above made [] le up off = tt
  joined_past other above made (x ∷ xs) le up off =
      let differ : (x.number == number) ≡ false = apart x.number (omega (arith, le, up.0)) in
      (by_test (is_live x.condition) (x.number == number) differ off.0, joined_past other x.number made xs (omega (arith, le, up.0)) up.1 off.1)
    where
      apart : (n : ℕ) → number < n → (n == number) ≡ false
      apart n lt = grind (arith, nat_tests)

      by_test : (live own : Bool) → own ≡ false → IsOff other x → IsOff other (if live && own then record x { condition = Attached conn } else x)
      by_test live true e off = absurd (cc e)
      by_test true false e off = off
      by_test false false e off = off

  -- of a connection that no session has
  joined_free : (above made : ℕ) (xs : List (Session Sent)) → Ascend above made xs → AreOff conn xs → IsAlone conn (map (joined conn number) xs)
  joined_free above made [] up off = tt
  joined_free above made (x ∷ xs) up off = by_test (is_live x.condition) (x.number == number) refl (joined_free x.number made xs up.1 off.1)
    where
      by_test : (live own : Bool) → (x.number == number) ≡ own → IsAlone conn (map (joined conn number) xs)
          → IsAlone conn ((if live && own then record x { condition = Attached conn } else x) ∷ map (joined conn number) xs)
      by_test true true same rest =
          let one : x.number ≡ number = eqb-true x.number number same in
          (λ on. joined_past conn x.number made xs (omega (arith, one)) up.1 off.1, rest)
      by_test true false differ rest = (λ on. absurd (cc (on, off.0)), rest)
      by_test false own e rest = (λ on. absurd (cc (on, off.0)), rest)

  -- of another connection
  joined_off : (other : ℕ) → (conn == other) ≡ false → (x : Session Sent) → IsOff other x → IsOff other (joined conn number x)
  joined_off other differ x off = by_test (is_live x.condition && (x.number == number))
    where
      by_test : (b : Bool) → IsOff other (if b then record x { condition = Attached conn } else x)
      by_test true = differ
      by_test false = off

  joined_number : (x : Session Sent) → (joined conn number x).number ≡ x.number
  joined_number x = by_test (is_live x.condition && (x.number == number))
    where
      by_test : (b : Bool) → (if b then record x { condition = Attached conn } else x).number ≡ x.number
      by_test true = refl
      by_test false = refl

  pub others_off : (other : ℕ) → (conn == other) ≡ false → (xs : List (Session Sent)) → AreOff other xs → AreOff other (map (joined conn number) xs)
  others_off other differ [] off = tt
  others_off other differ (x ∷ xs) off = (joined_off other differ x off.0, others_off other differ xs off.1)

  joined_other : (other : ℕ) → (conn == other) ≡ false → (xs : List (Session Sent)) → IsAlone other xs → IsAlone other (map (joined conn number) xs)
  joined_other other differ [] alone = tt
  joined_other other differ (x ∷ xs) alone = by_test (is_on other x.condition) refl (joined_other other differ xs alone.1)
    where
      by_test : (b : Bool) → is_on other x.condition ≡ b → IsAlone other (map (joined conn number) xs) → IsAlone other (joined conn number x ∷ map (joined conn number) xs)
      by_test true on rest = (λ still. others_off other differ xs (alone.0 on), rest)
      by_test false off rest = (λ on. absurd (cc (on, joined_off other differ x off)), rest)

  joined_alone : (made : ℕ) (xs : List (Session Sent)) → Ascend 0 made xs → AreOff conn xs → ((c : ℕ) → IsAlone c xs) → (c : ℕ) → IsAlone c (map (joined conn number) xs)
  joined_alone made xs up off alone c = by_id (conn == c) refl
    where
      by_id : (b : Bool) → (conn == c) ≡ b → IsAlone c (map (joined conn number) xs)
      by_id true same = subst (λ (n : ℕ). IsAlone n (map (joined conn number) xs)) (eqb-true conn c same) (joined_free 0 made xs up off)
      by_id false differ = joined_other c differ xs (alone c)

  joined_numbers : (above made : ℕ) (xs : List (Session Sent)) → Ascend above made xs → Ascend above made (map (joined conn number) xs)
  joined_numbers above made [] up = up
  joined_numbers above made (x ∷ xs) up =
      (subst (λ n. above < n) (sym (joined_number x)) up.0, subst (λ n. Ascend n made (map (joined conn number) xs)) (sym (joined_number x)) (joined_numbers x.number made xs up.1))

-- ---- each move

abbrev with_core : Worker → State Sent → Worker
with_core w s = record w { core = s }

gone_sound : (w : Worker) (conn now : ℕ) → IsSound w → IsSound (with_core w (gone conn (Detached now) w.core))
gone_sound w conn now old = record {
  numbers = map_number (released conn (Detached now)) (released_keeps conn now) 0 w.core.made w.core.sessions old.numbers;
  alone = λ c. map_alone (released conn (Detached now)) (released_keeps conn now) c w.core.sessions (old.alone c);
}

more_made : (above made : ℕ) (xs : List (Session Sent)) (x : Session Sent) → x.number ≡ made + 1 → Ascend above made xs → Ascend above (made + 1) (xs ++ x ∷ [])
more_made above made [] x is le = (omega (arith, is, le), omega (arith, is))
more_made above made (y ∷ xs) x is up = (up.0, more_made y.number made xs x is up.1)

one_more : (conn : ℕ) (xs : List (Session Sent)) (x : Session Sent) → (is_on conn x.condition ≡ true → AreOff conn xs) → IsAlone conn xs → IsAlone conn (xs ++ x ∷ [])
one_more conn xs x free alone = by_test (is_on conn x.condition) refl
  where
    by_test : (b : Bool) → is_on conn x.condition ≡ b → IsAlone conn (xs ++ x ∷ [])
    by_test true on = alone_before conn xs (x ∷ []) (free on) (λ on. tt, tt)
    by_test false off = alone_after conn xs (x ∷ []) alone (off, tt)

begun_sound : (w : Worker) (conn : ℕ) (bot : Bot) (v : Viewer) (sent : ℕ → Sent) → AreOff conn w.core.sessions → IsSound w → IsSound (with_core w (begun conn bot v sent w.core))
begun_sound w conn bot v sent free old = record {
  numbers = more_made 0 w.core.made w.core.sessions _ refl old.numbers;
  alone = λ c. one_more c w.core.sessions _ (λ on. subst (λ (n : ℕ). AreOff n w.core.sessions) (eqb-true conn c on) free) (old.alone c);
}

joined_sound : (w : Worker) (conn number : ℕ) → AreOff conn w.core.sessions → IsSound w → IsSound (with_core w (record w.core { sessions = map (joined conn number) w.core.sessions }))
joined_sound w conn number free old = record {
  numbers = joined_numbers conn number 0 w.core.made w.core.sessions old.numbers;
  alone = joined_alone conn number w.core.made w.core.sessions old.numbers free old.alone;
}

resumed_sound : (w : Worker) (conn number : ℕ) (older : Option ℕ) → AreOff conn w.core.sessions → IsSound w → IsSound (with_core w (resumed conn w.now number older w.core))
resumed_sound w conn number None free old = joined_sound w conn number free old
resumed_sound w conn number (Some c) free old =
    joined_sound (with_core w (gone c (Detached w.now) w.core)) conn number (map_off (released c (Detached w.now)) (released_keeps c w.now) conn w.core.sessions free) (gone_sound w c w.now old)

-- ---- which moves come on a free connection

abbrev pub IsFree : ℕ → State Sent → Move → Type 0
IsFree conn s Nothing = Unit {0}
IsFree conn s Answers = Unit {0}
IsFree conn s (ClosesWith code) = Unit {0}
IsFree conn s (Begins bot v) = AreOff conn s.sessions
IsFree conn s Denies = Unit {0}
IsFree conn s (Resumes number older seq held) = AreOff conn s.sessions
IsFree conn s (Wants number want) = Unit {0}

-- no session is found on it
pub none_on : (conn : ℕ) (xs : List (Session Sent)) → option_map (λ (x : Session Sent). x.number) (find (λ (x : Session Sent). is_on conn x.condition) xs) ≡ None → AreOff conn xs
none_on conn [] none = tt
none_on conn (x ∷ xs) none = by_test (is_on conn x.condition) refl none (none_on conn xs)
  where
    by_test : (b : Bool) → is_on conn x.condition ≡ b
        → option_map (λ (x : Session Sent). x.number) (if b then Some x else find (λ (x : Session Sent). is_on conn x.condition) xs) ≡ None
        → (option_map (λ (x : Session Sent). x.number) (find (λ (x : Session Sent). is_on conn x.condition) xs) ≡ None → AreOff conn xs) → IsOff conn x × AreOff conn xs
    by_test true on none rest = absurd (cc none)
    by_test false off none rest = (off, rest none)

free_text : (text : ℕ → Dispatch → List ℕ) (w : Worker) (conn : ℕ) (received : List ℕ) → IsFree conn w.core (move_at (in_model text) w conn received)
free_text text w conn received = by_connection (has_connection conn w.core) (is_rated conn w.now w.core)
  where
    by_start : AreOff conn w.core.sessions → (i : Identify) (r : Result Bot ℕ) → IsFree conn w.core (identify_move i r)
    by_start free i (Ok bot) = free
    by_start free i (Err code) = tt

    by_answer : AreOff conn w.core.sessions → (answer : ResumeAnswer) → IsFree conn w.core (resume_move answer)
    by_answer free NotResumable = tt
    by_answer free InvalidSeq = tt
    by_answer free (Resumed number older seq held) = free

    by_first : AreOff conn w.core.sessions → (f : Received) → IsFree conn w.core (move_before_session (replay text) w.core f)
    by_first free (frame.Heartbeat seq) = tt
    by_first free (frame.Identify i) = by_start free i (identified w.core i)
    by_first free (frame.Resume r) = by_answer free (resume_answer (replay text) w.core r)
    by_first free (frame.Presence status) = tt
    by_first free (frame.Voice ask) = tt
    by_first free (frame.Ask ask) = tt

    by_later : (number : ℕ) (f : Received) → IsFree conn w.core (move_in_session number f)
    by_later number (frame.Heartbeat seq) = tt
    by_later number (frame.Identify i) = tt
    by_later number (frame.Resume r) = tt
    by_later number (frame.Presence status) = tt
    by_later number (frame.Voice ask) = tt
    by_later number (frame.Ask ask) = tt

    by_read : (session : Option ℕ) → number_on conn w.core ≡ session → (r : Result Received FrameFault) → IsFree conn w.core (read_move (replay text) w.core session r)
    by_read session is (Err fault) = tt
    by_read (Some number) is (Ok f) = by_later number f
    by_read None is (Ok f) = by_first (none_on conn w.core.sessions is) f

    by_connection : (b rated : Bool) → IsFree conn w.core (if b then (if rated then ClosesWith 4008 else read_move (replay text) w.core (number_on conn w.core) (frame_of received)) else Nothing)
    by_connection false rated = tt
    by_connection true true = tt
    by_connection true false = by_read (number_on conn w.core) refl (frame_of received)

-- ---- each input

module _ (text : ℕ → Dispatch → List ℕ) where
  looked_sound : (es : List Edit) (w : Worker) (g : ℕ) (s : Record) → IsSound w → IsSound (looked (in_model text) w g s es)
  looked_sound [] w g s old = old
  looked_sound (e ∷ es) w g s old = looked_sound es (entered (in_model text) w g s e) g (after s e) (record {
    numbers = map_number (after_entry (in_model text) w.logs g s e) (entry_keeps text w.logs g s e) 0 w.core.made w.core.sessions old.numbers;
    alone = λ c. map_alone (after_entry (in_model text) w.logs g s e) (entry_keeps text w.logs g s e) c w.core.sessions (old.alone c);
  })

  want_sound : (number : ℕ) (want : Want) (w : Worker) → IsSound w → IsSound (after_want (in_model text) number want w)
  want_sound number (Members ask) w old = record {
    numbers = first_number (after_answer (in_model text) w ask) (answer_keeps text w ask) (is_numbered number) 0 w.core.made w.core.sessions old.numbers;
    alone = λ c. first_alone (after_answer (in_model text) w ask) (answer_keeps text w ask) (is_numbered number) c w.core.sessions (old.alone c);
  }
  want_sound number (Presence status) w old = old
  want_sound number (Voice ask) w old = old

  framed_sound : (w : Worker) (conn : ℕ) (move : Move) → IsFree conn w.core move → IsSound w → IsSound (framed (in_model text) w conn move)
  framed_sound w conn Nothing free old = record { numbers = old.numbers; alone = old.alone }
  framed_sound w conn Answers free old = record { numbers = old.numbers; alone = old.alone }
  framed_sound w conn (ClosesWith code) free old = let new = gone_sound w conn w.now old in record { numbers = new.numbers; alone = new.alone }
  framed_sound w conn (Begins bot v) free old = let new = begun_sound w conn bot v (begins_with (in_model text) w bot v) free old in record { numbers = new.numbers; alone = new.alone }
  framed_sound w conn Denies free old = record { numbers = old.numbers; alone = old.alone }
  framed_sound w conn (Resumes number older seq held) free old = let new = resumed_sound w conn number older free old in record { numbers = new.numbers; alone = new.alone }
  framed_sound w conn (Wants number want) free old = want_sound number want _ (record { numbers = old.numbers; alone = old.alone })

  opened_sound : (w : Worker) (conn : ℕ) → IsSound w → IsSound (with_core w (opened conn w.now w.core))
  opened_sound w conn old = by_tests (has_connection conn w.core) (nat_lt (length w.core.connections) 64)
    where
      by_tests : (b c : Bool) → IsSound (with_core w (if b then w.core else (if c then record w.core { connections = w.core.connections ++ record { number = conn; last_heartbeat_ms = w.now; times = [] } ∷ [] } else w.core)))
      by_tests true c = record { numbers = old.numbers; alone = old.alone }
      by_tests false true = record { numbers = old.numbers; alone = old.alone }
      by_tests false false = record { numbers = old.numbers; alone = old.alone }

  lost_sound : (w : Worker) (conn : ℕ) → IsSound w → IsSound (with_core w (lost conn w.now w.core))
  lost_sound w conn old = by_connection (has_connection conn w.core)
    where
      by_connection : (b : Bool) → IsSound (with_core w (if b then gone conn (Detached w.now) w.core else w.core))
      by_connection true = gone_sound w conn w.now old
      by_connection false = record { numbers = old.numbers; alone = old.alone }

  ends_sound : (w : Worker) (p : Session Sent → Bool) (connections : List Connection) → IsSound w
      → IsSound (with_core w (record w.core { connections = connections; sessions = flat_map (λ x. if p x then ended_at (cursors w.logs.seen) x else x ∷ []) w.core.sessions }))
  ends_sound w p connections old = record {
    numbers = each_number (λ x. if p x then ended_at (cursors w.logs.seen) x else x ∷ []) (ending_leaves (cursors w.logs.seen) p) 0 w.core.made w.core.sessions old.numbers;
    alone = λ c. each_alone (λ x. if p x then ended_at (cursors w.logs.seen) x else x ∷ []) (ending_leaves (cursors w.logs.seen) p) c w.core.sessions (old.alone c);
  }

  closed_sound : (w : Worker) (conn code : ℕ) → IsSound w → IsSound (with_core w (client_closed (ended_at (cursors w.logs.seen)) conn code w.now w.core))
  closed_sound w conn code old = by_code (is_final code) (has_connection conn w.core)
    where
      by_code : (final there : Bool) → IsSound (with_core w (if final then (if there then left (ended_at (cursors w.logs.seen)) conn w.core else w.core) else lost conn w.now w.core))
      by_code false there = lost_sound w conn old
      by_code true false = record { numbers = old.numbers; alone = old.alone }
      by_code true true = let new = ends_sound w (λ x. is_on conn x.condition) [] old in record { numbers = new.numbers; alone = new.alone }

  all_gone_sound : (conns : List ℕ) (now : ℕ) (w : Worker) → IsSound w → IsSound (with_core w (all_gone conns now w.core))
  all_gone_sound [] now w old = record { numbers = old.numbers; alone = old.alone }
  all_gone_sound (conn ∷ conns) now w old = all_gone_sound conns now (with_core w (gone conn (Detached now) w.core)) (gone_sound w conn now old)

  pub taken_sound : (i : Input) (w : Worker) → IsSound w → IsSound (taken (in_model text) w i)
  taken_sound (Look g es) w old = by_found (record_at (in_model text) w.logs g)
    where
      by_found : (o : Option Record) → IsSound (looked_by (in_model text) o w g es)
      by_found None = old
      by_found (Some s) = looked_sound es w g s old
  taken_sound (Rebase g log) w old = by_found (record_at (in_model text) w.logs g)
    where
      by_found : (o : Option Record) → IsSound (rebased_by (in_model text) o w g log)
      by_found None = old
      by_found (Some s) = let new = ends_sound w (λ x. is_live x.condition) [] old in record { numbers = new.numbers; alone = new.alone }
  taken_sound (Open conn) w old = opened_sound w conn old
  taken_sound (Frame conn received) w old = framed_sound w conn (move_at (in_model text) w conn received) (free_text text w conn received) old
  taken_sound (Lost conn) w old = lost_sound w conn old
  taken_sound (Closed conn code) w old = closed_sound w conn code old
  taken_sound (Tick now) w old =
      let before : IsSound (with_core w (all_gone (silent_of (max w.now now) w.core.connections) (max w.now now) w.core)) = all_gone_sound (silent_of (max w.now now) w.core.connections) (max w.now now) w old in
      let new = ends_sound (with_core w (all_gone (silent_of (max w.now now) w.core.connections) (max w.now now) w.core)) (λ x. is_overdue (max w.now now) x.condition) [] before in
      record { numbers = new.numbers; alone = new.alone }
