-- What a session's client wants, as the code finds it.
use Rattle.std.proofs.Common.{◌≡◌, ℕ, ◌+◌, ◌<◌, not, List, [], ◌∷◌, ◌++◌, suc, Bool, true, false, Option, Some, None, Result, Ok, Err, if◌then◌else◌, length, map, refl, sym, ap, subst, ◌∙◌, arith}
use Rattle.std.specs.Prelude.{◌||◌, option_map, position, filter, flat_map, cond, nat_lt, slice_get, IfOk, OnOk, MatchResult}
use Rattle.std.specs.List.{find, position_or_len}
use Rattle.std.specs.Option.{option_map_or}
use Rattle.std.proofs.lemmas.Bool.Decides.{nat_tests}
use Rattle.std.proofs.lemmas.Option.{same_Some, slice_get_past}
use Rattle.std.proofs.lemmas.List.Folds.{find_at}
use Rattle.collections.specs.ById.{find_id}
use Rattle.guild_model.specs.Record.{Record}
use Rattle.guild_model.specs.declared.presence.Status.{Status}
use Rattle.gateway_frames.specs.declared.frame.Ask.{Ask}
use Rattle.gateway_frames.specs.declared.frame.VoiceAsk.{VoiceAsk}
use Rattle.perm_bits.specs.Bits.{has_bit}
use Rattle.intent_set.specs.Intents.{guilds}
use Rattle.dispatch_types.specs.Serves.{serves}
use Rattle.world_law.specs.Greeting.{first_dispatches, greeting_of, listed_guilds, ready}
use Rattle.member_chunks.specs.Answered.{answered}
use Rattle.dispatch_types.specs.declared.ready.Ready.{Ready as Greeted}
use Rattle.dispatch_types.specs.declared.dispatch.Dispatch.TheVariants.{Ready}
use Rattle.dispatch_types.specs.declared.viewer.Viewer.{Viewer}
use Rattle.dispatch_types.specs.declared.dispatch.Dispatch.{Dispatch}
use Rattle.wishes.specs.Wishes.{presence_wish}
use Rattle.replay_ring.specs.Replay.{Replay}
use Rattle.session_core.specs.State.{State, Session}
use Rattle.session_core.specs.Frames.{Members, Presence, Voice}
use Rattle.guild_replica.specs.Replicas.{GuildCopy}
use Rattle.worker_core.specs.declared.io.Output.{Output as Written}
use Rattle.worker_core.specs.declared.io.StepFault.{StepFault}
use Rattle.worker_core.specs.declared.io.StepFault.TheVariants.{Spent}
use Rattle.worker_core.specs.Telling.{FailsAt, TellsAt, further}
use Rattle.worker_core.specs.Represents.{FaultBy}
use Rattle.worker_core.specs.Replies.{Gives, GivesNot, greeted, wanted_spends}
use Rattle.worker_core.specs.InCode.{KeptMachine, KeptWorker, guild_of, in_code, replica_id, wire_text}
use Rattle.world_law.specs.Outputs.{Output, sends}
use Rattle.world_law.specs.Wants.{after_answer, answer_to, answered_by, change_first, is_numbered, numbered, presence_wishes, voice_wishes, want_sends, wished}
use Rattle.worker_core.specs.Outputs.{all_written}
use Rattle.world_law.proofs.Lists.{append_none}
use Rattle.world_law.specs.Spent.{chunks_spend, is_past, want_spends}
use Rattle.worker_core.proofs.Records.{find_guild}
use Rattle.worker_core.proofs.Telling.{found_at, get_at}
use Rattle.world_law.specs.Keeping.{record_at, record_id, with_sessions}
use Rattle.worker_core.specs.Recipients.{viewer_of}

-- ---- the first item that passes a test

pub record First {A : Type 0} (p : A → Bool) (xs : List A) (i : ℕ) : Type 0 where
  pub front : List A
  pub item : A
  pub back : List A
  pub whole : xs ≡ front ++ item ∷ back
  pub index : i ≡ length front
  pub found : find p xs ≡ Some item
  pub changes : (f : A → A) → change_first p f xs ≡ front ++ f item ∷ back

first_later : {A : Type 0} (p : A → Bool) (x : A) (xs : List A) (i : ℕ) → p x ≡ false → First p xs i → First p (x ∷ xs) (suc i)
first_later p x xs i differ rest = record {
  front = x ∷ rest.front;
  item = rest.item;
  back = rest.back;
  whole = ap (λ ys. x ∷ ys) rest.whole;
  index = ap suc rest.index;
  found = simp differ rest.found;
  changes = λ f. simp differ (ap (λ ys. x ∷ ys) (rest.changes f));
}

first_here : {A : Type 0} (p : A → Bool) (x : A) (xs : List A) → p x ≡ true → First p (x ∷ xs) 0
first_here p x xs same = record { front = []; item = x; back = xs; whole = refl; index = refl; found = simp same refl; changes = λ f. simp same refl }

from_first : {A : Type 0} (p : A → Bool) (xs : List A) → position_or_len p xs < length xs → First p xs (position_or_len p xs)
from_first p [] lt = absurd (omega (arith, lt))
from_first p (x ∷ xs) lt = by_test (p x) refl lt (from_first p xs)
  where
    by_test : (b : Bool) → p x ≡ b → cond (not b) (1 + position_or_len p xs) 0 < suc (length xs) → (position_or_len p xs < length xs → First p xs (position_or_len p xs))
        → First p (x ∷ xs) (cond (not b) (1 + position_or_len p xs) 0)
    by_test true same lt rest = first_here p x xs same
    by_test false differ lt rest = subst (λ n. First p (x ∷ xs) n) (omega arith) (first_later p x xs (position_or_len p xs) differ (rest (omega (arith, lt))))

pub first_at : {A : Type 0} (p : A → Bool) (xs : List A) (i : ℕ) → position p xs ≡ Some i → First p xs i
first_at p xs i is = by_test (nat_lt (position_or_len p xs) (length xs)) refl is
  where
    by_test : (b : Bool) → nat_lt (position_or_len p xs) (length xs) ≡ b → cond b (Some (position_or_len p xs)) None ≡ Some i → First p xs i
    by_test true lt is = subst (λ n. First p xs n) (same_Some (position_or_len p xs) i is) (from_first p xs (grind (arith, nat_tests, lt)))
    by_test false lt is = absurd (cc is)

pub none_at : {A : Type 0} (p : A → Bool) (xs : List A) → position p xs ≡ None → find p xs ≡ None
none_at p xs is = by_test (nat_lt (position_or_len p xs) (length xs)) refl is
  where
    by_test : (b : Bool) → nat_lt (position_or_len p xs) (length xs) ≡ b → cond b (Some (position_or_len p xs)) None ≡ None → find p xs ≡ None
    by_test true lt is = absurd (cc is)
    by_test false past is = find_at p xs ∙ slice_get_past xs (position_or_len p xs) (grind (arith, nat_tests, past))

unchanged : {A : Type 0} (p : A → Bool) (f : A → A) (xs : List A) → find p xs ≡ None → change_first p f xs ≡ xs
unchanged p f [] none = refl
unchanged p f (x ∷ xs) none = by_test (p x) none (unchanged p f xs)
  where
    by_test : (b : Bool) → (if b then Some x else find p xs) ≡ None → (find p xs ≡ None → change_first p f xs ≡ xs) → (if b then f x ∷ xs else x ∷ change_first p f xs) ≡ x ∷ xs
    by_test true none rest = absurd (cc none)
    by_test false none rest = ap (λ ys. x ∷ ys) (rest none)

pub there_at : {A : Type 0} (p : A → Bool) (xs : List A) (i : ℕ) → position p xs ≡ Some i → slice_get xs i ≡ find p xs
there_at p xs i is =
    let first = first_at p xs i is in
    ap (λ ys. slice_get ys i) first.whole
    ∙ (ap (λ n. slice_get (first.front ++ first.item ∷ first.back) n) first.index ∙ (get_at first.front first.item first.back ∙ sym first.found))

-- ---- wishes

never : {A : Type 0} (o : Option A) → option_map_or (λ x. false) o false ≡ false
never None = refl
never (Some x) = refl

pub each_guild : {B : Type 0} (f : Record → List B) (rs : List GuildCopy) → flat_map f (map guild_of rs) ≡ flat_map (λ (r : GuildCopy). f r.guild) rs
each_guild f [] = refl
each_guild f (r ∷ rs) = ap (λ ys. f r.guild ++ ys) (each_guild f rs)

-- the guilds that READY lists
pub served_ids : (v : Viewer) (rs : List GuildCopy) → map replica_id (filter (λ (r : GuildCopy). serves v r.guild) rs) ≡ map record_id (filter (λ s. serves v s) (map guild_of rs))
served_ids v [] = refl
served_ids v (r ∷ rs) = by_test (serves v r.guild) (served_ids v rs)
  where
    by_test : (b : Bool) → map replica_id (filter (λ (r : GuildCopy). serves v r.guild) rs) ≡ map record_id (filter (λ s. serves v s) (map guild_of rs))
        → map replica_id (if b then r ∷ filter (λ (r : GuildCopy). serves v r.guild) rs else filter (λ (r : GuildCopy). serves v r.guild) rs)
        ≡ map record_id (if b then r.guild ∷ filter (λ s. serves v s) (map guild_of rs) else filter (λ s. serves v s) (map guild_of rs))
    by_test true rest = ap (λ ids. r.guild.id ∷ ids) rest
    by_test false rest = rest

pub listed_is : (v : Viewer) (rs : List GuildCopy)
    → (if has_bit v.intents guilds then map replica_id (filter (λ (r : GuildCopy). serves v r.guild) rs) else []) ≡ listed_guilds v (map guild_of rs)
listed_is v rs = ap (λ (ids : List ℕ). if has_bit v.intents guilds then ids else []) (served_ids v rs)

module _ (k : KeptWorker) (n : ℕ) (before : List Written) where
  no_viewer : (o : Option (Session Replay)) → option_map viewer_of o ≡ None → o ≡ None
  no_viewer None none = refl
  no_viewer (Some x) none = absurd (cc none)

  by_viewer : (o : Option (Session Replay)) (v : Viewer) → option_map viewer_of o ≡ Some v → (f : Viewer → List Output) → f v ≡ option_map_or (λ x. f (viewer_of x)) o []
  by_viewer None v is f = absurd (cc is)
  by_viewer (Some x) v is f = ap f (sym (same_Some x.viewer v is))

  pub sets : (status : Status) (v : Viewer) (out : List Written) → option_map viewer_of (numbered n k.machine.core.sessions) ≡ Some v
      → out ≡ before ++ all_written (flat_map (λ (r : GuildCopy). wished (replica_id r) (presence_wish r.guild v status)) k.machine.logs) → Gives k n (Presence status) k before out
  sets status v out is sent =
      let all : Viewer → List Output = λ v. presence_wishes v status (map guild_of k.machine.logs) in (
        refl,
        (
          sent ∙ (ap (λ os. before ++ all_written os) (sym (each_guild (λ s. wished s.id (presence_wish s v status)) k.machine.logs))
              ∙ ap (λ os. before ++ all_written os) (by_viewer (numbered n k.machine.core.sessions) v is all)),
          never (numbered n k.machine.core.sessions),
        ),
      )

  pub speaks : (ask : VoiceAsk) (v : Viewer) (o : Option GuildCopy) (out : List Written) → option_map viewer_of (numbered n k.machine.core.sessions) ≡ Some v
      → o ≡ find_id replica_id ask.guild k.machine.logs → out ≡ before ++ all_written (voice_wishes v ask (option_map guild_of o)) → Gives k n (Voice ask) k before out
  speaks ask v o out is found sent =
      let all : Viewer → List Output = λ v. voice_wishes v ask (record_at in_code k.machine.logs ask.guild) in (
        refl,
        (
          sent ∙ (ap (λ o. before ++ all_written (voice_wishes v ask o)) (ap (option_map guild_of) found ∙ sym (find_guild ask.guild k.machine.logs))
              ∙ ap (λ os. before ++ all_written os) (by_viewer (numbered n k.machine.core.sessions) v is all)),
          never (numbered n k.machine.core.sessions),
        ),
      )

-- what follows where a call ends well
pub when_ok : {A E P Q : Type 0} (result : Result A E) → (P → Q) → OnOk result P → OnOk result Q
when_ok (Ok x) f p = f p
when_ok (Err e) f p = tt

pub when_if_ok : {A E : Type 0} (P Q : A → Type 0) (result : Result A E) → ((x : A) → P x → Q x) → IfOk result P → IfOk result Q
when_if_ok P Q (Ok x) f p = f x p
when_if_ok P Q (Err e) f p = tt

-- ---- the chunks of an answer, and the first dispatches

pub answers_by : (k : KeptMachine) (ask : Ask) (v : Viewer) (r : GuildCopy) → find_id replica_id ask.guild k.logs ≡ Some r
    → answered_by v ask (record_at in_code k.logs ask.guild) ≡ answered r.guild v ask
answers_by k ask v r found = ap (answered_by v ask) (find_guild ask.guild k.logs ∙ ap (option_map guild_of) found)

pub not_followed : (k : KeptMachine) (ask : Ask) (v : Viewer) → find_id replica_id ask.guild k.logs ≡ None → answered_by v ask (record_at in_code k.logs ask.guild) ≡ []
not_followed k ask v none = ap (answered_by v ask) (find_guild ask.guild k.logs ∙ ap (option_map guild_of) none)

abbrev name_of : Session Replay → List ℕ
name_of x = x.name

pub greeted_at : (k : KeptMachine) (n : ℕ) (o : Option (Session Replay)) (v : Viewer) (name : List ℕ) (r : Greeted) (start pushed list : List Dispatch)
    → option_map viewer_of o ≡ Some v → option_map name_of o ≡ Some name → r ≡ ready in_code k v name n → start ≡ [] → pushed ≡ start ++ Ready r ∷ []
    → list ≡ pushed ++ flat_map (λ (r : GuildCopy). greeting_of v r.guild) k.logs → option_map_or (greeted k n) o [] ≡ list
greeted_at k n None v name r start pushed list is named made empty one all = absurd (cc is)
greeted_at k n (Some x) v name r start pushed list is named made empty one all =
    let rest : List Dispatch = flat_map (λ (r : GuildCopy). greeting_of v r.guild) k.logs in
    let whole : list ≡ Ready r ∷ rest = all ∙ ap (λ (ds : List Dispatch). ds ++ rest) (one ∙ ap (λ (ds : List Dispatch). ds ++ Ready r ∷ []) empty) in
    ap (λ (w : Viewer). first_dispatches in_code k w x.name n) (same_Some x.viewer v is)
    ∙ (ap (λ (m : List ℕ). first_dispatches in_code k v m n) (same_Some x.name name named)
    ∙ (ap (λ (ds : List Dispatch). Ready (ready in_code k v name n) ∷ ds) (each_guild (greeting_of v) k.logs)
    ∙ (ap (λ (g : Greeted). Ready g ∷ rest) (sym made) ∙ sym whole)))

-- ---- what the calls of an answer leave, taken together

or_is : (b c : Bool) → b ≡ false → (b || c) ≡ c
or_is true c e = absurd (cc e)
or_is false c e = refl

module _ (old : KeptWorker) (n : ℕ) (ask : Ask) where
  -- no session has the number
  pub nobody_asks : (before : List Written) → option_map viewer_of (numbered n old.machine.core.sessions) ≡ None → Gives old n (Members ask) old before before
  nobody_asks before is =
      let w : KeptMachine = old.machine in
      let none : numbered n w.core.sessions ≡ None = no_viewer old n before (numbered n w.core.sessions) is in
      let more : w.chunks ≡ w.chunks + option_map_or (λ x. length (answer_to in_code w ask x)) (numbered n w.core.sessions) 0 =
      sym (ap (λ o. w.chunks + option_map_or (λ x. length (answer_to in_code w ask x)) o 0) none ∙ none_more) in (
        ap (λ c. record old { machine = record w { chunks = c } }) more
            ∙ ap (λ xs. record old {
              machine = record w {
                chunks = w.chunks + option_map_or (λ x. length (answer_to in_code w ask x)) (numbered n w.core.sessions) 0;
                core = with_sessions xs w.core;
              };
            }) (sym (unchanged (is_numbered n) (after_answer in_code w ask) w.core.sessions none)),
        (
          sym (ap (λ o. before ++ all_written (option_map_or (want_sends in_code w (Members ask)) o [])) none ∙ append_none before),
          ap (λ o. option_map_or (want_spends in_code w (Members ask)) o false) none,
        ),
      )
    where
      none_more : old.machine.chunks + 0 ≡ old.machine.chunks
      none_more = omega arith

  module _ (index : ℕ) (list : List Dispatch) (is : position (is_numbered n) old.machine.core.sessions ≡ Some index)
      (made : option_map_or (answer_to in_code old.machine ask) (slice_get old.machine.core.sessions index) [] ≡ list) where
    abbrev w : KeptMachine
    w = old.machine

    first : First (is_numbered n) w.core.sessions index
    first = first_at (is_numbered n) w.core.sessions index is

    here : list ≡ answer_to in_code w ask first.item
    here = sym made ∙ ap (λ o. option_map_or (answer_to in_code w ask) o []) (found_at index first.front first.item first.back w.core (first.whole, first.index))

    spent_here : wanted_spends w n (Members ask) ≡ chunks_spend w.chunks first.item.sent.last (length list)
    spent_here =
        ap (λ o. option_map_or (want_spends in_code w (Members ask)) o false) first.found
        ∙ ap (λ ds. chunks_spend w.chunks first.item.sent.last (length ds)) (sym here)

    -- the chunks are more than can be counted
    pub uncounted : is_past w.chunks (length list) ≡ true → GivesNot old n (Members ask) Spent
    uncounted past = spent_here ∙ ap (λ b. b || is_past first.item.sent.last (length list)) past

    pub answer_made : (k1 new : KeptWorker) (before out : List Written) → k1 ≡ record old { machine = record w { chunks = w.chunks + length list } } → is_past w.chunks (length list) ≡ false
        → new ≡ record k1 { machine = record k1.machine { core = new.machine.core } } → TellsAt index (λ x. list) k1.machine.core new.machine.core before out → Gives old n (Members ask) new before out
    answer_made k1 new before out counted_as few kept_else told =
        let core : k1.machine.core ≡ w.core = ap (λ (k : KeptWorker). k.machine.core) counted_as in
        let all = told first.front first.back first.item (ap (λ (s : State Replay). s.sessions) core ∙ first.whole, first.index) in
        let item : Session Replay = first.item in
        let changes : change_first (is_numbered n) (after_answer in_code w ask) w.core.sessions ≡ first.front ++ further list item ∷ first.back =
        first.changes (after_answer in_code w ask) ∙ ap (λ ds. first.front ++ further ds item ∷ first.back) (sym here) in
        let more : option_map_or (λ x. length (answer_to in_code w ask x)) (numbered n w.core.sessions) 0 ≡ length list =
        ap (λ o. option_map_or (λ x. length (answer_to in_code w ask x)) o 0) first.found ∙ ap length (sym here) in
        let becomes : new.machine.core ≡ with_sessions (change_first (is_numbered n) (after_answer in_code w ask) w.core.sessions) w.core =
        all.0 ∙ (ap (λ s. with_sessions (first.front ++ further list item ∷ first.back) s) core ∙ ap (λ xs. with_sessions xs w.core) (sym changes)) in (
          kept_else
              ∙ (ap (λ s. record k1 { machine = record k1.machine { core = s } }) becomes
              ∙ (ap (λ (k : KeptWorker). record k { machine = record k.machine { core = with_sessions (change_first (is_numbered n) (after_answer in_code w ask) w.core.sessions) w.core } }) counted_as
              ∙ ap (λ m. record old { machine = record w { chunks = w.chunks + m; core = with_sessions (change_first (is_numbered n) (after_answer in_code w ask) w.core.sessions) w.core } }) (sym more))),
          (
            all.1.0
                ∙ (ap (λ ds. before ++ all_written (sends wire_text item.condition item.sent.last ds)) here
                ∙ ap (λ o. before ++ all_written (option_map_or (want_sends in_code w (Members ask)) o [])) (sym first.found)),
            spent_here ∙ (or_is (is_past w.chunks (length list)) (is_past item.sent.last (length list)) few ∙ all.1.1),
          ),
        )

    pub answer_fails : (k1 : KeptWorker) (fault : StepFault) → k1 ≡ record old { machine = record w { chunks = w.chunks + length list } } → is_past w.chunks (length list) ≡ false
        → FailsAt index (λ x. list) k1.machine.core fault → GivesNot old n (Members ask) fault
    answer_fails k1 fault counted_as few fails =
        let core : k1.machine.core ≡ w.core = ap (λ (k : KeptWorker). k.machine.core) counted_as in
        let past = fails first.front first.back first.item (ap (λ (s : State Replay). s.sessions) core ∙ first.whole, first.index) in
        subst (λ b. FaultBy b fault) (sym (spent_here ∙ or_is (is_past w.chunks (length list)) (is_past first.item.sent.last (length list)) few)) past

    pub answer_ends : {V : Type 0} (result : Result V StepFault) (k1 new : KeptWorker) (before out : List Written)
        → k1 ≡ record old { machine = record w { chunks = w.chunks + length list } } → is_past w.chunks (length list) ≡ false
        → OnOk result (new ≡ record k1 { machine = record k1.machine { core = new.machine.core } })
        → MatchResult result (λ v. TellsAt index (λ x. list) k1.machine.core new.machine.core before out) (FailsAt index (λ x. list) k1.machine.core)
        → MatchResult result (λ v. Gives old n (Members ask) new before out) (GivesNot old n (Members ask))
    answer_ends (Ok v) k1 new before out counted_as few kept_else told = answer_made k1 new before out counted_as few kept_else told
    answer_ends (Err fault) k1 new before out counted_as few kept_else told = answer_fails k1 fault counted_as few told
