-- Which dispatches leave a client its session: each of a session's own.
use Rattle.std.proofs.Common.{◌≡◌, ℕ, List, [], ◌∷◌, Bool, true, false, Option, Some, None, if◌then◌else◌, refl, ap}
use Rattle.std.specs.Prelude.{All, ◌&&◌, not, flat_map, map}
use Rattle.std.specs.List.{range_with_len}
use Rattle.std.proofs.lemmas.List.Elements.{All-nil, All-cons, All-append, All-weaker}
use Rattle.perm_bits.specs.Bits.{has_bit}
use Rattle.intent_set.specs.Intents.{guilds}
use Rattle.guild_model.specs.declared.member.Member.{Member}
use Rattle.guild_model.specs.Record.{Record}
use Rattle.dispatch_types.specs.declared.viewer.Viewer.{Viewer}
use Rattle.dispatch_types.specs.declared.dispatch.Dispatch.{Dispatch}
use Rattle.dispatch_types.specs.declared.dispatch.Dispatch.TheVariants.{Ready, GuildCreate, GuildMembersChunk}
use Rattle.dispatch_types.specs.declared.ready.Ready.{Ready as Greeted}
use Rattle.dispatch_types.specs.GuildOf.{guild_of}
use Rattle.dispatch_types.specs.Serves.{served}
use Rattle.gateway_frames.specs.declared.frame.Ask.{Ask}
use Rattle.member_chunks.specs.Answered.{answered, chunk, chunk_count, chunks, found, is_answered}
use Rattle.edit_apply.specs.declared.Edit.{Edit}
use Rattle.edit_events.specs.Due.{due}
use Rattle.edit_events.specs.Greeting.{greeting}
use Rattle.edit_events.proofs.Others.{due-of}
use Rattle.client_session.specs.declared.session.Session.{Session as ClientSession}
use Rattle.client_session.specs.Table.{begun, session_after}
use Rattle.session_core.specs.Resume.{session_id}
use Rattle.world_law.specs.Greeting.{first_dispatches, greeting_for, greeting_of, ready}
use Rattle.world_law.specs.Model.{Worker, in_model, records_of}
use Rattle.world_law.specs.Wants.{answered_by}
use Rattle.two_ends.proofs.Minds.{Keeps}

-- a dispatch that is no READY: it begins no session
abbrev pub IsNoReady : Dispatch → Type 0
IsNoReady d = (n : ℕ) → begun d n ≡ None

abbrev pub AreNoReady : List Dispatch → Type 0
AreNoReady ds = All IsNoReady ds

-- ---- what such a dispatch leaves

pub keeps_no_ready : (id : List ℕ) (d : Dispatch) → IsNoReady d → Keeps id d
keeps_no_ready id d later = λ (n : ℕ) (s : ClientSession) own. (record s { number = n }, (ap (λ (b : Option ClientSession). session_after b n (Some s)) (later n), (own, refl)))

pub all_keep_no_ready : (id : List ℕ) (ds : List Dispatch) → AreNoReady ds → All (Keeps id) ds
all_keep_no_ready id ds later = All-weaker IsNoReady (Keeps id) (keeps_no_ready id) ds later

-- and READY of the session
pub keeps_ready : (id : List ℕ) (r : Greeted) → r.session ≡ id → Keeps id (Ready r)
keeps_ready id r is = λ (n : ℕ) (s : ClientSession) own. (record { id = r.session; url = r.url; number = n }, (refl, (is, refl)))

-- ---- a dispatch of a guild

pub of_no_ready : (guild : ℕ) (d : Dispatch) → guild_of d ≡ Some guild → IsNoReady d
of_no_ready guild (Ready r) of = absurd (cc of)
of_no_ready guild d of = λ n. refl

one_if : (b : Bool) (d : Dispatch) → IsNoReady d → AreNoReady (if b then d ∷ [] else [])
one_if true d later = All-cons IsNoReady d [] later (All-nil IsNoReady)
one_if false d later = All-nil IsNoReady

-- each that is due for an edit
pub due_no_ready : (s : Record) (e : Edit) (v : Viewer) → AreNoReady (due s e v)
due_no_ready s e v = All-weaker (λ (d : Dispatch). guild_of d ≡ Some s.id) IsNoReady (of_no_ready s.id) (due s e v) (due-of s e v)

-- ---- what no entry made

greeting_no_ready : (v : Viewer) (s : Record) (o : Option Member) → AreNoReady (greeting_for v s o)
greeting_no_ready v s None = All-nil IsNoReady
greeting_no_ready v s (Some me) = one_if (has_bit v.intents guilds && not s.outage) (GuildCreate (greeting s v me)) (λ n. refl)

pub greetings_no_ready : (v : Viewer) (records : List Record) → AreNoReady (flat_map (greeting_of v) records)
greetings_no_ready v [] = All-nil IsNoReady
greetings_no_ready v (s ∷ records) = All-append IsNoReady (greeting_of v s) (flat_map (greeting_of v) records) (greeting_no_ready v s (served v s)) (greetings_no_ready v records)

answered_no_ready : (s : Record) (v : Viewer) (ask : Ask) → AreNoReady (answered s v ask)
unfolding answered
answered_no_ready s v ask = by_answer (is_answered s v ask)
  where
    by_index : (ms : List Member) (ns : List ℕ) → AreNoReady (map (λ index. GuildMembersChunk (chunk s ask ms index)) ns)
    by_index ms [] = All-nil IsNoReady
    by_index ms (n ∷ ns) = All-cons IsNoReady (GuildMembersChunk (chunk s ask ms n)) _ (λ m. refl) (by_index ms ns)

    by_answer : (b : Bool) → AreNoReady (if b then chunks s ask (found s ask.find) else [])
    by_answer true = by_index (found s ask.find) (range_with_len 0 (chunk_count (found s ask.find)))
    by_answer false = All-nil IsNoReady

pub answer_no_ready : (v : Viewer) (ask : Ask) (o : Option Record) → AreNoReady (answered_by v ask o)
answer_no_ready v ask None = All-nil IsNoReady
answer_no_ready v ask (Some s) = answered_no_ready s v ask

-- ---- a session's first dispatches: READY of its own, and then guilds

pub first_keep : (text : ℕ → Dispatch → List ℕ) (w : Worker) (v : Viewer) (name : List ℕ) (n : ℕ) → All (Keeps (session_id w.core.worker n)) (first_dispatches (in_model text) w v name n)
first_keep text w v name n =
    All-cons (Keeps (session_id w.core.worker n)) (Ready (ready (in_model text) w v name n)) (flat_map (greeting_of v) (records_of w.logs))
    (keeps_ready (session_id w.core.worker n) (ready (in_model text) w v name n) refl)
    (all_keep_no_ready (session_id w.core.worker n) (flat_map (greeting_of v) (records_of w.logs)) (greetings_no_ready v (records_of w.logs)))
