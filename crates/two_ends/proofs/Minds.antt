-- What a client keeps in mind, and what is on its way to it.
use Rattle.std.proofs.Common.{◌≡◌, ℕ, ◌+◌, List, [], ◌∷◌, ◌++◌, true, false, Option, Some, None, length, map, ◌⊎◌}
use Rattle.std.specs.Prelude.{All, ◌<◌, ◌^◌}
use Rattle.dispatch_types.specs.declared.dispatch.Dispatch.{Dispatch}
use Rattle.dispatch_types.specs.declared.dispatch.Dispatch.TheVariants.{Ready, Resumed as ResumedDispatch}
use Rattle.dispatch_types.specs.declared.ready.Ready.{Ready as Greeted}
use Rattle.dispatch_types.specs.Fold.{fold, purge}
use Rattle.gateway_frames.specs.declared.out.Out.{Out}
use Rattle.gateway_frames.specs.declared.out.Out.TheVariants.{Hello, Ack, Invalid, Reconnect, Resumed}
use Rattle.session_core.specs.State.{Session, is_on}
use Rattle.session_core.specs.Resume.{session_id}
use Rattle.client_session.specs.declared.session.Session.{Session as ClientSession}
use Rattle.client_session.specs.Table.{begun, session_after}
use Rattle.world_law.specs.Sent.{Sent, dispatches}
use Rattle.world_law.specs.Model.{Worker}
use Rattle.two_ends.specs.Flights.{Flight, Text, Close, said}
use Rattle.two_ends.proofs.Among.{IsAmong}

-- ---- what is on its way, as it was meant

pub data Item : Type 0 where
  Said : (out : Out) → Item
  Told : (number : ℕ) (d : Dispatch) → Item
  Shut : (code : ℕ) → Item

abbrev pub flown : (ℕ → Dispatch → List ℕ) → Item → Flight
flown text (Said out) = Text (said out)
flown text (Told n d) = Text (text n d)
flown text (Shut code) = Close code

abbrev pub all_flown : (ℕ → Dispatch → List ℕ) → List Item → List Flight
all_flown text is = map (flown text) is

-- dispatches after a number
abbrev pub told_items : ℕ → List Dispatch → List Item
told_items n [] = []
told_items n (d ∷ ds) = Told (n + 1) d ∷ told_items (n + 1) ds

-- ---- what a client keeps in mind: its session, and the dispatches that it has read

pub record Mind : Type 0 where
  pub session : Option ClientSession
  pub kept : List Dispatch

abbrev pub with_dispatch : Mind → Dispatch → ℕ → Mind
with_dispatch m d n = record { session = session_after (begun d n) n m.session; kept = m.kept ++ d ∷ [] }

abbrev pub without_session : Mind → Mind
without_session m = record { session = None; kept = m.kept }

abbrev pub minded : Mind → Item → Mind
minded m (Said (Hello interval_ms)) = m
minded m (Said Ack) = m
minded m (Said (Invalid true)) = m
minded m (Said (Invalid false)) = without_session m
minded m (Said Reconnect) = m
minded m (Said (Resumed n)) = with_dispatch m ResumedDispatch n
minded m (Told n d) = with_dispatch m d n
minded m (Shut code) = m

abbrev pub all_minded : Mind → List Item → Mind
all_minded m [] = m
all_minded m (i ∷ is) = all_minded (minded m i) is

-- ---- sessions that grow

-- the same session, which has been sent more
pub record Grows (x y : Session Sent) : Type 0 where
  pub number : y.number ≡ x.number
  pub viewer : y.viewer ≡ x.viewer
  pub more : List Dispatch
  pub dispatches : dispatches y.sent ≡ dispatches x.sent ++ more

-- each session has grown, and others may have begun after them
abbrev pub Grown : List (Session Sent) → List (Session Sent) → Type 0
Grown [] ys = Unit {0}
Grown (x ∷ xs) [] = ⊥
Grown (x ∷ xs) (y ∷ ys) = Grows x y × Grown xs ys

-- ---- the dispatches of a session

-- a client of the session of this id that reads the dispatch has this session, at this number
abbrev pub Keeps : List ℕ → Dispatch → Type 0
Keeps id d = (n : ℕ) (s : ClientSession) → s.id ≡ id → (t : ClientSession) × ((session_after (begun d n) n (Some s) ≡ Some t) × ((t.id ≡ id) × (t.number ≡ n)))

abbrev pub SessionKeeps : ℕ → Session Sent → Type 0
SessionKeeps worker x = All (Keeps (session_id worker x.number)) (dispatches x.sent)

abbrev pub WorkerKeeps : Worker → Type 0
WorkerKeeps w = All (SessionKeeps w.core.worker) w.core.sessions

module _ (asked worker : ℕ) where
  -- the client has this session, and holds its dispatches up to these
  pub record At (m : Mind) (x : Session Sent) (front : List Dispatch) : Type 0 where
    pub session : ClientSession
    pub is : m.session ≡ Some session
    pub id : session.id ≡ session_id worker x.number
    pub number : session.number ≡ length front
    pub intents : x.viewer.intents ≡ asked
    pub folds : (g : ℕ) → fold asked g m.kept ≡ fold asked g front

  -- it has one of these sessions
  pub record Known (xs : List (Session Sent)) (m : Mind) : Type 0 where
    pub session : Session Sent
    pub among : IsAmong session xs
    pub front : List Dispatch
    pub back : List Dispatch
    pub split : dispatches session.sent ≡ front ++ back
    pub at : At m session front

  abbrev pub Knows : List (Session Sent) → Mind → Type 0
  Knows xs m = (s : ClientSession) → m.session ≡ Some s → Known xs m

  -- each session on a connection is held whole
  abbrev pub AtEnds : ℕ → Mind → List (Session Sent) → Type 0
  AtEnds conn m xs = (x : Session Sent) → IsAmong x xs → is_on conn x.condition ≡ true → At m x (dispatches x.sent)

  -- ---- what may come to a client

  -- READY of a session that is not the client's
  pub record IsGreeting (m : Mind) (x : Session Sent) (front : List Dispatch) (d : Dispatch) : Type 0 where
    pub first : front ≡ []
    pub ready : Greeted
    pub is : d ≡ Ready ready
    pub id : ready.session ≡ session_id worker x.number
    pub intents : x.viewer.intents ≡ asked
    pub other : (s : ClientSession) → m.session ≡ Some s → ¬ (s.id ≡ session_id worker x.number)

  pub record Comes (xs : List (Session Sent)) (m : Mind) (n : ℕ) (d : Dispatch) : Type 0 where
    pub session : Session Sent
    pub among : IsAmong session xs
    pub front : List Dispatch
    pub back : List Dispatch
    pub split : dispatches session.sent ≡ front ++ d ∷ back
    pub number : n ≡ length front + 1
    pub next : At m session front ⊎ IsGreeting m session front d

  -- the client's session goes on after these dispatches, which leave no thread over
  pub record GoesOn (xs : List (Session Sent)) (m : Mind) (n : ℕ) : Type 0 where
    pub session : Session Sent
    pub among : IsAmong session xs
    pub front : List Dispatch
    pub back : List Dispatch
    pub split : dispatches session.sent ≡ front ++ back
    pub number : n ≡ length front
    pub at : At m session front
    pub still : (g : ℕ) → purge asked g (fold asked g front) ≡ fold asked g front

  abbrev pub Fine : List (Session Sent) → Mind → Item → Type 0
  Fine xs m (Said (Hello interval_ms)) = interval_ms < 2 ^ 64
  Fine xs m (Said Ack) = Unit {0}
  Fine xs m (Said (Invalid resumable)) = resumable ≡ false
  Fine xs m (Said Reconnect) = ⊥
  Fine xs m (Said (Resumed n)) = GoesOn xs m n
  Fine xs m (Told n d) = Comes xs m n d
  Fine xs m (Shut code) = Unit {0}

  abbrev pub Good : List (Session Sent) → Mind → List Item → Type 0
  Good xs m [] = Unit {0}
  Good xs m (i ∷ is) = Fine xs m i × Good xs (minded m i) is
