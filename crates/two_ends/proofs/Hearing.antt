-- What a client makes of what comes to it, and what it sends.
use Rattle.std.proofs.Common.{◌≡◌, ℕ, ◌<◌, ◌^◌, List, [], ◌∷◌, ◌++◌, Bool, true, false, Option, Some, None, if◌then◌else◌, length, refl, sym, ap, subst, ◌∙◌, arith, ◌⊎◌, inl, inr}
use Rattle.std.specs.Prelude.{All, ◌==◌, option_to_list}
use Rattle.std.proofs.lemmas.List.{length-append, length-map}
use Rattle.std.proofs.lemmas.Option.{same_Some}
use Rattle.dispatch_types.specs.declared.dispatch.Dispatch.{Dispatch}
use Rattle.dispatch_types.specs.declared.dispatch.Dispatch.TheVariants.{Resumed as ResumedDispatch}
use Rattle.event_json.specs.Body.{DispatchFits}
use Rattle.gateway_frames.specs.declared.frame.Frame.TheVariants as frame
use Rattle.gateway_frames.specs.declared.out.Out.TheVariants.{Hello, Ack, Invalid, Reconnect, Resumed}
use Rattle.session_core.specs.State.{Session}
use Rattle.client_session.specs.declared.session.Session.{Session as ClientSession}
use Rattle.client_session.specs.declared.received.Received.{Received}
use Rattle.client_session.specs.declared.received.Received.TheVariants as payload
use Rattle.client_session.specs.Received.{IsTextOf}
use Rattle.client_session.specs.Step.{Event as Told, Receives, Loses, Asks as IsAsked, acts}
use Rattle.client_session.specs.Table.{identify, resume, first_frame, frame_text, heartbeat, sends, dial, is_due, is_final, beaten, forgotten, unlinked}
use Rattle.client_session.specs.Law.{Model as Client, taken}
use Rattle.world_law.specs.Sent.{Sent, dispatch_of, dispatches}
use Rattle.world_law.specs.Model.{Worker}
use Rattle.world_law.proofs.Lists.{all_at, append_none}
use Rattle.two_ends.specs.Flights.{ReadsBack, SessionFits, Fits, said, sent_texts}
use Rattle.two_ends.proofs.Among.{IsAmong, all_among}
use Rattle.two_ends.proofs.Minds.{Item, Said, Told as ToldItem, Shut, Mind, minded, Known, Knows, Fine}
use Rattle.two_ends.proofs.Stages.{IsStill, AreStill, IsLater, AreBeats, IsOwn, AreOwn, IsFirst, Prompts, Asks, Has, Stage, still_minded, still_later}
use Rattle.two_ends.proofs.Readings.{told_read, said_read, resumed_read}

-- what a client has in mind
abbrev pub mind : Client → Mind
mind c = record { session = c.session; kept = c.kept }

-- the payload that an item is
abbrev pub payload_of : Item → Received
payload_of (Said (Hello interval_ms)) = payload.Other (Hello interval_ms)
payload_of (Said Ack) = payload.Other Ack
payload_of (Said (Invalid resumable)) = payload.Other (Invalid resumable)
payload_of (Said Reconnect) = payload.Other Reconnect
payload_of (Said (Resumed n)) = payload.Dispatch ResumedDispatch n
payload_of (ToldItem n d) = payload.Dispatch d n
payload_of (Shut code) = payload.Other Ack

-- the text of an item, if it has one
abbrev pub IsTextOfItem : (ℕ → Dispatch → List ℕ) → List ℕ → Item → Type 0
IsTextOfItem text t (Said out) = t ≡ said out
IsTextOfItem text t (ToldItem n d) = t ≡ text n d
IsTextOfItem text t (Shut code) = ⊥

module _ (text : ℕ → Dispatch → List ℕ) (back : ReadsBack text) (intents : ℕ) (w : Worker) (fits : Fits w) where
  fits_here : (x : Session Sent) → IsAmong x w.core.sessions → SessionFits x
  fits_here x among = all_among SessionFits x w.core.sessions fits.sessions among

  few_here : (x : Session Sent) → IsAmong x w.core.sessions → length (dispatches x.sent) < 2 ^ 64
  few_here x among = omega (arith, (fits_here x among).1, length-map x.sent.told dispatch_of)

  -- a text is read as the item that it was written for
  pub read_item : (worker : ℕ) (m : Mind) (i : Item) (t : List ℕ) (received : Received) → Fine intents worker w.core.sessions m i → IsTextOfItem text t i → IsTextOf t received → received ≡ payload_of i
  read_item worker m (Said (Hello interval_ms)) t received fine is reads = said_read text back (Hello interval_ms) received tt fine (subst (λ t. IsTextOf t received) is reads)
  read_item worker m (Said Ack) t received fine is reads = said_read text back Ack received tt tt (subst (λ t. IsTextOf t received) is reads)
  read_item worker m (Said (Invalid resumable)) t received fine is reads = said_read text back (Invalid resumable) received tt tt (subst (λ t. IsTextOf t received) is reads)
  read_item worker m (Said Reconnect) t received fine is reads = absurd fine
  read_item worker m (Said (Resumed n)) t received fine is reads =
      resumed_read text back n received (omega (arith, fine.number, few_here fine.session fine.among, ap length fine.split, length-append fine.front fine.back)) (subst (λ t. IsTextOf t received) is reads)
  read_item worker m (ToldItem n d) t received fine is reads =
      let whole : n < 2 ^ 64 = omega (arith, fine.number, few_here fine.session fine.among, ap length fine.split, length-append fine.front (d ∷ fine.back)) in
      let own : DispatchFits d = all_at DispatchFits fine.front d fine.back (subst (λ (ds : List Dispatch). All DispatchFits ds) fine.split (fits_here fine.session fine.among).0) in
      told_read text back n d received own whole (subst (λ t. IsTextOf t received) is reads)
  read_item worker m (Shut code) t received fine is reads = absurd is

-- ---- what is left of a client

abbrev pub minding : Option ClientSession → List Dispatch → Mind
minding session kept = record { session = session; kept = kept }

with_nothing : (session : Option ClientSession) (kept : List Dispatch) → minding session (kept ++ []) ≡ minding session kept
with_nothing session kept = ap (minding session) (append_none kept)

-- a client has in mind what the item leaves
pub hears_mind : (c : Client) (i : Item) (now : ℕ) → mind (taken c (Receives (payload_of i) now)) ≡ minded (mind c) i
hears_mind c (Said (Hello interval_ms)) now = with_nothing c.session c.kept
hears_mind c (Said Ack) now = with_nothing c.session c.kept
hears_mind c (Said (Invalid true)) now = with_nothing c.session c.kept
hears_mind c (Said (Invalid false)) now = with_nothing None c.kept
hears_mind c (Said Reconnect) now = with_nothing c.session c.kept
hears_mind c (Said (Resumed n)) now = refl
hears_mind c (ToldItem n d) now = refl
hears_mind c (Shut code) now = with_nothing c.session c.kept

pub asks_mind : (c : Client) (now : ℕ) → mind (taken c (IsAsked now)) ≡ mind c
asks_mind c now = by_due (is_due c now)
  where
    by_due : (b : Bool) → mind (record (if b then beaten c now else c) { kept = c.kept ++ [] }) ≡ mind c
    by_due true = with_nothing c.session c.kept
    by_due false = with_nothing c.session c.kept

-- the end of a connection leaves the session, or none
pub loses_mind : (c : Client) (code : Option ℕ) → (mind (taken c (Loses code)) ≡ mind c) ⊎ (mind (taken c (Loses code)) ≡ minding None c.kept)
loses_mind c None = inl (with_nothing c.session c.kept)
loses_mind c (Some code) = by_code (is_final code) (code == 4007)
  where
    by_code : (final beyond : Bool) → let d : Client = record (if final then c else (if beyond then forgotten (unlinked c) else unlinked c)) { kept = c.kept ++ [] } in
        (mind d ≡ mind c) ⊎ (mind d ≡ minding None c.kept)
    by_code true beyond = inl (with_nothing c.session c.kept)
    by_code false true = inr (with_nothing None c.kept)
    by_code false false = inl (with_nothing c.session c.kept)

-- its token and its intents stay
pub same_intents : (c : Client) (event : Told) → (taken c event).intents ≡ c.intents
same_intents c (Receives (payload.Dispatch d n) now) = refl
same_intents c (Receives (payload.Other (Hello interval_ms)) now) = refl
same_intents c (Receives (payload.Other Ack) now) = refl
same_intents c (Receives (payload.Other (Invalid true)) now) = refl
same_intents c (Receives (payload.Other (Invalid false)) now) = refl
same_intents c (Receives (payload.Other Reconnect) now) = refl
same_intents c (Receives (payload.Other (Resumed n)) now) = refl
same_intents c (Loses None) = refl
same_intents c (Loses (Some code)) = by_code (is_final code) (code == 4007)
  where
    by_code : (final beyond : Bool) → (record (if final then c else (if beyond then forgotten (unlinked c) else unlinked c)) { kept = c.kept ++ [] }).intents ≡ c.intents
    by_code true beyond = refl
    by_code false true = refl
    by_code false false = refl
same_intents c (IsAsked now) = by_due (is_due c now)
  where
    by_due : (b : Bool) → (record (if b then beaten c now else c) { kept = c.kept ++ [] }).intents ≡ c.intents
    by_due true = refl
    by_due false = refl

-- ---- what it sends

-- a heartbeat, or nothing
pub beat_texts : (c : Client) (now : ℕ) → AreBeats (sent_texts (acts c (IsAsked now)))
beat_texts c now = by_due (is_due c now)
  where
    by_due : (b : Bool) → AreBeats (sent_texts (option_to_list (if b then Some (sends (heartbeat c.session)) else None)))
    by_due true = ((_, refl), tt)
    by_due false = tt

pub beats_own : (worker : ℕ) (xs : List (Session Sent)) (texts : List (List ℕ)) → AreBeats texts → AreOwn worker xs texts
beats_own worker xs [] beats = tt
beats_own worker xs (t ∷ texts) beats = ((frame.Heartbeat beats.0.0, (beats.0.1, tt)), beats_own worker xs texts beats.1)

module _ (intents worker conn : ℕ) (xs : List (Session Sent)) where
  -- after the first item on its way was received
  pub heard_stage : (c : Client) → c.intents ≡ intents → (i : Item) (is : List Item) (texts : List (List ℕ)) (now : ℕ) → Stage intents worker (mind c) conn xs (i ∷ is) texts
      → Stage intents worker (minded (mind c) i) conn xs is (texts ++ sent_texts (acts c (Receives (payload_of i) now)))
  heard_stage c asked i is texts now stage = elim stage [
    | inl off ↦ inl (
      off.0,
      elim off.1 [
        | inl waits ↦ by_front waits waits.front refl
        | inr asks ↦ inr (still_asks i is asks)
      ],
    )
    | inr has ↦ inr (still_has i is has)
  ]
    where
      silent : (i : Item) → IsLater i → sent_texts (acts c (Receives (payload_of i) now)) ≡ []
      silent (Said (Hello interval_ms)) later = absurd later
      silent (Said Ack) later = refl
      silent (Said (Invalid resumable)) later = absurd later
      silent (Said Reconnect) later = absurd later
      silent (Said (Resumed n)) later = refl
      silent (ToldItem n d) later = refl
      silent (Shut code) later = refl

      no_texts : (i : Item) → IsLater i → texts ++ sent_texts (acts c (Receives (payload_of i) now)) ≡ texts
      no_texts i later = ap (λ more. texts ++ more) (silent i later) ∙ append_none texts

      still_asks : (i : Item) (is : List Item) → Asks intents (mind c) (i ∷ is) texts → Asks intents (minded (mind c) i) is (texts ++ sent_texts (acts c (Receives (payload_of i) now)))
      still_asks i is asks = record {
        still = asks.still.1;
        frame = asks.frame;
        first = subst (λ (m : Mind). IsFirst intents m asks.frame) (sym (still_minded (mind c) i asks.still.0)) asks.first;
        front = asks.front;
        back = asks.back;
        split = no_texts i (still_later (i ∷ []) (asks.still.0, tt)).0 ∙ asks.split;
        before = asks.before;
        later = asks.later;
      }

      still_has : (i : Item) (is : List Item) → Has intents worker (mind c) conn xs (i ∷ is) texts → Has intents worker (minded (mind c) i) conn xs is (texts ++ sent_texts (acts c (Receives (payload_of i) now)))
      still_has i is has = record { ends = has.ends; late = has.late.1; beats = subst AreBeats (sym (no_texts i has.late.0)) has.beats }

      -- the client sends its first frame
      opens : (beats : AreBeats texts) (i : Item) (is : List Item) → AreStill is → (i ≡ Said (Hello 41250)) ⊎ (i ≡ Said (Invalid false))
          → Asks intents (minded (mind c) i) is (texts ++ sent_texts (acts c (Receives (payload_of i) now)))
      opens beats i is still which = elim which [
        | inl hello ↦ subst (λ i. Asks intents (minded (mind c) i) is (texts ++ sent_texts (acts c (Receives (payload_of i) now)))) (sym hello) (record {
          still = still;
          frame = first_frame c.token c.intents c.session;
          first = first_is c.session;
          front = texts;
          back = [];
          split = refl;
          before = beats;
          later = tt;
        })
        | inr denied ↦ subst (λ i. Asks intents (minded (mind c) i) is (texts ++ sent_texts (acts c (Receives (payload_of i) now)))) (sym denied) (record {
          still = still;
          frame = identify c.token c.intents;
          first = inl (c.token, ap (identify c.token) asked);
          front = texts;
          back = [];
          split = refl;
          before = beats;
          later = tt;
        })
      ]
        where
          first_is : (o : Option ClientSession) → IsFirst intents (record { session = o; kept = c.kept }) (first_frame c.token c.intents o)
          first_is None = inl (c.token, ap (identify c.token) asked)
          first_is (Some s) = inr (c.token, (s, (refl, refl)))

      by_front : (waits : Prompts (i ∷ is) texts) (front : List Item) → waits.front ≡ front
          → Prompts is (texts ++ sent_texts (acts c (Receives (payload_of i) now))) ⊎ Asks intents (minded (mind c) i) is (texts ++ sent_texts (acts c (Receives (payload_of i) now)))
      by_front waits [] e =
          let split : i ∷ is ≡ waits.prompt ∷ waits.back = waits.split ∙ ap (λ front. front ++ waits.prompt ∷ waits.back) e in
          let here : i ≡ waits.prompt = cc split in
          let rest : is ≡ waits.back = cc split in
          inr (opens waits.beats i is (subst AreStill (sym rest) waits.later) (subst (λ i. (i ≡ Said (Hello 41250)) ⊎ (i ≡ Said (Invalid false))) (sym here) waits.which))
      by_front waits (f ∷ front) e =
          let split : i ∷ is ≡ f ∷ (front ++ waits.prompt ∷ waits.back) = waits.split ∙ ap (λ front. front ++ waits.prompt ∷ waits.back) e in
          let before : AreStill (f ∷ front) = subst AreStill e waits.before in
          let here : i ≡ f = cc split in
          let still : IsStill i = subst IsStill (sym here) before.0 in
          inl (record {
            prompt = waits.prompt;
            which = waits.which;
            front = front;
            back = waits.back;
            split = cc split;
            before = before.1;
            later = waits.later;
            beats = subst AreBeats (sym (no_texts i (still_later (i ∷ []) (still, tt)).0)) waits.beats;
          })

  first_own : (c : Client) → c.intents ≡ intents → Knows intents worker xs (mind c) → IsOwn worker xs (frame_text (first_frame c.token c.intents c.session))
  first_own c asked knows = by_session c.session refl
    where
      by_session : (o : Option ClientSession) → c.session ≡ o → IsOwn worker xs (frame_text (first_frame c.token c.intents o))
      by_session None is = (identify c.token c.intents, (refl, tt))
      by_session (Some s) is =
          let known : Known intents worker xs (mind c) = knows s is in
          let same : known.at.session ≡ s = same_Some known.at.session s (sym known.at.is ∙ is) in (
            resume c.token s,
            (
              refl,
              (
                known.session,
                (
                  known.among,
                  (
                    ap (λ (s : ClientSession). s.id) (sym same) ∙ known.at.id,
                    omega (arith, ap (λ (s : ClientSession). s.number) same, known.at.number, ap length known.split, length-append known.front known.back),
                  ),
                ),
              ),
            ),
          )

  -- what a client sends that receives it is its own
  pub heard_own : (c : Client) → c.intents ≡ intents → Knows intents worker xs (mind c) → (received : Received) (now : ℕ) → AreOwn worker xs (sent_texts (acts c (Receives received now)))
  heard_own c asked knows (payload.Dispatch d n) now = tt
  heard_own c asked knows (payload.Other (Hello interval_ms)) now = (first_own c asked knows, tt)
  heard_own c asked knows (payload.Other Ack) now = tt
  heard_own c asked knows (payload.Other (Invalid true)) now = (first_own c asked knows, tt)
  heard_own c asked knows (payload.Other (Invalid false)) now = ((identify c.token c.intents, (refl, tt)), tt)
  heard_own c asked knows (payload.Other Reconnect) now = by_dial c.session
    where
      by_dial : (o : Option ClientSession) → AreOwn worker xs (sent_texts (dial o ∷ []))
      by_dial None = tt
      by_dial (Some s) = tt
  heard_own c asked knows (payload.Other (Resumed n)) now = tt
