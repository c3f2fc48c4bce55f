-- What holds of a client and its worker lasts through every event.
use Rattle.std.proofs.Common.{◌≡◌, ℕ, zero, suc, ◌<◌, ◌^◌, List, [], ◌∷◌, ◌++◌, Bool, true, false, Option, Some, None, if◌then◌else◌, length, map, take, refl, sym, ap, subst, ◌∙◌, arith, append_assoc, ◌⊎◌, inl, inr}
use Rattle.std.specs.Prelude.{All, nat_lt}
use Rattle.std.proofs.lemmas.Bool.{true≢false}
use Rattle.std.proofs.lemmas.Option.{same_Some}
use Rattle.std.proofs.lemmas.List.{take-map}
use Rattle.dispatch_types.specs.declared.dispatch.Dispatch.{Dispatch}
use Rattle.gateway_frames.specs.declared.out.Out.TheVariants as out
use Rattle.session_core.specs.State.{has_connection, with_connection}
use Rattle.client_session.specs.declared.received.Received.{Received}
use Rattle.client_session.specs.Received.{IsTextOf}
use Rattle.client_session.specs.Step.{Receives, Loses as LosesLink, Asks as IsAsked, acts}
use Rattle.client_session.specs.Law.{Model as Client, taken as client_taken}
use Rattle.world_law.specs.Inputs.{Input, Open, Frame, taken, outputs}
use Rattle.world_law.specs.Model.{Worker, in_model}
use Rattle.world_law.specs.Outputs.{Output, Says, Closes}
use Rattle.world_law.specs.Sends.{AreOff}
use Rattle.world_law.proofs.Alone.{IsSound, taken_sound}
use Rattle.world_law.proofs.Folds.{same_id}
use Rattle.world_law.proofs.Lists.{append_none, map_join}
use Rattle.world_law.proofs.Workers.{Follows}
use Rattle.two_ends.specs.Flights.{Flight, Text, Close, flights, ReadsBack, Fits, sent_texts, said}
use Rattle.two_ends.specs.Ends.{outputs_of}
use Rattle.two_ends.proofs.Minds.{Item, Said, Told as ToldItem, Shut, flown, all_flown, Mind, minded, all_minded, SessionKeeps, WorkerKeeps, AtEnds, Knows, Fine, Good, Grown}
use Rattle.two_ends.proofs.Growing.{taken_grows, taken_worker, taken_keeps}
use Rattle.two_ends.proofs.Steps.{Advances, advances_item, minded_join, good_join, good_grown, good_take, knows_item, knows_grown}
use Rattle.two_ends.proofs.Stages.{later_join, AreBeats, beats_join, AreOwn, own_join, own_grown, Stage, off_ends, still_good, shut_still, shut_flown, Prompts, Asks}
use Rattle.two_ends.proofs.Arriving.{still_stage, Leaves}
use Rattle.two_ends.proofs.Judging.{text_leaves}
use Rattle.two_ends.proofs.Hearing.{mind, payload_of, IsTextOfItem, read_item, hears_mind, asks_mind, loses_mind, same_intents, beat_texts, beats_own, heard_stage, heard_own}
use Rattle.two_ends.proofs.Elsewhere.{IsElse, IsShut, Reaches, off_elsewhere, on_elsewhere}
use Rattle.two_ends.proofs.Places.{after_input}

-- ---- what holds

-- of a client, its connection with what is on its way, and its worker
pub record Holds (text : ℕ → Dispatch → List ℕ) (c : Client) (worker : ℕ) (conn : Option ℕ) (whole : Bool) (to_client : List Flight) (to_worker : List (List ℕ)) (w : Worker) : Type 0 where
  pub number : w.core.worker ≡ worker
  pub items : List Item
  pub are : to_client ≡ all_flown text items
  pub good : Good c.intents worker w.core.sessions (mind c) items
  pub knows : Knows c.intents worker w.core.sessions (mind c)
  pub own : AreOwn worker w.core.sessions to_worker
  pub keeps : WorkerKeeps w
  pub stage : (k : ℕ) → conn ≡ Some k → whole ≡ true → Stage c.intents worker (mind c) k w.core.sessions items to_worker

-- ---- what a worker takes

-- what an input leaves that is not of the client's connection
module _ (text : ℕ → Dispatch → List ℕ) (w : Worker) (i : Input) (sound : IsSound w) (intents worker : ℕ) (m : Mind) (k : ℕ) (is : List Item) (to_worker : List (List ℕ)) (elsewhere : IsElse k i) (number : w.core.worker ≡ worker) where
  abbrev new : Worker
  new = taken (in_model text) w i

  abbrev out_of : List Output
  out_of = outputs (in_model text) w i

  shut_goes : AreOff k w.core.sessions → Prompts is to_worker ⊎ Asks intents m is to_worker → Leaves text intents k worker m is to_worker new out_of
  shut_goes off waits =
      let shut : IsShut k new.core.sessions (flights k out_of) = off_elsewhere text i w k elsewhere off in
      record {
        items = map Shut shut.codes;
        are = shut.shut ∙ shut_flown text shut.codes;
        good = still_good intents worker new.core.sessions (all_minded m is) (map Shut shut.codes) (shut_still shut.codes);
        stage = still_stage text intents k worker m is to_worker new.core.sessions (map Shut shut.codes) (shut_still shut.codes) (inl (shut.off, waits));
      }

  goes : WorkerKeeps w → Stage intents worker m k w.core.sessions is to_worker → Leaves text intents k worker m is to_worker new out_of
  goes keeps stage = elim stage [
    | inl off ↦ shut_goes off.0 off.1
    | inr has ↦
        let reaches : Reaches text intents worker k (all_minded m is) new.core.sessions (flights k out_of) =
        subst (λ n. Reaches text intents n k (all_minded m is) new.core.sessions (flights k out_of)) number
        (on_elsewhere text i w k intents (all_minded m is) elsewhere sound keeps (taken_keeps text i w keeps)
        (subst (λ n. AtEnds intents n k (all_minded m is) w.core.sessions) (sym number) has.ends)) in
        record {
          items = reaches.items;
          are = reaches.are;
          good = reaches.good;
          stage = inr (record {
            ends = subst (λ (n : Mind). AtEnds intents worker k n new.core.sessions) (sym (minded_join m is reaches.items)) reaches.ends;
            late = later_join is reaches.items has.late reaches.late;
            beats = has.beats;
          });
        }
  ]

-- what outputs put on their way to a connection, if there is one
abbrev pub flown_to : Option ℕ → List Output → List Flight
flown_to None os = []
flown_to (Some k) os = flights k os

module _ (text : ℕ → Dispatch → List ℕ) (c : Client) (worker : ℕ) (to_client : List Flight) (w : Worker) (sound : IsSound w) where
  abbrev Lasts : Input → Option ℕ → Bool → List (List ℕ) → Type 0
  Lasts i conn whole to_worker = Holds text c worker conn whole (to_client ++ (if whole then flown_to conn (outputs (in_model text) w i) else [])) to_worker (taken (in_model text) w i)

  -- with what is on its way to the worker afterwards
  module _ (i : Input) (conn : Option ℕ) (whole : Bool) (before later : List (List ℕ)) (old : Holds text c worker conn whole to_client before w) (own : AreOwn worker w.core.sessions later) where
    abbrev next : Worker
    next = taken (in_model text) w i

    grown : Grown w.core.sessions next.core.sessions
    grown = taken_grows text i w

    -- nothing gets on its way to the client, which has no whole link
    none_lasts : ((k : ℕ) → conn ≡ Some k → ¬ (whole ≡ true)) → Holds text c worker conn whole (to_client ++ []) later next
    none_lasts cut = record {
      number = taken_worker text i w ∙ old.number;
      items = old.items;
      are = append_none to_client ∙ old.are;
      good = good_grown c.intents worker w.core.sessions next.core.sessions grown (mind c) old.items old.good;
      knows = knows_grown c.intents worker w.core.sessions next.core.sessions grown (mind c) old.knows;
      own = own_grown worker w.core.sessions next.core.sessions grown later own;
      keeps = taken_keeps text i w old.keeps;
      stage = λ k is on. absurd (cut k is on);
    }

    -- what the input leaves gets on its way to the client
    some_lasts : (k : ℕ) → conn ≡ Some k → Leaves text c.intents k worker (mind c) old.items later next (outputs (in_model text) w i)
        → Holds text c worker conn whole (to_client ++ flights k (outputs (in_model text) w i)) later next
    some_lasts k here left = record {
      number = taken_worker text i w ∙ old.number;
      items = old.items ++ left.items;
      are = ap (λ fs. fs ++ flights k (outputs (in_model text) w i)) old.are ∙ (ap (λ fs. all_flown text old.items ++ fs) left.are ∙ sym (map_join (flown text) old.items left.items));
      good = good_join c.intents worker next.core.sessions (mind c) old.items left.items (good_grown c.intents worker w.core.sessions next.core.sessions grown (mind c) old.items old.good) left.good;
      knows = knows_grown c.intents worker w.core.sessions next.core.sessions grown (mind c) old.knows;
      own = own_grown worker w.core.sessions next.core.sessions grown later own;
      keeps = taken_keeps text i w old.keeps;
      stage = λ n is on. subst (λ (n : ℕ). Stage c.intents worker (mind c) n next.core.sessions (old.items ++ left.items) later) (same_Some k n (sym here ∙ is)) left.stage;
    }

  -- an input that is not of the client's connection
  else_lasts : (i : Input) (conn : Option ℕ) (whole : Bool) (to_worker : List (List ℕ)) → ((k : ℕ) → conn ≡ Some k → IsElse k i) → Holds text c worker conn whole to_client to_worker w → Lasts i conn whole to_worker
  else_lasts i conn false to_worker elsewhere old = none_lasts i conn false to_worker to_worker old old.own (λ k is on. true≢false (sym on))
  else_lasts i None true to_worker elsewhere old = none_lasts i None true to_worker to_worker old old.own (λ k is on. cc is)
  else_lasts i (Some k) true to_worker elsewhere old =
      some_lasts i (Some k) true to_worker to_worker old old.own k refl (goes text w i sound c.intents worker (mind c) k old.items to_worker (elsewhere k refl) old.number old.keeps (old.stage k refl refl))

  -- nothing, or such an input
  pub any_lasts : (o : Option Input) (conn : Option ℕ) (whole : Bool) (to_worker : List (List ℕ)) → ((i : Input) → o ≡ Some i → (k : ℕ) → conn ≡ Some k → IsElse k i) → Holds text c worker conn whole to_client to_worker w
      → Holds text c worker conn whole (to_client ++ (if whole then flown_to conn (outputs_of text w o) else [])) to_worker (after_input text w o)
  any_lasts (Some i) conn whole to_worker elsewhere old = else_lasts i conn whole to_worker (elsewhere i refl) old
  any_lasts None conn whole to_worker elsewhere old = subst (λ (fs : List Flight). Holds text c worker conn whole fs to_worker w) (sym (none whole conn)) old
    where
      none : (whole : Bool) (conn : Option ℕ) → to_client ++ (if whole then flown_to conn [] else []) ≡ to_client
      none true None = append_none to_client
      none true (Some k) = append_none to_client
      none false conn = append_none to_client

  -- a text of the client
  pub text_lasts : ReadsBack text → Follows w → w.core.made < 2 ^ 32 → (k : ℕ) (t : List ℕ) (later : List (List ℕ)) (whole : Bool) → Holds text c worker (Some k) whole to_client (t ∷ later) w
      → Lasts (Frame k t) (Some k) whole later
  text_lasts back follows few k t later false old = none_lasts (Frame k t) (Some k) false (t ∷ later) later old old.own.1 (λ n is on. true≢false (sym on))
  text_lasts back follows few k t later true old =
      let new : Worker = taken (in_model text) w (Frame k t) in
      some_lasts (Frame k t) (Some k) true (t ∷ later) later old old.own.1 k refl
      (subst (λ n. Leaves text c.intents k n (mind c) old.items later new (outputs (in_model text) w (Frame k t))) old.number
      (text_leaves text back w k t c.intents (mind c) old.items later
      (subst (λ n. Stage c.intents n (mind c) k w.core.sessions old.items (t ∷ later)) (sym old.number) (old.stage k refl refl))
      (subst (λ n. Knows c.intents n w.core.sessions (mind c)) (sym old.number) old.knows)
      sound (omega (arith, few)) follows (taken_sound text (Frame k t) w sound) (taken_worker text (Frame k t) w) (taken_keeps text (Frame k t) w old.keeps)))

  -- a connection that opens
  pub open_lasts : (k : ℕ) (conn : Option ℕ) (whole : Bool) (to_worker : List (List ℕ)) → has_connection k w.core ≡ false → AreOff k w.core.sessions → Holds text c worker conn whole to_client to_worker w
      → Holds text c worker (Some k) true (flights k (outputs (in_model text) w (Open k))) [] (taken (in_model text) w (Open k))
  open_lasts k conn whole to_worker unused off old = by_tests (has_connection k w.core) (nat_lt (length w.core.connections) 64) unused
    where
      by_tests : (there room : Bool) → there ≡ false
          → Holds text c worker (Some k) true (flights k (if there then [] else (if room then Says k (out.Hello 41250) ∷ [] else Closes k 4000 ∷ []))) []
          (record w { core = if there then w.core else (if room then with_connection k w.now w.core else w.core) })
      by_tests true room is = absurd (true≢false is)
      by_tests false true is = record {
        number = old.number;
        items = Said (out.Hello 41250) ∷ [];
        are = ap (λ b. (if b then Text (said (out.Hello 41250)) ∷ [] else []) ++ []) (same_id k);
        good = (omega arith, tt);
        knows = old.knows;
        own = tt;
        keeps = old.keeps;
        stage = λ n is whole. subst (λ (n : ℕ). Stage c.intents worker (mind c) n w.core.sessions (Said (out.Hello 41250) ∷ []) []) (same_Some k n is)
            (inl (off, inl (record { prompt = Said (out.Hello 41250); which = inl refl; front = []; back = []; split = refl; before = tt; later = tt; beats = tt })));
      }
      by_tests false false is = record {
        number = old.number;
        items = Shut 4000 ∷ [];
        are = ap (λ b. (if b then Close 4000 ∷ [] else []) ++ []) (same_id k);
        good = (tt, tt);
        knows = old.knows;
        own = tt;
        keeps = old.keeps;
        stage = λ n is whole. subst (λ (n : ℕ). Stage c.intents worker (mind c) n w.core.sessions (Shut 4000 ∷ []) []) (same_Some k n is)
            (inr (record { ends = off_ends c.intents worker k (mind c) w.core.sessions off; late = (tt, tt); beats = tt }));
      }

-- ---- what the client is told

module _ (text : ℕ → Dispatch → List ℕ) (worker : ℕ) (conn : Option ℕ) (w : Worker) where
  -- the first item on its way, which a text is read as
  record FirstItem (items : List Item) (received : Received) (rest : List Flight) : Type 0 where
    item : Item
    later : List Item
    split : items ≡ item ∷ later
    flies : rest ≡ all_flown text later
    read : received ≡ payload_of item

  first_item : ReadsBack text → Fits w → (c : Client) (whole : Bool) (t : List ℕ) (rest : List Flight) (to_worker : List (List ℕ)) (received : Received) → IsTextOf t received
      → (old : Holds text c worker conn whole (Text t ∷ rest) to_worker w) → FirstItem old.items received rest
  first_item back fits c whole t rest to_worker received reads old = by_items old.items refl
    where
      text_of : (i : Item) → Text t ≡ flown text i → IsTextOfItem text t i
      text_of (Said out) is = cc is
      text_of (ToldItem n d) is = cc is
      text_of (Shut code) is = absurd (cc is)

      by_items : (items : List Item) → old.items ≡ items → FirstItem old.items received rest
      by_items [] e = absurd (cc (old.are ∙ ap (all_flown text) e))
      by_items (i ∷ is) e =
          let are : Text t ∷ rest ≡ flown text i ∷ all_flown text is = old.are ∙ ap (all_flown text) e in
          let fine : Fine c.intents worker w.core.sessions (mind c) i = (subst (λ (is : List Item). Good c.intents worker w.core.sessions (mind c) is) e old.good).0 in
          record {
            item = i;
            later = is;
            split = e;
            flies = cc are;
            read = read_item text back c.intents w fits worker (mind c) i t received fine (text_of i (cc are)) reads;
          }

  -- the client receives it
  pub hear_lasts : ReadsBack text → Fits w → (c : Client) (whole : Bool) (t : List ℕ) (rest : List Flight) (to_worker : List (List ℕ)) (received : Received) (now : ℕ) → IsTextOf t received
      → Holds text c worker conn whole (Text t ∷ rest) to_worker w
      → Holds text (client_taken c (Receives received now)) worker conn whole rest (to_worker ++ (if whole then sent_texts (acts c (Receives received now)) else [])) w
  hear_lasts back fits c whole t rest to_worker received now reads old =
      let first : FirstItem old.items received rest = first_item back fits c whole t rest to_worker received reads old in
      subst (λ (received : Received). Holds text (client_taken c (Receives received now)) worker conn whole rest (to_worker ++ (if whole then sent_texts (acts c (Receives received now)) else [])) w)
      (sym first.read) (by_item first.item first.later first.split first.flies)
    where
      by_item : (i : Item) (is : List Item) → old.items ≡ i ∷ is → rest ≡ all_flown text is
          → Holds text (client_taken c (Receives (payload_of i) now)) worker conn whole rest (to_worker ++ (if whole then sent_texts (acts c (Receives (payload_of i) now)) else [])) w
      by_item i is e flies =
          let good : Good c.intents worker w.core.sessions (mind c) (i ∷ is) = subst (λ (is : List Item). Good c.intents worker w.core.sessions (mind c) is) e old.good in
          let asked : (client_taken c (Receives (payload_of i) now)).intents ≡ c.intents = same_intents c (Receives (payload_of i) now) in
          let minds : mind (client_taken c (Receives (payload_of i) now)) ≡ minded (mind c) i = hears_mind c i now in
          record {
            number = old.number;
            items = is;
            are = flies;
            good = subst (λ n. Good n worker w.core.sessions (mind (client_taken c (Receives (payload_of i) now))) is) (sym asked) (subst (λ (m : Mind). Good c.intents worker w.core.sessions m is) (sym minds) good.1);
            knows = subst (λ n. Knows n worker w.core.sessions (mind (client_taken c (Receives (payload_of i) now)))) (sym asked)
                (subst (λ (m : Mind). Knows c.intents worker w.core.sessions m) (sym minds) (knows_item c.intents worker w.core.sessions (mind c) i (subst (λ n. All (SessionKeeps n) w.core.sessions) old.number old.keeps) old.knows good.0));
            own = own_join worker w.core.sessions to_worker (if whole then sent_texts (acts c (Receives (payload_of i) now)) else []) old.own (own_more whole);
            keeps = old.keeps;
            stage = stage_more whole old.stage asked minds;
          }
        where
          own_more : (b : Bool) → AreOwn worker w.core.sessions (if b then sent_texts (acts c (Receives (payload_of i) now)) else [])
          own_more true = heard_own c.intents worker 0 w.core.sessions c refl old.knows (payload_of i) now
          own_more false = tt

          stage_more : (b : Bool) → ((k : ℕ) → conn ≡ Some k → b ≡ true → Stage c.intents worker (mind c) k w.core.sessions old.items to_worker)
              → (client_taken c (Receives (payload_of i) now)).intents ≡ c.intents → mind (client_taken c (Receives (payload_of i) now)) ≡ minded (mind c) i
              → (k : ℕ) → conn ≡ Some k → b ≡ true
              → Stage (client_taken c (Receives (payload_of i) now)).intents worker (mind (client_taken c (Receives (payload_of i) now))) k w.core.sessions is (to_worker ++ (if b then sent_texts (acts c (Receives (payload_of i) now)) else []))
          stage_more true stage asked minds k here on =
              subst (λ n. Stage n worker (mind (client_taken c (Receives (payload_of i) now))) k w.core.sessions is (to_worker ++ sent_texts (acts c (Receives (payload_of i) now)))) (sym asked)
              (subst (λ (m : Mind). Stage c.intents worker m k w.core.sessions is (to_worker ++ sent_texts (acts c (Receives (payload_of i) now)))) (sym minds)
              (heard_stage c.intents worker k w.core.sessions c refl i is to_worker now (subst (λ (is : List Item). Stage c.intents worker (mind c) k w.core.sessions is to_worker) e (stage k here refl))))
          stage_more false stage asked minds k here on = absurd (true≢false (sym on))

  -- and does not go back
  pub hear_advances : ReadsBack text → Fits w → (c : Client) (whole : Bool) (t : List ℕ) (rest : List Flight) (to_worker : List (List ℕ)) (received : Received) (now : ℕ) → IsTextOf t received
      → Holds text c worker conn whole (Text t ∷ rest) to_worker w → Advances (mind c) (mind (client_taken c (Receives received now)))
  hear_advances back fits c whole t rest to_worker received now reads old =
      let first : FirstItem old.items received rest = first_item back fits c whole t rest to_worker received reads old in
      let good : Good c.intents worker w.core.sessions (mind c) (first.item ∷ first.later) = subst (λ (is : List Item). Good c.intents worker w.core.sessions (mind c) is) first.split old.good in
      subst (λ (received : Received). Advances (mind c) (mind (client_taken c (Receives received now)))) (sym first.read)
      (subst (Advances (mind c)) (sym (hears_mind c first.item now))
      (advances_item c.intents worker w.core.sessions (mind c) first.item (subst (λ n. All (SessionKeeps n) w.core.sessions) old.number old.keeps) good.0))

  -- the client is asked whether a heartbeat is due
  pub beat_lasts : (c : Client) (whole : Bool) (to_client : List Flight) (to_worker : List (List ℕ)) (now : ℕ) → Holds text c worker conn whole to_client to_worker w
      → Holds text (client_taken c (IsAsked now)) worker conn whole to_client (to_worker ++ (if whole then sent_texts (acts c (IsAsked now)) else [])) w
  beat_lasts c whole to_client to_worker now old = record {
    number = old.number;
    items = old.items;
    are = old.are;
    good = as_now (λ n m. Good n worker w.core.sessions m old.items) old.good;
    knows = as_now (λ n m. Knows n worker w.core.sessions m) old.knows;
    own = own_join worker w.core.sessions to_worker (if whole then sent_texts (acts c (IsAsked now)) else []) old.own (beats_own worker w.core.sessions _ (beats whole));
    keeps = old.keeps;
    stage = λ k here on. as_now (λ n m. Stage n worker m k w.core.sessions old.items (to_worker ++ (if whole then sent_texts (acts c (IsAsked now)) else []))) (beaten_stage k (old.stage k here on));
  }
    where
      as_now : (P : ℕ → Mind → Type 0) → P c.intents (mind c) → P (client_taken c (IsAsked now)).intents (mind (client_taken c (IsAsked now)))
      as_now P here = subst (λ n. P n (mind (client_taken c (IsAsked now)))) (sym (same_intents c (IsAsked now))) (subst (P c.intents) (sym (asks_mind c now)) here)

      beats : (b : Bool) → AreBeats (if b then sent_texts (acts c (IsAsked now)) else [])
      beats true = beat_texts c now
      beats false = tt

      beaten_stage : (k : ℕ) → Stage c.intents worker (mind c) k w.core.sessions old.items to_worker → Stage c.intents worker (mind c) k w.core.sessions old.items (to_worker ++ (if whole then sent_texts (acts c (IsAsked now)) else []))
      beaten_stage k stage = elim stage [
        | inl off ↦ inl (
          off.0,
          elim off.1 [
            | inl waits ↦ inl (record { prompt = waits.prompt; which = waits.which; front = waits.front; back = waits.back; split = waits.split; before = waits.before; later = waits.later; beats = beats_join to_worker _ waits.beats (beats whole) })
            | inr asks ↦ inr (record {
              still = asks.still;
              frame = asks.frame;
              first = asks.first;
              front = asks.front;
              back = asks.back ++ (if whole then sent_texts (acts c (IsAsked now)) else []);
              split = ap (λ ts. ts ++ (if whole then sent_texts (acts c (IsAsked now)) else [])) asks.split ∙ append_assoc asks.front (_ ∷ asks.back) _;
              before = asks.before;
              later = beats_join asks.back _ asks.later (beats whole);
            })
          ],
        )
        | inr has ↦ inr (record { ends = has.ends; late = has.late; beats = beats_join to_worker _ has.beats (beats whole) })
      ]

  -- the client learns that its connection has ended
  pub learn_lasts : (c : Client) (whole : Bool) (to_client : List Flight) (to_worker : List (List ℕ)) (code : Option ℕ) → Holds text c worker conn whole to_client to_worker w
      → Holds text (client_taken c (LosesLink code)) worker conn false [] to_worker w
  learn_lasts c whole to_client to_worker code old = record {
    number = old.number;
    items = [];
    are = refl;
    good = tt;
    knows = subst (λ n. Knows n worker w.core.sessions (mind (client_taken c (LosesLink code)))) (sym (same_intents c (LosesLink code))) (elim (loses_mind c code) [
      | inl same ↦ subst (λ (m : Mind). Knows c.intents worker w.core.sessions m) (sym same) old.knows
      | inr none ↦ subst (λ (m : Mind). Knows c.intents worker w.core.sessions m) (sym none) (λ s is. absurd (cc is))
    ]);
    own = old.own;
    keeps = old.keeps;
    stage = λ k here on. absurd (true≢false (sym on));
  }

  -- the link is cut
  own_taken : (n : ℕ) (texts : List (List ℕ)) → AreOwn worker w.core.sessions texts → AreOwn worker w.core.sessions (take n texts)
  own_taken zero texts own = tt
  own_taken (suc n) [] own = tt
  own_taken (suc n) (t ∷ texts) own = (own.0, own_taken n texts own.1)

  pub cut_lasts : (c : Client) (whole : Bool) (to_client : List Flight) (to_worker : List (List ℕ)) (m n : ℕ) → Holds text c worker conn whole to_client to_worker w
      → Holds text c worker conn false (take m to_client) (take n to_worker) w
  cut_lasts c whole to_client to_worker m n old = record {
    number = old.number;
    items = take m old.items;
    are = ap (take m) old.are ∙ take-map (flown text) m old.items;
    good = good_take c.intents worker w.core.sessions (mind c) m old.items old.good;
    knows = old.knows;
    own = own_taken n to_worker old.own;
    keeps = old.keeps;
    stage = λ k here on. absurd (true≢false (sym on));
  }
