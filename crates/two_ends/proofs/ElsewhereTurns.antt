-- What a turn of a worker gives out for a connection: closes, or dispatches of its session.
use Rattle.std.proofs.Common.{◌≡◌, ℕ, ◌+◌, List, [], ◌∷◌, ◌++◌, true, false, length, map, refl, sym, ap, subst, ◌∙◌, ◌⊎◌, inl, inr}
use Rattle.std.specs.Prelude.{◌==◌, All}
use Rattle.std.proofs.lemmas.Bool.{true≢false}
use Rattle.std.proofs.lemmas.List.{length-map}
use Rattle.dispatch_types.specs.declared.dispatch.Dispatch.{Dispatch}
use Rattle.session_core.specs.State.{Session, Condition, Attached, Detached, Ended, is_on}
use Rattle.world_law.specs.Outputs.{sends}
use Rattle.world_law.specs.Sent.{Sent, dispatch_of, dispatches}
use Rattle.world_law.specs.Sends.{AreOff}
use Rattle.world_law.proofs.Lists.{all_at, append_none, map_join}
use Rattle.two_ends.specs.Flights.{Flight, Text, Close, flights}
use Rattle.two_ends.proofs.Among.{IsAmong, off_among, among_here, among_part}
use Rattle.two_ends.proofs.Minds.{Item, Shut, flown, all_flown, told_items, Mind, all_minded, Grows, Grown, SessionKeeps, At, AtEnds, Good}
use Rattle.two_ends.proofs.Steps.{flown_told, good_grown, good_join, minded_join, told_good, at_grown}
use Rattle.two_ends.proofs.ElsewhereStays.{on_is, off_stays, IsPlain, none_if}
use Rattle.two_ends.proofs.Stages.{still_good, told_later, shut_still, shut_flown, AreStill, AreLater, still_later, later_join, all_still_minded}

-- a connection that no session has, and nothing but closes on its way to it
pub record IsShut (conn : ℕ) (xs : List (Session Sent)) (fs : List Flight) : Type 0 where
  pub off : AreOff conn xs
  pub codes : List ℕ
  pub shut : fs ≡ map Close codes

-- what is on its way may come to the client, which then holds each session on the connection whole
pub record Reaches (text : ℕ → Dispatch → List ℕ) (intents worker conn : ℕ) (m : Mind) (xs : List (Session Sent)) (fs : List Flight) : Type 0 where
  pub items : List Item
  pub are : fs ≡ all_flown text items
  pub good : Good intents worker xs m items
  pub ends : AtEnds intents worker conn (all_minded m items) xs
  pub late : AreLater items

module _ (text : ℕ → Dispatch → List ℕ) (conn : ℕ) where
  pub sends_off : (condition : Condition) (n : ℕ) (ds : List Dispatch) → is_on conn condition ≡ false → flights conn (sends text condition n ds) ≡ []
  sends_off (Attached c) n [] off = refl
  sends_off (Attached c) n (d ∷ ds) off = none_if (c == conn) (Text (text (n + 1) d)) (flights conn (sends text (Attached c) (n + 1) ds)) off ∙ sends_off (Attached c) (n + 1) ds off
  sends_off (Detached since) n ds off = refl
  sends_off Ended n ds off = refl

  pub sends_on : (x : Session Sent) (ds : List Dispatch) → is_on conn x.condition ≡ true → flights conn (sends text x.condition (length x.sent.told) ds) ≡ all_flown text (told_items (length (dispatches x.sent)) ds)
  sends_on x ds on =
      ap (λ (condition : Condition). flights conn (sends text condition (length x.sent.told) ds)) (on_is conn x.condition on)
      ∙ (ap (λ (n : ℕ). flights conn (sends text (Attached conn) n ds)) (sym (length-map x.sent.told dispatch_of)) ∙ flown_told text (length (dispatches x.sent)) ds conn)

  -- dispatches of its session, which alone is on it
  pub record IsTold (xs ys : List (Session Sent)) (fs : List Flight) : Type 0 where
    pub session : Session Sent
    pub among : IsAmong session xs
    pub on : is_on conn session.condition ≡ true
    pub next : Session Sent
    pub front : List (Session Sent)
    pub back : List (Session Sent)
    pub after : ys ≡ front ++ next ∷ back
    pub front_off : AreOff conn front
    pub back_off : AreOff conn back
    pub grows : Grows session next
    pub told : fs ≡ all_flown text (told_items (length (dispatches session.sent)) grows.more)

  abbrev pub Turn : List (Session Sent) → List (Session Sent) → List Flight → Type 0
  Turn xs ys fs = IsPlain conn xs ys fs ⊎ IsTold xs ys fs

  -- ---- a connection without a session

  pub plain_off : (xs ys : List (Session Sent)) (fs : List Flight) → IsPlain conn xs ys fs → AreOff conn xs → IsShut conn ys fs
  plain_off xs ys fs plain off = record { off = off_stays conn xs ys off plain.stays; codes = plain.codes; shut = plain.shut }

  pub turn_off : (xs ys : List (Session Sent)) (fs : List Flight) → Turn xs ys fs → AreOff conn xs → IsShut conn ys fs
  turn_off xs ys fs (inl plain) off = plain_off xs ys fs plain off
  turn_off xs ys fs (inr told) off = absurd (true≢false (sym told.on ∙ off_among conn told.session xs off told.among))

  -- ---- a client that holds the session whole

  module _ (intents worker : ℕ) (m : Mind) where
    pub plain_reaches : (xs ys : List (Session Sent)) (fs : List Flight) → IsPlain conn xs ys fs → AtEnds intents worker conn m xs → Reaches text intents worker conn m ys fs
    plain_reaches xs ys fs plain ends =
        let held : AtEnds intents worker conn m ys = λ y among on. ends y (plain.stays y among on) on in
        let still : AreStill (map Shut plain.codes) = shut_still plain.codes in
        record {
          items = map Shut plain.codes;
          are = plain.shut ∙ shut_flown text plain.codes;
          good = still_good intents worker ys m (map Shut plain.codes) still;
          ends = subst (λ (n : Mind). AtEnds intents worker conn n ys) (sym (all_still_minded m (map Shut plain.codes) still)) held;
          late = still_later (map Shut plain.codes) still;
        }

    told_reaches : (xs ys : List (Session Sent)) (fs : List Flight) → IsTold xs ys fs → All (SessionKeeps worker) ys → AtEnds intents worker conn m xs → Reaches text intents worker conn m ys fs
    told_reaches xs ys fs told keeps ends = subst (λ (zs : List (Session Sent)). Reaches text intents worker conn m zs fs) (sym told.after) reaches
      where
        y : Session Sent
        y = told.next

        held : List Dispatch
        held = dispatches told.session.sent

        more : List Dispatch
        more = told.grows.more

        zs : List (Session Sent)
        zs = told.front ++ y ∷ told.back

        own : SessionKeeps worker y
        own = all_at (SessionKeeps worker) told.front y told.back (subst (λ (zs : List (Session Sent)). All (SessionKeeps worker) zs) told.after keeps)

        all : Good intents worker zs m (told_items (length held) more) × At intents worker (all_minded m (told_items (length held) more)) y (held ++ more)
        all = told_good intents worker zs y held more [] (among_here y told.front told.back) (told.grows.dispatches ∙ ap (λ ds. held ++ ds) (sym (append_none more))) own m
            (at_grown intents worker m told.session y held told.grows (ends told.session told.among told.on))

        whole : At intents worker (all_minded m (told_items (length held) more)) y (dispatches y.sent)
        whole = subst (λ (ds : List Dispatch). At intents worker (all_minded m (told_items (length held) more)) y ds) (sym told.grows.dispatches) all.1

        only : AtEnds intents worker conn (all_minded m (told_items (length held) more)) zs
        only = λ z among on. elim (among_part z told.front (y ∷ told.back) among) [
          | inl here ↦ absurd (true≢false (sym on ∙ off_among conn z told.front told.front_off here))
          | inr there ↦ elim there [
            | inl same ↦ subst (λ (x : Session Sent). At intents worker (all_minded m (told_items (length held) more)) x (dispatches x.sent)) (sym same) whole
            | inr later ↦ absurd (true≢false (sym on ∙ off_among conn z told.back told.back_off later))
          ]
        ]

        reaches : Reaches text intents worker conn m zs fs
        reaches = record { items = told_items (length held) more; are = told.told; good = all.0; ends = only; late = told_later (length held) more }

    pub turn_reaches : (xs ys : List (Session Sent)) (fs : List Flight) → Turn xs ys fs → All (SessionKeeps worker) ys → AtEnds intents worker conn m xs → Reaches text intents worker conn m ys fs
    turn_reaches xs ys fs (inl plain) keeps ends = plain_reaches xs ys fs plain ends
    turn_reaches xs ys fs (inr told) keeps ends = told_reaches xs ys fs told keeps ends

    pub reaches_join : (xs ys : List (Session Sent)) (fs gs : List Flight) → Grown xs ys → (first : Reaches text intents worker conn m xs fs) → Reaches text intents worker conn (all_minded m first.items) ys gs
        → Reaches text intents worker conn m ys (fs ++ gs)
    reaches_join xs ys fs gs grown first rest = record {
      items = first.items ++ rest.items;
      are = ap (λ hs. hs ++ gs) first.are ∙ (ap (λ hs. all_flown text first.items ++ hs) rest.are ∙ sym (map_join (flown text) first.items rest.items));
      good = good_join intents worker ys m first.items rest.items (good_grown intents worker xs ys grown m first.items first.good) rest.good;
      ends = subst (λ (n : Mind). AtEnds intents worker conn n ys) (sym (minded_join m first.items rest.items)) rest.ends;
      late = later_join first.items rest.items first.late rest.late;
    }
