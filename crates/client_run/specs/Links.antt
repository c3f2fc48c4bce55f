-- What the links gave and were sent, by what the client was told and what was done for it.
use Rattle.std.specs.Prelude.{◌≡◌, ℕ, ◌<◌, List, [], ◌∷◌, ◌++◌, Bool, true, false, Option, Some, None}
use Rattle.gate_outside.specs.declared.sending.Sending.{Sending}
use Rattle.gate_outside.specs.declared.sending.Sending.TheVariants as sending
use Rattle.gate_outside.specs.Links.{ReturnedLink}
use Rattle.open_links.specs.Links.{IsIfTold, IsFrontIfTold, with_more}
use Rattle.client_session.specs.Received.{IsTextOf}
use Rattle.client_session.specs.Step.{Event, Receives, Loses, Asks}
use Rattle.client_run.specs.Histories.{Told, End, Left, Dropped, Finished, Stopped, Unread, Cut, Visit, Missed, Opened, events, are_turns, given, lost_last}

-- what a link gave for an event: a text of the payload, or the code
abbrev pub IsHeard : Event → List Sending → Type 0
IsHeard (Receives payload now) xs = (text : List ℕ) × ((xs ≡ sending.Text text ∷ []) × IsTextOf text payload)
IsHeard (Loses (Some code)) xs = xs ≡ sending.Close code ∷ []
IsHeard (Loses None) xs = xs ≡ []
IsHeard (Asks now) xs = xs ≡ []

-- and for events, in order
abbrev pub AreHeard : List Event → List Sending → Type 0
AreHeard [] xs = xs ≡ []
AreHeard (e ∷ es) xs =
    (first : List Sending) × ((later : List Sending) × ((xs ≡ first ++ later) × (IsHeard e first × AreHeard es later)))

-- a link that tells gave what these events were, and then what is left
abbrev pub Gave : List Event → List Sending → Option (List Sending) → Type 0
Gave es left None = Unit {0}
Gave es left (Some xs) = (heard : List Sending) × ((xs ≡ heard ++ left) × AreHeard es heard)

-- what it gave that the client was not told
abbrev pub untold : End → List Sending
untold Left = []
untold Dropped = []
untold Finished = []
untold Stopped = []
untold (Unread text) = sending.Text text ∷ []
untold (Cut None) = []
untold (Cut (Some text)) = sending.Text text ∷ []

-- what it was sent by how it ended
abbrev pub sent_last : End → List Sending
sent_last Left = []
sent_last Dropped = []
sent_last Finished = sending.Close 1000 ∷ []
sent_last Stopped = []
sent_last (Unread text) = []
sent_last (Cut text) = []

abbrev pub is_cut : End → Bool
is_cut Left = false
is_cut Dropped = false
is_cut Finished = false
is_cut Stopped = false
is_cut (Unread text) = false
is_cut (Cut text) = true

-- a link that came back: the client was told in turns what it gave, and it was sent what the client
-- said, or a front of that if it failed or memory ran out. The client is told that it lost a connection
-- only if its link failed, gave a code, or was dropped
pub record MeetsReturned (ts : List Told) (end : End) (r : ReturnedLink) : Type 0 where
  pub turns : are_turns false (events ts) ≡ true
  pub gave : Gave (events ts) (untold end) r.gave
  pub front : IsFrontIfTold (given ts ++ sent_last end) r.sent
  pub failed : end ≡ Left → lost_last ts ≡ true → 0 < r.faults
  pub whole : r.faults ≡ 0 → is_cut end ≡ false → IsIfTold (given ts ++ sent_last end) r.sent

-- each connection has one link that came back, in order
abbrev pub AllMeet : List Visit → List ReturnedLink → Type 0
AllMeet [] links = links ≡ []
AllMeet (Missed url ∷ vs) links = AllMeet vs links
AllMeet (Opened url ts end ∷ vs) links =
    (first : ReturnedLink) × ((later : List ReturnedLink)
    × ((links ≡ first ∷ later) × (MeetsReturned ts end first × AllMeet vs later)))

abbrev pub HaveComeBack : List Visit → Option (List ReturnedLink) → Option (List ReturnedLink) → Type 0
HaveComeBack vs before now = (links : List ReturnedLink) × ((now ≡ with_more before links) × AllMeet vs links)
