-- How far a client and its worker are on the client's connection.
use Rattle.std.proofs.Common.{◌≡◌, ℕ, ◌+◌, ◌≤◌, List, [], ◌∷◌, ◌++◌, false, Option, Some, length, map, refl, sym, ap, ◌∙◌, arith, ◌⊎◌}
use Rattle.std.proofs.lemmas.List.{length-append}
use Rattle.dispatch_types.specs.declared.dispatch.Dispatch.{Dispatch}
use Rattle.gateway_frames.specs.declared.out.Out.TheVariants.{Hello, Ack, Invalid, Reconnect, Resumed}
use Rattle.gateway_frames.specs.declared.frame.Frame.{Frame}
use Rattle.gateway_frames.specs.declared.frame.Frame.TheVariants as frame
use Rattle.session_core.specs.State.{Session}
use Rattle.session_core.specs.Resume.{session_id}
use Rattle.client_session.specs.declared.session.Session.{Session as ClientSession}
use Rattle.client_session.specs.Table.{identify, resume, frame_text}
use Rattle.world_law.specs.Sends.{AreOff}
use Rattle.world_law.specs.Sent.{Sent, dispatches}
use Rattle.two_ends.specs.Flights.{Close}
use Rattle.two_ends.proofs.Among.{IsAmong, off_among}
use Rattle.two_ends.proofs.Minds.{Item, Said, Told, Shut, all_flown, told_items, Mind, all_minded, minded, Grows, Grown, AtEnds, Good}
use Rattle.two_ends.proofs.Growing.{grown_among}

-- ---- items

-- nothing that changes what the client has in mind, nor asks it for a frame
abbrev pub IsStill : Item → Type 0
IsStill (Said (Hello interval_ms)) = ⊥
IsStill (Said Ack) = Unit {0}
IsStill (Said (Invalid resumable)) = ⊥
IsStill (Said Reconnect) = ⊥
IsStill (Said (Resumed n)) = ⊥
IsStill (Told n d) = ⊥
IsStill (Shut code) = Unit {0}

abbrev pub AreStill : List Item → Type 0
AreStill [] = Unit {0}
AreStill (i ∷ is) = IsStill i × AreStill is

-- nothing that asks the client for a frame
abbrev pub IsLater : Item → Type 0
IsLater (Said (Hello interval_ms)) = ⊥
IsLater (Said Ack) = Unit {0}
IsLater (Said (Invalid resumable)) = ⊥
IsLater (Said Reconnect) = ⊥
IsLater (Said (Resumed n)) = Unit {0}
IsLater (Told n d) = Unit {0}
IsLater (Shut code) = Unit {0}

abbrev pub AreLater : List Item → Type 0
AreLater [] = Unit {0}
AreLater (i ∷ is) = IsLater i × AreLater is

pub still_join : (is js : List Item) → AreStill is → AreStill js → AreStill (is ++ js)
still_join [] js first later = later
still_join (i ∷ is) js first later = (first.0, still_join is js first.1 later)

pub later_join : (is js : List Item) → AreLater is → AreLater js → AreLater (is ++ js)
later_join [] js first later = later
later_join (i ∷ is) js first later = (first.0, later_join is js first.1 later)

still_is_later : (i : Item) → IsStill i → IsLater i
still_is_later (Said (Hello interval_ms)) still = still
still_is_later (Said Ack) still = tt
still_is_later (Said (Invalid resumable)) still = still
still_is_later (Said Reconnect) still = still
still_is_later (Said (Resumed n)) still = absurd still
still_is_later (Told n d) still = absurd still
still_is_later (Shut code) still = tt

pub still_later : (is : List Item) → AreStill is → AreLater is
still_later [] still = tt
still_later (i ∷ is) still = (still_is_later i still.0, still_later is still.1)

pub still_minded : (m : Mind) (i : Item) → IsStill i → minded m i ≡ m
still_minded m (Said (Hello interval_ms)) still = absurd still
still_minded m (Said Ack) still = refl
still_minded m (Said (Invalid resumable)) still = absurd still
still_minded m (Said Reconnect) still = absurd still
still_minded m (Said (Resumed n)) still = absurd still
still_minded m (Told n d) still = absurd still
still_minded m (Shut code) still = refl

pub all_still_minded : (m : Mind) (is : List Item) → AreStill is → all_minded m is ≡ m
all_still_minded m [] still = refl
all_still_minded m (i ∷ is) still = ap (λ n. all_minded n is) (still_minded m i still.0) ∙ all_still_minded m is still.1

-- these are good, whatever the sessions are
pub still_good : (intents worker : ℕ) (xs : List (Session Sent)) (m : Mind) (is : List Item) → AreStill is → Good intents worker xs m is
still_good intents worker xs m [] still = tt
still_good intents worker xs m (Said (Hello interval_ms) ∷ is) still = absurd still.0
still_good intents worker xs m (Said Ack ∷ is) still = (tt, still_good intents worker xs m is still.1)
still_good intents worker xs m (Said (Invalid resumable) ∷ is) still = absurd still.0
still_good intents worker xs m (Said Reconnect ∷ is) still = absurd still.0
still_good intents worker xs m (Said (Resumed n) ∷ is) still = absurd still.0
still_good intents worker xs m (Told n d ∷ is) still = absurd still.0
still_good intents worker xs m (Shut code ∷ is) still = (tt, still_good intents worker xs m is still.1)

-- dispatches are later, and closes still

pub told_later : (n : ℕ) (ds : List Dispatch) → AreLater (told_items n ds)
told_later n [] = tt
told_later n (d ∷ ds) = (tt, told_later (n + 1) ds)

pub shut_still : (codes : List ℕ) → AreStill (map Shut codes)
shut_still [] = tt
shut_still (code ∷ codes) = (tt, shut_still codes)

pub shut_flown : (text : ℕ → Dispatch → List ℕ) (codes : List ℕ) → map Close codes ≡ all_flown text (map Shut codes)
shut_flown text [] = refl
shut_flown text (code ∷ codes) = ap (λ fs. Close code ∷ fs) (shut_flown text codes)

-- ---- frames

abbrev pub IsBeat : List ℕ → Type 0
IsBeat text = (number : Option ℕ) × (text ≡ frame_text (frame.Heartbeat number))

abbrev pub AreBeats : List (List ℕ) → Type 0
AreBeats [] = Unit {0}
AreBeats (text ∷ texts) = IsBeat text × AreBeats texts

pub beats_join : (texts more : List (List ℕ)) → AreBeats texts → AreBeats more → AreBeats (texts ++ more)
beats_join [] more first later = later
beats_join (t ∷ texts) more first later = (first.0, beats_join texts more first.1 later)

-- what a client may have sent: a resume of a session names none of its dispatches that was not made
abbrev pub MaySay : ℕ → List (Session Sent) → Frame → Type 0
MaySay worker xs (frame.Heartbeat number) = Unit {0}
MaySay worker xs (frame.Identify i) = Unit {0}
MaySay worker xs (frame.Presence status) = ⊥
MaySay worker xs (frame.Voice ask) = ⊥
MaySay worker xs (frame.Resume r) = (x : Session Sent) × (IsAmong x xs × ((r.session ≡ session_id worker x.number) × (r.seq ≤ length (dispatches x.sent))))
MaySay worker xs (frame.Ask ask) = ⊥

abbrev pub IsOwn : ℕ → List (Session Sent) → List ℕ → Type 0
IsOwn worker xs text = (f : Frame) × ((text ≡ frame_text f) × MaySay worker xs f)

abbrev pub AreOwn : ℕ → List (Session Sent) → List (List ℕ) → Type 0
AreOwn worker xs [] = Unit {0}
AreOwn worker xs (text ∷ texts) = IsOwn worker xs text × AreOwn worker xs texts

pub own_join : (worker : ℕ) (xs : List (Session Sent)) (texts more : List (List ℕ)) → AreOwn worker xs texts → AreOwn worker xs more → AreOwn worker xs (texts ++ more)
own_join worker xs [] more first later = later
own_join worker xs (t ∷ texts) more first later = (first.0, own_join worker xs texts more first.1 later)

module _ (worker : ℕ) (xs ys : List (Session Sent)) (grown : Grown xs ys) where
  say_grown : (f : Frame) → MaySay worker xs f → MaySay worker ys f
  say_grown (frame.Heartbeat number) may = tt
  say_grown (frame.Identify i) may = tt
  say_grown (frame.Presence status) may = may
  say_grown (frame.Voice ask) may = may
  say_grown (frame.Resume r) may =
      let grew = grown_among may.0 xs ys grown may.1.0 in
      (grew.0, (grew.1.0, (may.1.1.0 ∙ ap (session_id worker) (sym grew.1.1.number), no_fewer may.0 grew.0 grew.1.1 may.1.1.1)))
    where
      no_fewer : (x y : Session Sent) → Grows x y → r.seq ≤ length (dispatches x.sent) → r.seq ≤ length (dispatches y.sent)
      no_fewer x y grows le = omega (arith, le, ap length grows.dispatches, length-append (dispatches x.sent) grows.more)
  say_grown (frame.Ask ask) may = may

  pub own_grown : (texts : List (List ℕ)) → AreOwn worker xs texts → AreOwn worker ys texts
  own_grown [] own = tt
  own_grown (t ∷ texts) own = ((own.0.0, (own.0.1.0, say_grown own.0.0 own.0.1.1)), own_grown texts own.1)

-- ---- stages

-- the first frame of a client on a connection
abbrev pub IsFirst : ℕ → Mind → Frame → Type 0
IsFirst intents m f =
    ((token : List ℕ) × (f ≡ identify token intents))
    ⊎ ((token : List ℕ) × ((s : ClientSession) × ((m.session ≡ Some s) × (f ≡ resume token s))))

-- Hello, or that the session cannot be resumed, is on its way to the client, which then sends a first frame
pub record Prompts (is : List Item) (texts : List (List ℕ)) : Type 0 where
  pub prompt : Item
  pub which : (prompt ≡ Said (Hello 41250)) ⊎ (prompt ≡ Said (Invalid false))
  pub front : List Item
  pub back : List Item
  pub split : is ≡ front ++ prompt ∷ back
  pub before : AreStill front
  pub later : AreStill back
  pub beats : AreBeats texts

-- the first frame is on its way to the worker
pub record Asks (intents : ℕ) (m : Mind) (is : List Item) (texts : List (List ℕ)) : Type 0 where
  pub still : AreStill is
  pub frame : Frame
  pub first : IsFirst intents m frame
  pub front : List (List ℕ)
  pub back : List (List ℕ)
  pub split : texts ≡ front ++ frame_text frame ∷ back
  pub before : AreBeats front
  pub later : AreBeats back

-- the connection's session, if it has one, is held whole once all that is on its way was received
pub record Has (intents worker : ℕ) (m : Mind) (conn : ℕ) (xs : List (Session Sent)) (is : List Item) (texts : List (List ℕ)) : Type 0 where
  pub ends : AtEnds intents worker conn (all_minded m is) xs
  pub late : AreLater is
  pub beats : AreBeats texts

-- in the first two no session is on the connection
abbrev pub Stage : (intents worker : ℕ) → Mind → ℕ → List (Session Sent) → List Item → List (List ℕ) → Type 0
Stage intents worker m conn xs is texts = (AreOff conn xs × (Prompts is texts ⊎ Asks intents m is texts)) ⊎ Has intents worker m conn xs is texts

pub off_ends : (intents worker conn : ℕ) (m : Mind) (xs : List (Session Sent)) → AreOff conn xs → AtEnds intents worker conn m xs
off_ends intents worker conn m xs off x among on = absurd (cc (on, off_among conn x xs off among))
