-- What a client says to each event.
use Rattle.std.proofs.Common.{◌≡◌, ℕ, List, [], ◌∷◌, Bool, true, false, Option, Some, None, refl}
use Rattle.std.specs.Prelude.{◌==◌, if◌then◌else◌, option_to_list, Ok, Err}
use Rattle.std.specs.Result.{result_ok}
use Rattle.gateway_frames.specs.declared.out.Out.{Out}
use Rattle.gateway_frames.specs.declared.out.Out.TheVariants.{Hello, Ack, Invalid, Reconnect, Resumed}
use Rattle.gateway_frames.specs.Out.{IsNoDispatch}
use Rattle.client_cache.specs.Cached.{Cached}
use Rattle.client_session.specs.declared.act.Act.{Act}
use Rattle.client_session.specs.declared.act.Act.TheVariants.{Send, DialFirst}
use Rattle.client_session.specs.declared.fault.ClientFault.TheVariants.{Out as OutFault}
use Rattle.client_session.specs.declared.session.Session.{Session}
use Rattle.client_session.specs.declared.received.Received.TheVariants as payload
use Rattle.client_session.specs.State.{ClientState}
use Rattle.client_session.specs.Table.{dial, is_final, is_due_at, other_acts, frame_text, heartbeat}
use Rattle.client_session.specs.Step.{Event, Receives, Loses, Asks, acts}
use Rattle.client_run.specs.Histories.{dial_in, line_in}
use Rattle.client_run.specs.Turns.{is_orderly, closed_by}

-- nothing is sent after a close, and where the client stays nothing is closed
pub record AreOrderly (done : List Act) : Type 0 where
  pub orderly : is_orderly false done ≡ true
  pub closes : dial_in done ≡ None → closed_by false done ≡ false

one_dial : (session : Option Session) → AreOrderly (dial session ∷ [])
one_dial None = record { orderly = refl; closes = λ e. refl }
one_dial (Some s) = record { orderly = refl; closes = λ e. refl }

leaving : (session : Option Session) → is_orderly true (dial session ∷ []) ≡ true
leaving None = refl
leaving (Some s) = refl

leaves : (session : Option Session) → dial_in (dial session ∷ []) ≡ None → closed_by true (dial session ∷ []) ≡ false
leaves None e = absurd (cc)
leaves (Some s) e = absurd (cc)

orderly_other : (c : ClientState Cached) (out : Out) → AreOrderly (other_acts c out)
orderly_other c (Hello interval_ms) = record { orderly = refl; closes = λ e. refl }
orderly_other c Ack = record { orderly = refl; closes = λ e. refl }
orderly_other c (Invalid true) = record { orderly = refl; closes = λ e. refl }
orderly_other c (Invalid false) = record { orderly = refl; closes = λ e. refl }
orderly_other c Reconnect = record { orderly = leaving c.session; closes = leaves c.session }
orderly_other c (Resumed number) = record { orderly = refl; closes = λ e. refl }

by_code : (final forgets : Bool) (code : ℕ) (session : Option Session) → AreOrderly (option_to_list (result_ok (if final then Err (OutFault code) else (if forgets then Ok DialFirst else Ok (dial session)))))
by_code true forgets code session = record { orderly = refl; closes = λ e. refl }
by_code false true code session = record { orderly = refl; closes = λ e. refl }
by_code false false code session = one_dial session

beaten : (due : Bool) (text : List ℕ) → closed_by false (option_to_list (if due then Some (Send text) else None)) ≡ false
beaten true text = refl
beaten false text = refl

beaten_orderly : (due : Bool) (text : List ℕ) → is_orderly false (option_to_list (if due then Some (Send text) else None)) ≡ true
beaten_orderly true text = refl
beaten_orderly false text = refl

-- a heartbeat closes nothing
pub asks_close : (c : ClientState Cached) (now : ℕ) → closed_by false (acts c (Asks now)) ≡ false
asks_close c now = beaten (is_due_at c.heartbeat now) (frame_text (heartbeat c.session))

pub orderly_acts : (c : ClientState Cached) (event : Event) → AreOrderly (acts c event)
orderly_acts c (Receives (payload.Dispatch dispatch number) now) = record { orderly = refl; closes = λ e. refl }
orderly_acts c (Receives (payload.Other out) now) = orderly_other c out
orderly_acts c (Loses None) = one_dial c.session
orderly_acts c (Loses (Some code)) = by_code (is_final code) (code == 4007) code c.session
orderly_acts c (Asks now) = record { orderly = beaten_orderly (is_due_at c.heartbeat now) (frame_text (heartbeat c.session)); closes = λ e. asks_close c now }

-- a payload that is no dispatch has no line
pub other_line : (out : Out) → IsNoDispatch out → line_in (payload.Other out) ≡ None
other_line (Hello interval_ms) h = refl
other_line Ack h = refl
other_line (Invalid resumable) h = refl
other_line Reconnect h = refl
other_line (Resumed number) h = absurd h
