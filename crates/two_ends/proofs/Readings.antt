-- What a client reads of the texts that a worker writes.
use Rattle.std.proofs.Common.{◌≡◌, ℕ, ◌<◌, ◌^◌, List, Some, Result, Ok, Err, sym, ap, ◌∙◌}
use Rattle.serde_json.specs.Data.{Data}
use Rattle.dispatch_types.specs.declared.dispatch.Dispatch.{Dispatch}
use Rattle.dispatch_types.specs.declared.dispatch.Dispatch.TheVariants.{Resumed as ResumedDispatch}
use Rattle.json_view.specs.Reading.{reading}
use Rattle.gateway_frames.specs.declared.out.Out.{Out}
use Rattle.gateway_frames.specs.declared.out.Out.TheVariants.{Hello, Ack, Invalid, Reconnect, Resumed}
use Rattle.gateway_frames.specs.Out.{out_data, IsNoDispatch}
use Rattle.event_json.specs.declared.fault.DispatchFault.{DispatchFault}
use Rattle.event_json.specs.Body.{DispatchFits}
use Rattle.event_json.specs.Text.{data_of}
use Rattle.event_json.specs.Read.{candidate}
use Rattle.event_json.proofs.Candidates.{is_candidate}
use Rattle.client_session.specs.declared.received.Received.{Received}
use Rattle.client_session.specs.declared.received.Received.TheVariants as payload
use Rattle.client_session.specs.Received.{IsTextOf}
use Rattle.two_ends.specs.Flights.{ReadsBack, OutFits, said}

-- ---- two dispatches

-- what was found, as a payload
abbrev paid : Result (Dispatch × ℕ) DispatchFault → Received
paid (Ok found) = payload.Dispatch found.0 found.1
paid (Err fault) = payload.Other Ack

one_candidate : (found : Result (Dispatch × ℕ) DispatchFault) (d e : Dispatch) (n m : ℕ) → found ≡ Ok (d, n) → found ≡ Ok (e, m) → payload.Dispatch d n ≡ payload.Dispatch e m
one_candidate found d e n m a b = ap paid (sym a ∙ b)

-- ---- two other payloads

one_other : (a b : Out) → IsNoDispatch a → IsNoDispatch b → out_data a ≡ out_data b → a ≡ b
one_other (Hello i) (Hello j) a b e = cc
one_other (Hello i) Ack a b e = absurd (cc e)
one_other (Hello i) (Invalid q) a b e = absurd (cc e)
one_other (Hello i) Reconnect a b e = absurd (cc e)
one_other (Hello i) (Resumed m) a b e = absurd b
one_other Ack (Hello j) a b e = absurd (cc e)
one_other Ack Ack a b e = cc
one_other Ack (Invalid q) a b e = absurd (cc e)
one_other Ack Reconnect a b e = absurd (cc e)
one_other Ack (Resumed m) a b e = absurd b
one_other (Invalid p) (Hello j) a b e = absurd (cc e)
one_other (Invalid p) Ack a b e = absurd (cc e)
one_other (Invalid p) (Invalid q) a b e = cc
one_other (Invalid p) Reconnect a b e = absurd (cc e)
one_other (Invalid p) (Resumed m) a b e = absurd b
one_other Reconnect (Hello j) a b e = absurd (cc e)
one_other Reconnect Ack a b e = absurd (cc e)
one_other Reconnect (Invalid q) a b e = absurd (cc e)
one_other Reconnect Reconnect a b e = cc
one_other Reconnect (Resumed m) a b e = absurd b
one_other (Resumed n) b plain other e = absurd plain

-- ---- one of each: a dispatch has the opcode 0

no_other : (d : Dispatch) (n : ℕ) (out : Out) → IsNoDispatch out → data_of d n ≡ out_data out → ⊥
no_other d n (Hello i) plain e = cc e
no_other d n Ack plain e = cc e
no_other d n (Invalid p) plain e = cc e
no_other d n Reconnect plain e = cc e
no_other d n (Resumed m) plain e = plain

-- two readings of one text
same_reading : (text : List ℕ) (v w : Data) → reading text ≡ Some v → reading text ≡ Some w → v ≡ w
same_reading text v w a b = let both : Some v ≡ Some w = sym a ∙ b in cc

-- a text is that of one payload alone
pub one_payload : (text : List ℕ) (a b : Received) → IsTextOf text a → IsTextOf text b → a ≡ b
one_payload text (payload.Dispatch d n) (payload.Dispatch e m) a b =
    one_candidate (candidate (data_of d n)) d e n m (is_candidate text (data_of d n) d n a.2 a) (is_candidate text (data_of d n) e m a.2 b)
one_payload text (payload.Dispatch d n) (payload.Other out) a b = absurd (no_other d n out b.0 (same_reading text (data_of d n) (out_data out) a.2 b.1))
one_payload text (payload.Other out) (payload.Dispatch d n) a b = absurd (no_other d n out a.0 (same_reading text (data_of d n) (out_data out) b.2 a.1))
one_payload text (payload.Other out) (payload.Other other) a b =
    ap payload.Other (one_other out other a.0 b.0 (same_reading text (out_data out) (out_data other) a.1 b.1))

-- ---- what a worker writes

module _ (text : ℕ → Dispatch → List ℕ) (back : ReadsBack text) where
  pub told_read : (n : ℕ) (d : Dispatch) (received : Received) → DispatchFits d → n < 2 ^ 64 → IsTextOf (text n d) received → received ≡ payload.Dispatch d n
  told_read n d received fits small is = one_payload (text n d) received (payload.Dispatch d n) is (fits, small, back.dispatches n d fits small)

  pub said_read : (out : Out) (received : Received) → IsNoDispatch out → OutFits out → IsTextOf (said out) received → received ≡ payload.Other out
  said_read out received plain fits is = one_payload (said out) received (payload.Other out) is (plain, back.others out fits)

  -- RESUMED is read as a dispatch
  pub resumed_read : (n : ℕ) (received : Received) → n < 2 ^ 64 → IsTextOf (said (Resumed n)) received → received ≡ payload.Dispatch ResumedDispatch n
  resumed_read n received small is = one_payload (said (Resumed n)) received (payload.Dispatch ResumedDispatch n) is (tt, small, back.others (Resumed n) small)
