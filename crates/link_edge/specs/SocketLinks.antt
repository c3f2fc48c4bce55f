-- Links of WebSocket over TCP. Contracts see how far a link has come, and no texts.
use Rattle.std.specs.Prelude.{◌≡◌, ◌<◌, ℕ, Bool, true, false, Result, Ok, Err}
use Rattle.std.specs.declared.option.Option.{Option}
use Rattle.std.specs.declared.option.Option.TheVariants.{Some, None}
use Rattle.gate_outside.specs.declared.faults.Fault.{Fault}
use Rattle.gate_outside.specs.declared.faults.Fault.TheVariants.{Failed, Memory}
use Rattle.gate_outside.specs.declared.incoming.Incoming.{Incoming}
use Rattle.gate_outside.specs.declared.incoming.Incoming.TheVariants as incoming
use Rattle.gate_outside.specs.Causes.{one_more}
use Rattle.gate_outside.specs.Links.{LinkTale}

-- the code with which this end closed it, whether it has given a text, and how often it has failed
pub record SocketLinkState : Type 0 where
  pub own_code : Option ℕ
  pub gave_text : Bool
  pub faults : ℕ

-- a link before its first call
abbrev pub new_socket_link : SocketLinkState
new_socket_link = record { own_code = None; gave_text = false; faults = 0 }

-- what a link tells
abbrev pub tale_of : SocketLinkState → LinkTale
tale_of l = record {
  own_code = l.own_code;
  gave_text = l.gave_text;
  waits = None;
  gave = None;
  sent = None;
}

-- one more fault
abbrev pub with_fault : SocketLinkState → SocketLinkState
with_fault l = record l { faults = one_more l.faults }

-- after an answer of `recv`, if this end has not closed the link
abbrev pub after_recv : SocketLinkState → Result Incoming Fault → SocketLinkState
after_recv l (Ok (incoming.Text text)) = record l { gave_text = true }
after_recv l (Ok (incoming.Closed code)) = l
after_recv l (Ok incoming.NotYet) = l
after_recv l (Err Failed) = with_fault l
after_recv l (Err Memory) = l

-- the same of `send`
abbrev pub after_send : SocketLinkState → Result (Unit {0}) Fault → SocketLinkState
after_send l (Ok u) = l
after_send l (Err Failed) = with_fault l
after_send l (Err Memory) = l

-- the same of `close` with this code
abbrev pub after_close : SocketLinkState → ℕ → Result (Unit {0}) Fault → SocketLinkState
after_close l code (Ok u) = record l { own_code = Some code }
after_close l code (Err Failed) = with_fault l
after_close l code (Err Memory) = l

-- a call that gives this state; after its own close a link gives this answer and stays as it is, and once it has
-- failed each call fails
abbrev pub CallsBy : {T : Type 0} → Option ℕ → (ℕ → T) → SocketLinkState → SocketLinkState → Result T Fault → SocketLinkState → Type 0
CallsBy (Some own) closed old new result after = (result ≡ Ok (closed own)) × (new ≡ old)
CallsBy None closed old new result after = (new ≡ after) × (0 < old.faults → result ≡ Err Failed)

-- a call of `recv`
abbrev pub Hears : SocketLinkState → SocketLinkState → Result Incoming Fault → Type 0
Hears old new result = CallsBy old.own_code incoming.Closed old new result (after_recv old result)

-- a call of `send`
abbrev pub Says : SocketLinkState → SocketLinkState → Result (Unit {0}) Fault → Type 0
Says old new result = CallsBy old.own_code (λ own. tt) old new result (after_send old result)

-- a call of `close`
abbrev pub Shuts : SocketLinkState → SocketLinkState → ℕ → Result (Unit {0}) Fault → Type 0
Shuts old new code result = CallsBy old.own_code (λ own. tt) old new result (after_close old code result)
