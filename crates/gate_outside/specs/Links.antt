-- What links tell, and what their calls make of it.
use Rattle.std.specs.Prelude.{◌≡◌, ℕ, List, [], ◌∷◌, Bool, true, false, Result, Ok, Err, ⊤, OnErr}
use Rattle.std.specs.declared.option.Option.{Option}
use Rattle.std.specs.declared.option.Option.TheVariants.{Some, None}
use Rattle.gate_outside.specs.declared.faults.Fault.{Fault}
use Rattle.gate_outside.specs.declared.incoming.Incoming.{Incoming}
use Rattle.gate_outside.specs.declared.incoming.Incoming.TheVariants as incoming
use Rattle.gate_outside.specs.declared.sending.Sending.{Sending}
use Rattle.gate_outside.specs.declared.sending.Sending.TheVariants as sending
use Rattle.gate_outside.specs.Told.{GrowsBy, GrowsByAny, IsEmptyIfTold}

-- what a link tells
pub record LinkTale : Type 0 where
  -- the code with which this end closed it
  pub own_code : Option ℕ
  -- whether it has given a text
  pub gave_text : Bool
  -- what waits to be given, the first first, where it tells
  pub waits : Option (List Sending)
  -- the texts and close codes that came from the other end and that it gave, where it tells
  pub gave : Option (List Sending)
  -- the texts that it was sent, and the code of its own close, where it tells
  pub sent : Option (List Sending)

-- what a link tells that could not be opened: nothing comes, nothing goes out, and it is never closed
abbrev pub failed_link : LinkTale
failed_link = record {
  own_code = None;
  gave_text = false;
  waits = None;
  gave = None;
  sent = None;
}

-- a link before its first call
pub record IsNewLink (tale : LinkTale) (faults : ℕ) : Type 0 where
  pub open_yet : tale.own_code ≡ None
  pub no_text : tale.gave_text ≡ false
  pub gave : IsEmptyIfTold tale.gave
  pub sent : IsEmptyIfTold tale.sent
  pub sound : faults ≡ 0

-- the text or the close code that an answer gives
abbrev pub given_by : Result Incoming Fault → Option Sending
given_by (Ok (incoming.Text text)) = Some (sending.Text text)
given_by (Ok (incoming.Closed code)) = Some (sending.Close code)
given_by (Ok incoming.NotYet) = None
given_by (Err fault) = None

-- the same where it came from the other end, which after the link's own close nothing does
abbrev pub came_by : Option ℕ → Result Incoming Fault → Option Sending
came_by (Some own) result = None
came_by None result = given_by result

-- whether a text was given, after what came
abbrev pub gave_text_after : Bool → Option Sending → Bool
gave_text_after before None = before
gave_text_after before (Some (sending.Text text)) = true
gave_text_after before (Some (sending.Close code)) = before

-- what waits first is given, and nothing is given only where nothing waits
abbrev pub GivesFirst : Option (List Sending) → Result Incoming Fault → Type 0
GivesFirst None result = ⊤
GivesFirst (Some waiting) (Err fault) = ⊤
GivesFirst (Some []) (Ok answer) = answer ≡ incoming.NotYet
GivesFirst (Some (x ∷ more)) (Ok answer) = given_by (Ok answer) ≡ Some x

-- after its own close a link gives that code, and else what waits first
abbrev pub Answers : Option ℕ → Option (List Sending) → Result Incoming Fault → Type 0
Answers (Some code) waiting result = result ≡ Ok (incoming.Closed code)
Answers None waiting result = GivesFirst waiting result

-- a call of `recv`
pub record Receives (old new : LinkTale) (result : Result Incoming Fault) : Type 0 where
  pub answer : Answers old.own_code old.waits result
  pub gave : GrowsByAny old.gave new.gave (came_by old.own_code result)
  pub gave_text : new.gave_text ≡ gave_text_after old.gave_text (came_by old.own_code result)
  pub keeps : OnErr result (new.waits ≡ old.waits)
  pub sent : new.sent ≡ old.sent
  pub own_code : new.own_code ≡ old.own_code

-- what goes out is listed; after the link's own close nothing goes out and no call is refused
abbrev pub Lists : Option ℕ → Option (List Sending) → Option (List Sending) → Sending → Result (Unit {0}) Fault → Type 0
Lists (Some own) old new x result = (result ≡ Ok tt) × (new ≡ old)
Lists None old new x (Ok u) = GrowsBy old new x
Lists None old new x (Err fault) = new ≡ old

-- the code of the link's own close, after a close
abbrev pub code_after : Option ℕ → ℕ → Result (Unit {0}) Fault → Option ℕ
code_after (Some own) code result = Some own
code_after None code (Ok u) = Some code
code_after None code (Err fault) = None

-- a call of `send`
pub record Sends (old new : LinkTale) (text : List ℕ) (result : Result (Unit {0}) Fault) : Type 0 where
  pub sent : Lists old.own_code old.sent new.sent (sending.Text text) result
  pub own_code : new.own_code ≡ old.own_code
  pub waits : new.waits ≡ old.waits
  pub gave : new.gave ≡ old.gave
  pub gave_text : new.gave_text ≡ old.gave_text

-- a call of `close`
pub record Closes (old new : LinkTale) (code : ℕ) (result : Result (Unit {0}) Fault) : Type 0 where
  pub sent : Lists old.own_code old.sent new.sent (sending.Close code) result
  pub own_code : new.own_code ≡ code_after old.own_code code result
  pub waits : new.waits ≡ old.waits
  pub gave : new.gave ≡ old.gave
  pub gave_text : new.gave_text ≡ old.gave_text

-- what is told of a link that came back: what it gave, what it was sent, and its count of faults
pub record ReturnedLink : Type 0 where
  pub gave : Option (List Sending)
  pub sent : Option (List Sending)
  pub faults : ℕ

abbrev pub returned_link : LinkTale → ℕ → ReturnedLink
returned_link tale faults = record { gave = tale.gave; sent = tale.sent; faults = faults }
