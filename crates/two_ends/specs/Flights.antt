-- What is on its way between a client and its worker (Gateway, Payload Structure).
use Rattle.std.specs.Prelude.{◌≡◌, ℕ, ◌<◌, ◌^◌, ◌==◌, List, [], ◌∷◌, flat_map, if◌then◌else◌, Some, length, All, Ok}
use Rattle.serde_json.specs.Written.{compact_text}
use Rattle.json_view.specs.Reading.{reading}
use Rattle.object_json.specs.Fits.{IsWhole}
use Rattle.dispatch_types.specs.declared.dispatch.Dispatch.{Dispatch}
use Rattle.event_json.specs.Body.{DispatchFits}
use Rattle.event_json.specs.Text.{data_of}
use Rattle.gateway_frames.specs.declared.out.Out.{Out}
use Rattle.gateway_frames.specs.declared.out.Out.TheVariants.{Hello, Ack, Invalid, Reconnect, Resumed}
use Rattle.gateway_frames.specs.Out.{out_data}
use Rattle.gateway_frames.specs.declared.frame.Frame.{Frame}
use Rattle.gateway_frames.specs.Read.{frame_of}
use Rattle.gateway_frames.specs.Written.{MaySend}
use Rattle.client_session.specs.declared.act.Act.{Act}
use Rattle.client_session.specs.declared.act.Act.TheVariants.{Send, Hang, DialFirst, DialResume}
use Rattle.client_session.specs.Table.{frame_text}
use Rattle.session_core.specs.State.{Session}
use Rattle.world_law.specs.Outputs.{Output, Says, Sends, Closes, Wishes}
use Rattle.world_law.specs.Sent.{Sent, dispatches}
use Rattle.world_law.specs.Model.{Worker}

-- on its way to the client: a text, or the code of a close
pub data Flight : Type 0 where
  Text : (text : List ℕ) → Flight
  Close : (code : ℕ) → Flight

-- the text of a payload that is no dispatch of a session
abbrev pub said : Out → List ℕ
said out = compact_text (out_data out)

-- what a worker's output puts on its way to a connection
abbrev pub flight : ℕ → Output → List Flight
flight conn (Says c out) = if c == conn then Text (said out) ∷ [] else []
flight conn (Sends c text) = if c == conn then Text text ∷ [] else []
flight conn (Closes c code) = if c == conn then Close code ∷ [] else []
flight conn (Wishes g e) = []

abbrev pub flights : ℕ → List Output → List Flight
flights conn outputs = flat_map (flight conn) outputs

-- the texts that a client sends
abbrev pub sent_texts : List Act → List (List ℕ)
sent_texts [] = []
sent_texts (Send text ∷ acts) = text ∷ sent_texts acts
sent_texts (Hang code ∷ acts) = sent_texts acts
sent_texts (DialFirst ∷ acts) = sent_texts acts
sent_texts (DialResume ∷ acts) = sent_texts acts

-- ---- what is written is read back

-- the numbers of a payload are whole numbers of 64 bits
abbrev pub OutFits : Out → Type 0
OutFits (Hello interval_ms) = IsWhole interval_ms
OutFits Ack = Unit {0}
OutFits (Invalid resumable) = Unit {0}
OutFits Reconnect = Unit {0}
OutFits (Resumed number) = IsWhole number

-- `text` writes dispatches; JSON reads what was written, and the worker reads no other frame than the client wrote
pub record ReadsBack (text : ℕ → Dispatch → List ℕ) : Type 0 where
  pub dispatches : (number : ℕ) (d : Dispatch) → DispatchFits d → IsWhole number → reading (text number d) ≡ Some (data_of d number)
  pub others : (out : Out) → OutFits out → reading (said out) ≡ Some (out_data out)
  pub frames : (sent read : Frame) → MaySend sent → frame_of (frame_text sent) ≡ Ok read → read ≡ sent

-- the dispatches of a session fit the fields of their types, and so do their numbers
abbrev pub SessionFits : Session Sent → Type 0
SessionFits x = All DispatchFits (dispatches x.sent) × (length x.sent.told < 2 ^ 64)

-- so do all that a worker has made; it makes fewer than 2^32 sessions
pub record Fits (w : Worker) : Type 0 where
  pub sessions : All SessionFits w.core.sessions
  pub made : w.core.made < 2 ^ 32
