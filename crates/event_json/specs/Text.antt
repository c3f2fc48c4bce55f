-- The payload of a dispatch (Gateway, Payload Structure).
use Rattle.std.specs.Prelude.{ℕ, List, ◌++◌, codes}
use Rattle.serde_json.specs.Data.{Data, string, object, member, no_members}
use Rattle.serde_json.specs.Written.{compact_text}
use Rattle.intent_set.specs.Kind.{name_of}
use Rattle.dispatch_types.specs.declared.dispatch.Dispatch.{Dispatch}
use Rattle.dispatch_types.specs.Kinds.{kind_of}
use Rattle.object_json.specs.Kinds.{count}
use Rattle.payload_text.specs.declared.envelope.Parts.{Parts}
use Rattle.event_json.specs.Body.{body_data}

-- what stands round a body: its number and the name of its kind
abbrev pub framed : Data → ℕ → List ℕ → Data
framed body number name =
    object (member (codes "d") body
    (member (codes "op") (count 0)
    (member (codes "s") (count number)
    (member (codes "t") (string name)
    no_members))))

abbrev pub data_of : Dispatch → ℕ → Data
data_of d number = framed (body_data d) number (name_of (kind_of d))

-- the same as texts before and after the number
abbrev pub head_of : List ℕ → List ℕ
head_of body = codes "{\"d\":" ++ (body ++ codes ",\"op\":0,\"s\":")

abbrev pub tail_of : List ℕ → List ℕ
tail_of name = codes ",\"t\":\"" ++ (name ++ codes "\"}")

abbrev pub envelope_of : Dispatch → Parts
envelope_of d = record { head = head_of (compact_text (body_data d)); tail = tail_of (name_of (kind_of d)) }
