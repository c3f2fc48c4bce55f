-- What the gateway sends beside other dispatches (Gateway, Payload structure).
use Rattle.std.specs.Prelude.{ℕ, codes}
use Rattle.serde_json.specs.Data.{Data, null, boolean, object, string, no_members, member}
use Rattle.gateway_frames.specs.declared.out.Out.{Out}
use Rattle.gateway_frames.specs.declared.out.Out.TheVariants.{Hello, Ack, Invalid, Reconnect, Resumed}
use Rattle.gateway_frames.specs.Written.{count}

abbrev pub envelope : Data → ℕ → Data → Data → Data
envelope d op s t =
    object (member (codes "d") d (member (codes "op") (count op) (member (codes "s") s (member (codes "t") t no_members))))

-- `s` and `t` are null unless the opcode is 0
abbrev pub out_data : Out → Data
out_data (Hello interval) = envelope (object (member (codes "heartbeat_interval") (count interval) no_members)) 10 null null
out_data Ack = envelope null 11 null null
out_data (Invalid resumable) = envelope (boolean resumable) 9 null null
out_data Reconnect = envelope null 7 null null
out_data (Resumed number) = envelope (object no_members) 0 (count number) (string (codes "RESUMED"))

-- RESUMED is read as a dispatch
abbrev pub IsNoDispatch : Out → Type 0
IsNoDispatch (Hello interval) = Unit {0}
IsNoDispatch Ack = Unit {0}
IsNoDispatch (Invalid resumable) = Unit {0}
IsNoDispatch Reconnect = Unit {0}
IsNoDispatch (Resumed number) = ⊥
