-- What a client's text is (Gateway, Sending Events).
use Rattle.std.specs.Prelude.{ℕ, List, length, ◌==◌, nat_lt, if◌then◌else◌, unwrap_or, Result, Ok, Err, codes}
use Rattle.std.specs.Option.{ok_or}
use Rattle.serde_json.specs.Data.{Data, null}
use Rattle.serde_json.specs.Find.{get}
use Rattle.json_view.specs.Fields.{and_then}
use Rattle.json_view.specs.Reading.{reading}
use Rattle.gateway_frames.specs.declared.fault.FrameFault.{FrameFault}
use Rattle.gateway_frames.specs.declared.fault.FrameFault.TheVariants.{TooLong, NotJson, UnknownOp}
use Rattle.gateway_frames.specs.declared.frame.Frame.{Frame}
use Rattle.gateway_frames.specs.declared.frame.Frame.TheVariants.{Identify, Presence, Voice, Resume, Ask}
use Rattle.gateway_frames.specs.Shape.{whole_at, heartbeat_from, identify_from, presence_from, voice_from, resume_from, ask_from}

-- `d`, which is null if it is missing
abbrev pub payload : Data → Data
payload frame = unwrap_or (get (codes "d") frame) null

abbrev pub shape_of : ℕ → Data → Result Frame FrameFault
shape_of op frame =
    if op == 1 then heartbeat_from frame
    else (if op == 2 then and_then (identify_from (payload frame)) (λ x. Ok (Identify x))
    else (if op == 3 then and_then (presence_from (payload frame)) (λ x. Ok (Presence x))
    else (if op == 4 then and_then (voice_from (payload frame)) (λ x. Ok (Voice x))
    else (if op == 6 then and_then (resume_from (payload frame)) (λ x. Ok (Resume x))
    else (if op == 8 then and_then (ask_from (payload frame)) (λ x. Ok (Ask x))
    else Err UnknownOp)))))

abbrev pub frame_from : Data → Result Frame FrameFault
frame_from d = and_then (whole_at (codes "op") d) (λ op. shape_of op d)

-- at most 4,096 bytes, JSON, an object with an opcode, and `d` in the shape of that opcode
unfoldable pub frame_of : List ℕ → Result Frame FrameFault
frame_of text =
    if nat_lt 4096 (length text) then Err TooLong
    else and_then (ok_or (reading text) NotJson) frame_from
