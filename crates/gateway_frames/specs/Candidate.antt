-- The payload that a value can be, by its opcode and its one field. It need not be exactly that payload's value.
use Rattle.std.specs.Prelude.{ℕ, ◌==◌, if◌then◌else◌, Option, Some, None, option_map, option_and_then, codes}
use Rattle.serde_json.specs.Data.{Data}
use Rattle.serde_json.specs.Find.{get, as_bool}
use Rattle.json_view.specs.Fields.{whole}
use Rattle.gateway_frames.specs.declared.out.Out.{Out}
use Rattle.gateway_frames.specs.declared.out.Out.TheVariants.{Hello, Ack, Invalid, Reconnect}

abbrev pub by_opcode : ℕ → Data → Option Out
by_opcode op d =
    if op == 7 then Some Reconnect
    else (if op == 9 then option_map Invalid (as_bool d)
    else (if op == 10 then option_map Hello (option_and_then whole (get (codes "heartbeat_interval") d))
    else (if op == 11 then Some Ack
    else None)))

abbrev pub candidate : Data → Option Out
candidate v =
    option_and_then (λ d. option_and_then (λ op. by_opcode op d) (option_and_then whole (get (codes "op") v))) (get (codes "d") v)
