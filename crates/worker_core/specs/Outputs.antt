-- What comes to a worker's value, and what goes out as texts (Gateway, Payload Structure).
use Rattle.std.specs.Prelude.{◌≡◌, List, map, take, drop}
use Rattle.serde_json.specs.Written.{compact_text}
use Rattle.gateway_frames.specs.Out.{out_data}
use Rattle.edit_apply.specs.Edits.{state}
use Rattle.edit_apply.specs.declared.Edit.{Edit}
use Rattle.world_law.specs.Outputs.{Output, Says, Sends, Closes, Wishes}
use Rattle.world_law.specs.Inputs.{Input, Look, Rebase, Open, Frame, Lost, Closed, Tick}
use Rattle.worker_core.specs.declared.io.Input.{Input as Given}
use Rattle.worker_core.specs.declared.io.Input.TheVariants as given
use Rattle.worker_core.specs.declared.io.Output.{Output as Written}
use Rattle.worker_core.specs.declared.io.Output.TheVariants.{Send, Close, Wish}

abbrev pub written : Output → Written
written (Says conn out) = Send conn (compact_text (out_data out))
written (Sends conn text) = Send conn text
written (Closes conn code) = Close conn code
written (Wishes guild edit) = Wish guild edit

abbrev pub all_written : List Output → List Written
all_written outputs = map written outputs

-- the input of the model that is given; a log that is taken over whole is given by the record after its first
-- entries and the entries that follow them
abbrev pub IsGiven : Given → Input → Type 0
IsGiven (given.Look guild entries) i = i ≡ Look guild entries
IsGiven (given.Rebase guild base basis entries) i =
    (log : List Edit) × ((i ≡ Rebase guild log) × ((basis ≡ state guild (take base log)) × (entries ≡ drop base log)))
IsGiven (given.Open conn) i = i ≡ Open conn
IsGiven (given.Frame conn text) i = i ≡ Frame conn text
IsGiven (given.Lost conn) i = i ≡ Lost conn
IsGiven (given.Closed conn code) i = i ≡ Closed conn code
IsGiven (given.Tick now) i = i ≡ Tick now
