-- What a run of `serve` begins with, as its outside tells it.
use Rattle.std.specs.Prelude.{◌≡◌, ℕ, ◌+◌, ◌<◌, List, [], ◌∷◌, map, length, Err}
use Rattle.std.specs.declared.option.Option.{Option as Known}
use Rattle.collections.specs.ById.{put_all}
use Rattle.gate_outside.specs.Clocks.{ClockTale}
use Rattle.gate_outside.specs.Doors.{DoorTale}
use Rattle.session_core.specs.declared.bot.Bot.{Bot}
use Rattle.file_script.specs.Sends.{HeadIsRead}
use Rattle.file_script.specs.declared.fault.ScriptFault.TheVariants.{Read}
use Rattle.file_script.specs.declared.script.FileScript.{FileScript}
use Rattle.serve_heads.specs.declared.script_file.ScriptFile.{ScriptFile}
use Rattle.serve_stage.specs.declared.lent.Lent.{Lent}

-- a file: the bytes of its head, what is left in its source, where that tells, and the script that follows the head
pub record FileTale : Type 0 where
  pub head : List ℕ
  pub left : Known (List ℕ)
  pub faults : ℕ
  pub script : FileScript

-- a door before its first call
pub record DoorGiven : Type 0 where
  pub tale : DoorTale
  pub faults : ℕ

-- the first port, all bots and guilds in the order of their lines, and what the house has lent
pub record Service : Type 0 where
  pub port : ℕ
  pub bots : List Bot
  pub guilds : List ℕ
  pub files : List FileTale
  pub doors : List DoorGiven
  pub clocks : List ClockTale

abbrev pub itself : ℕ → ℕ
itself n = n

-- the guilds, ascending
abbrev pub ascending : List ℕ → List ℕ
ascending guilds = put_all itself [] guilds

-- how many senders each post has: the scripts, and then the workers
abbrev pub senders : Service → ℕ
senders s = length s.files + length s.doors

module _ {S D C : Type 0} (left : S → Known (List ℕ)) (source_faults : S → ℕ) (door_tale : D → DoorTale) (door_faults : D → ℕ) (clock_tale : C → ClockTale) where
  abbrev pub file_tales : List (List ℕ) → List (ScriptFile S) → List FileTale
  file_tales [] files = []
  file_tales (head ∷ heads) [] = []
  file_tales (head ∷ heads) (f ∷ files) = record { head = head; left = left f.source; faults = source_faults f.source; script = f.script } ∷ file_tales heads files

  abbrev pub door_given : D → DoorGiven
  door_given d = record { tale = door_tale d; faults = door_faults d }

  -- what is lent, where these are the bytes of the heads
  abbrev pub service : ℕ → List Bot → List ℕ → List (List ℕ) → Lent S D C → Service
  service port bots guilds heads lent = record {
    port = port;
    bots = bots;
    guilds = guilds;
    files = file_tales heads lent.files.items;
    doors = map door_given lent.doors.items;
    clocks = map clock_tale lent.clocks.items;
  }

-- the head was read, and the source's count of faults says so if a read failed
pub record HasHead (f : FileTale) : Type 0 where
  pub read : HeadIsRead f.left f.script f.head
  pub failed : f.script.first ≡ Err Read → 0 < f.faults
