-- The heads of all files.
use Rattle.std.specs.Prelude.{◌≡◌, ℕ, List, map, flat_map}
use Rattle.std.specs.List.{AllZip}
use Rattle.std.specs.declared.option.Option.{Option as Known}
use Rattle.std.specs.Io.KnownBytes.{Consumes}
use Rattle.session_core.specs.declared.bot.Bot.{Bot as ABot}
use Rattle.file_script.specs.Reads.{ReadCause}
use Rattle.file_script.specs.Sends.{HeadIsRead, DeclaresFirst}
use Rattle.serve_heads.specs.Guilds.{each_once}
use Rattle.serve_heads.specs.declared.script_file.ScriptFile.{ScriptFile}

-- the bots and guilds that the head of a file declares, in the order of its lines, as often as they stand there
pub record Head : Type 0 where
  pub bots : List ABot
  pub guilds : List ℕ

module _ {S : Type 0} (left : S → Known (List ℕ)) (faults : S → ℕ) where
  -- These bytes of the source were read: the head of its file, which declares this, and what ended it, which is the first
  -- that the script handles. The source's count of faults rose exactly if it ended by a failure.
  pub record IsBegun (source : S) (file : ScriptFile S) (head : Head) : Type 0 where
    pub bytes : List ℕ
    pub consumed : Consumes (left source) (left file.source) bytes
    pub read : HeadIsRead (left file.source) file.script bytes
    pub declared : DeclaresFirst (left file.source) bytes file.script.first head.bots head.guilds
    pub cause : ReadCause (faults source) (faults file.source) file.script.first

  -- The file of each source was begun, in order. The bots are those of all heads, one head after another, and the guilds
  -- those of all heads, each once.
  pub record HeadsAreRead (sources : List S) (files : List (ScriptFile S)) (bots : List ABot) (guilds : List ℕ) : Type 0 where
    pub begun : List (ScriptFile S × Head)
    pub each : AllZip (λ source b. IsBegun source b.0 b.1) sources begun
    pub files_are : files ≡ map (λ b. b.0) begun
    pub bots_are : bots ≡ flat_map (λ b. b.1.bots) begun
    pub guilds_are : guilds ≡ each_once (flat_map (λ b. b.1.guilds) begun)
