-- internal: cited by private functions only
use Rattle.std.specs.Prelude.{◌≡◌, ℕ, ◌≤◌, List, [], ◌∷◌, ◌++◌, fold, map}
use Rattle.std.specs.Global.{Vec}
use Rattle.std.specs.Vec.{vec_capacity}
use Rattle.std.specs.declared.option.Option.{Option as Known}
use Rattle.session_core.specs.declared.bot.Bot.{Bot as ABot}
use Rattle.file_script.specs.declared.head.FileHead.{FileHead}
use Rattle.file_script.specs.declared.script.FileScript.{FileScript}
use Rattle.serve_heads.specs.declared.gathering.Gathered.{Gathered}
use Rattle.serve_heads.specs.declared.script_file.ScriptFile.{ScriptFile}
use Rattle.serve_heads.specs.Guilds.{with_guild}
use Rattle.serve_heads.specs.Heads.{HeadsAreRead}

module _ {S : Type 0} where
  abbrev pub source_of : ScriptFile S → S
  source_of f = f.source

  abbrev pub script_of : ScriptFile S → FileScript
  script_of f = f.script

pub record IsNew (g : Gathered) : Type 0 where
  pub scripts : g.scripts.items ≡ []
  pub bots : g.bots.items ≡ []
  pub guilds : g.guilds.keys ≡ []

-- the script of a head and what it declares were added
pub record AddsHead (head : FileHead) (old new : Gathered) : Type 0 where
  pub scripts : new.scripts.items ≡ old.scripts.items ++ head.script ∷ []
  pub bots : new.bots.items ≡ old.bots.items ++ head.declared.bots.items
  pub guilds : new.guilds.keys ≡ fold with_guild old.guilds.keys head.declared.guilds.items

-- the heads of these files were read, of which these are now the sources, and these the scripts
pub record AreGathered {S : Type 0} (left : S → Known (List ℕ)) (faults : S → ℕ) (old now : List S) (scripts : List FileScript) (bots : List ABot) (guilds : List ℕ) : Type 0 where
  pub files : List (ScriptFile S)
  pub sources_are : now ≡ map source_of files
  pub scripts_are : scripts ≡ map script_of files
  pub read : HeadsAreRead left faults old files bots guilds

-- an empty list that has room for so many
pub record HasRoom {X : Type 0} (many : ℕ) (xs : Vec X) : Type 0 where
  pub none : xs.items ≡ []
  pub room : many ≤ vec_capacity xs
