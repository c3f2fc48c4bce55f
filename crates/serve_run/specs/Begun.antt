-- The files of a service, whose heads were read.
use Rattle.std.specs.Prelude.{◌≡◌, ℕ, List, ◌++◌, map, flat_map}
use Rattle.std.specs.List.{AllZip}
use Rattle.std.specs.declared.option.Option.{Option as Known}
use Rattle.std.specs.declared.option.Option.TheVariants as known
use Rattle.gate_outside.specs.Houses.{GivesOwn}
use Rattle.file_script.specs.Reads.{ReadCause}
use Rattle.file_script.specs.Sends.{HeadIsRead, DeclaresFirst}
use Rattle.serve_run.specs.Services.{Service, FileTale}
use Rattle.serve_heads.specs.Guilds.{each_once}
use Rattle.serve_heads.specs.Heads.{Head}

-- what was in a source before this was read, where it tells
abbrev pub with_head : List ℕ → Known (List ℕ) → Known (List ℕ)
with_head head known.None = known.None
with_head head (known.Some left) = known.Some (head ++ left)

-- The head of a file with these bytes of its own, where they are told, was read: it declares this. The source's count of
-- faults rose exactly if a failure ended it.
pub record IsBegunOf (own : Known (List ℕ)) (file : FileTale) (head : Head) : Type 0 where
  pub bytes : GivesOwn own (with_head file.head file.left)
  pub read : HeadIsRead file.left file.script file.head
  pub declared : DeclaresFirst file.left file.head file.script.first head.bots head.guilds
  pub cause : ReadCause 0 file.faults file.script.first

-- The files of a service are those with these bytes, in order. Its bots are those of all heads, one head after another,
-- and its guilds those of all heads, each once.
pub record AreBegun (owns : List (Known (List ℕ))) (s : Service) : Type 0 where
  pub begun : List (FileTale × Head)
  pub each : AllZip (λ own b. IsBegunOf own b.0 b.1) owns begun
  pub files_are : s.files ≡ map (λ b. b.0) begun
  pub bots_are : s.bots ≡ flat_map (λ b. b.1.bots) begun
  pub guilds_are : s.guilds ≡ each_once (flat_map (λ b. b.1.guilds) begun)
