-- The scripts of a server, as they have ended.
use Rattle.file_script.specs.declared.fault.ScriptFault.{ScriptFault}
use Rattle.gate_ends.specs.declared.ending.ScriptEnd.{ScriptEnd}

-- a script that has ended, without its source
abbrev pub FileEnd : Type 0
FileEnd = ScriptEnd ScriptFault
