-- internal: cited by private functions only. How the texts of a run went out.
use Rattle.std.specs.Prelude.{◌≡◌, ◌⊎◌, ℕ, List, [], ◌++◌, Bool, true, false, String, string_bytes, Some, None, Result, Ok, Err}
use Rattle.std.specs.Global.{Global}
use Rattle.std.specs.declared.option.Option.{Option}
use Rattle.std.specs.declared.alloc.AllocError.{AllocError}
use Rattle.std.specs.Io.KnownBytes.{Appends}
use Rattle.gate_outside.specs.Causes.{Rose}
use Rattle.gate_outside.specs.Streams.{AppendsFront}
use Rattle.serve_run.specs.Lines.{stop_line}
use Rattle.serve_run.specs.declared.fault.ServeFault.{ServeFault}
use Rattle.serve_run.specs.declared.fault.ServeFault.TheVariants.{Memory, Line, Write}

-- the whole text went out, or if the sink failed a front of it
abbrev pub GoesOut : (got0 got1 : Option (List ℕ)) (sink0 sink1 : ℕ) → List ℕ → Type 0
GoesOut got0 got1 sink0 sink1 text = Appends got0 got1 text ⊎ (AppendsFront got0 got1 text × Rose sink0 sink1)

-- the text that there was memory for
abbrev pub IsText : Result (String Global) AllocError → List ℕ → Type 0
IsText (Ok text) bytes = string_bytes text ≡ bytes
IsText (Err error) bytes = ⊥

-- how it went out after what waited
abbrev pub Puts : Result (String Global) AllocError → (got0 got1 : Option (List ℕ)) (waits : List ℕ) (sink0 sink1 : ℕ) → Result (Unit {0}) ServeFault → Type 0
Puts text got0 got1 waits sink0 sink1 (Ok u) = (bytes : List ℕ) × (IsText text bytes × (Appends got0 got1 (waits ++ bytes) × (sink1 ≡ sink0)))
Puts text got0 got1 waits sink0 sink1 (Err Memory) = (got1 ≡ got0) ⊎ ((bytes : List ℕ) × (IsText text bytes × AppendsFront got0 got1 (waits ++ bytes)))
Puts text got0 got1 waits sink0 sink1 (Err Write) = (bytes : List ℕ) × (IsText text bytes × (AppendsFront got0 got1 (waits ++ bytes) × Rose sink0 sink1))
Puts text got0 got1 waits sink0 sink1 (Err fault) = ⊥

-- how the lines of the workers went out, which are told only if all parts were started
abbrev pub Tells : (lines : List ℕ) (got0 got1 : Option (List ℕ)) (waits0 waits1 : List ℕ) (sink0 sink1 : ℕ) → (started : Bool) → Option ServeFault → Type 0
Tells lines got0 got1 waits0 waits1 sink0 sink1 false told = (told ≡ None) × ((got1 ≡ got0) × ((waits1 ≡ waits0) × (sink1 ≡ sink0)))
Tells lines got0 got1 waits0 waits1 sink0 sink1 true None = Appends got0 got1 (waits0 ++ lines) × ((waits1 ≡ []) × (sink1 ≡ sink0))
Tells lines got0 got1 waits0 waits1 sink0 sink1 true (Some Memory) = AppendsFront got0 got1 (waits0 ++ lines)
Tells lines got0 got1 waits0 waits1 sink0 sink1 true (Some Write) = AppendsFront got0 got1 (waits0 ++ lines) × Rose sink0 sink1
Tells lines got0 got1 waits0 waits1 sink0 sink1 true (Some fault) = ⊥

-- what is answered of a fault of the parts: of a line that is refused its own line goes out, and of any other nothing
abbrev pub Refuses : ServeFault → (got0 got1 : Option (List ℕ)) (waits : List ℕ) (sink0 sink1 : ℕ) → ServeFault → Type 0
Refuses (Line file line fault) got0 got1 waits sink0 sink1 answered =
    ((answered ≡ Line file line fault) × GoesOut got0 got1 sink0 sink1 (waits ++ stop_line file line fault))
    ⊎ ((answered ≡ Memory) × ((got1 ≡ got0) ⊎ AppendsFront got0 got1 (waits ++ stop_line file line fault)))
Refuses fault got0 got1 waits sink0 sink1 answered = (answered ≡ fault) × ((got1 ≡ got0) × (sink1 ≡ sink0))
