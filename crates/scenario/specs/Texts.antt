-- The lines of a transcript.
use Rattle.std.specs.Prelude.{ℕ, List, [], ◌∷◌, ◌++◌, Option, Some, None, decimal, codes}
use Rattle.guild_model.specs.declared.verdict.Verdict.{Verdict}
use Rattle.guild_model.specs.declared.verdict.Verdict.TheVariants as verdict
use Rattle.guild_model.specs.Verdict.{verdict_number, verdict_name}
use Rattle.edit_fields.specs.declared.fault.LineFault.{LineFault}
use Rattle.line_faults.specs.Faults.{fault_number, fault_name}
use Rattle.edit_fields.specs.Names.{name_text}
use Rattle.edit_fields.specs.Edits.{edit_name}
use Rattle.worker_core.specs.declared.io.Output.{Output}
use Rattle.worker_core.specs.declared.io.Output.TheVariants.{Send, Close, Wish}
use Rattle.scenario.specs.declared.lagged.Lagged.{Lagged}

-- what goes out
abbrev pub written_line : Output → List ℕ
written_line (Send conn text) = codes "send " ++ (decimal conn ++ (32 ∷ (text ++ 10 ∷ [])))
written_line (Close conn code) = codes "close " ++ (decimal conn ++ (32 ∷ (decimal code ++ 10 ∷ [])))
written_line (Wish guild edit) = codes "wish " ++ (decimal guild ++ (32 ∷ (name_text (edit_name edit) ++ 10 ∷ [])))

-- the limit of a verdict that has one
abbrev pub limit_of : Verdict → Option ℕ
limit_of verdict.NotOpen = None
limit_of verdict.AlreadyOpen = None
limit_of verdict.Unavailable = None
limit_of verdict.UnknownRole = None
limit_of verdict.UnknownMember = None
limit_of verdict.UnknownChannel = None
limit_of verdict.UnknownThread = None
limit_of verdict.UnknownMessage = None
limit_of verdict.IdTaken = None
limit_of verdict.WrongType = None
limit_of verdict.EveryoneRole = None
limit_of verdict.OwnerStays = None
limit_of verdict.Archived = None
limit_of verdict.NotArchived = None
limit_of verdict.InThread = None
limit_of verdict.NotInThread = None
limit_of verdict.NotInVoice = None
limit_of (verdict.TooMany limit) = Some limit
limit_of (verdict.TooLong limit) = Some limit

abbrev pub limit_text : Option ℕ → List ℕ
limit_text None = []
limit_text (Some limit) = 32 ∷ decimal limit

-- an edit that is refused, by the number of its line
abbrev pub refused_line : ℕ → Verdict → List ℕ
refused_line number v = codes "refused " ++ (decimal number ++ (32 ∷ (decimal (verdict_number v) ++ (32 ∷ (verdict_name v ++ (limit_text (limit_of v) ++ 10 ∷ []))))))

abbrev pub refused_text : ℕ → Option Verdict → List ℕ
refused_text number None = []
refused_text number (Some v) = refused_line number v

-- a look that lags, by the worker and the guild, how many entries come before the kept ones, and how many the
-- worker was given
abbrev pub lagged_line : Lagged → List ℕ
lagged_line l = codes "lagged " ++ (decimal l.worker ++ (32 ∷ (decimal l.guild ++ (32 ∷ (decimal l.base ++ (32 ∷ (decimal l.cursor ++ 10 ∷ [])))))))

abbrev pub lagged_text : Option Lagged → List ℕ
lagged_text None = []
lagged_text (Some l) = lagged_line l

-- a line that is refused, which ends the play
abbrev pub stop_line : ℕ → LineFault → List ℕ
stop_line number f = codes "stop line " ++ (decimal number ++ (32 ∷ (decimal (fault_number f) ++ (32 ∷ (fault_name f ++ 10 ∷ [])))))
