-- The transcript of a step file.
use Rattle.std.specs.Prelude.{ℕ, List, [], ◌∷◌, ◌++◌, Bool, true, false, Option, Some, None, Result, Ok, Err, if◌then◌else◌}
use Rattle.collections.specs.ById.{find_id}
use Rattle.guild_model.specs.declared.verdict.Verdict.{Verdict}
use Rattle.dispatch_types.specs.Fold.{contains}
use Rattle.edit_fields.specs.declared.fault.LineFault.{LineFault}
use Rattle.edit_text.specs.declared.line.FileKind.TheVariants.{Run}
use Rattle.edit_text.specs.declared.line.Line.{Line}
use Rattle.edit_text.specs.declared.line.Line.TheVariants.{Bot, Guild, Edit, Look, Open, Frame, Lost, Closed, Tick}
use Rattle.edit_text.specs.declared.reader_state.ReaderState.{ReaderState}
use Rattle.edit_text.specs.Lines.{line_of, reader_after}
use Rattle.edit_text.specs.Reader.{first_reader, reader_from, number_of}
use Rattle.worker_core.specs.declared.io.Output.{Output}
use Rattle.worker_core.specs.declared.io.Output.TheVariants.{Send, Close, Wish}
use Rattle.scenario.specs.declared.lagged.Lagged.{Lagged}
use Rattle.file_lines.specs.Lines.{lines_of}
use Rattle.scenario.specs.Server.{Server, first_server, world, log, worker_id, lag_of, refusal, step_of, with_line, line_sends, follow, played, step_spends}
use Rattle.scenario.specs.Texts.{written_line, refused_text, lagged_text, stop_line}

-- ---- what goes out

-- why the edit of a wish is refused, if it is one that is
abbrev pub wish_refusal : Server → Output → Option Verdict
wish_refusal p (Send conn text) = None
wish_refusal p (Close conn code) = None
wish_refusal p (Wish guild edit) = refusal p guild edit

-- what goes out after a line of this number; a wish is followed at once by its edit
abbrev pub output_text : Server → ℕ → Output → List ℕ
output_text p number o = written_line o ++ refused_text number (wish_refusal p o)

abbrev pub outputs_text : Server → ℕ → List Output → List ℕ
outputs_text p number [] = []
outputs_text p number (o ∷ os) = output_text p number o ++ outputs_text (follow p o) number os

-- ---- one line

-- why the edit of a line is refused, if it is one that is
abbrev pub line_refusal : Server → Line → Option Verdict
line_refusal p (Bot token user name privileged v items bytes) = None
line_refusal p (Guild id) = None
line_refusal p (Edit guild edit) = refusal p guild edit
line_refusal p (Look worker guild) = None
line_refusal p (Open worker conn) = None
line_refusal p (Frame conn text) = None
line_refusal p (Lost conn) = None
line_refusal p (Closed conn code) = None
line_refusal p (Tick worker now) = None

-- the look of a line, if it lags
abbrev pub line_lag : Server → Line → Option Lagged
line_lag p (Bot token user name privileged v items bytes) = None
line_lag p (Guild id) = None
line_lag p (Edit guild edit) = None
line_lag p (Look worker guild) = if contains guild p.guilds then lag_of worker guild (log p guild) (find_id worker_id worker (world p).workers) else None
line_lag p (Open worker conn) = None
line_lag p (Frame conn text) = None
line_lag p (Lost conn) = None
line_lag p (Closed conn code) = None
line_lag p (Tick worker now) = None

-- what comes before the outputs of a line
abbrev pub head_text : ℕ → Option Verdict → Option Lagged → List ℕ
head_text number refusal lag = refused_text number refusal ++ lagged_text lag

abbrev pub line_text : Server → ℕ → Line → List ℕ
line_text p number line = head_text number (line_refusal p line) (line_lag p line) ++ outputs_text (with_line p line) number (line_sends p line)

abbrev pub line_spends : Server → Line → Bool
line_spends p line = step_spends (world p) (step_of p line)

-- how a play ends, the line by its number, from 1
pub data Ending : Type 0 where
  -- every line was played
  Whole : Ending
  -- a line was refused
  Stops : (line : ℕ) (fault : LineFault) → Ending
  -- a count of a worker is at its last value
  Spends : Ending

abbrev pub line_ending : Server → Line → Ending
line_ending p line = if line_spends p line then Spends else Whole

-- what a line that was read, by its number, gives to the transcript, makes of the server, and ends
abbrev pub read_text : Server → ℕ → Result (Option Line) LineFault → List ℕ
read_text p number (Err fault) = stop_line number fault
read_text p number (Ok None) = []
read_text p number (Ok (Some line)) = line_text p number line

abbrev pub after_read : Server → Result (Option Line) LineFault → Server
after_read p (Err fault) = p
after_read p (Ok None) = p
after_read p (Ok (Some line)) = played p line

abbrev pub read_ending : Server → ℕ → Result (Option Line) LineFault → Ending
read_ending p number (Err fault) = Stops number fault
read_ending p number (Ok None) = Whole
read_ending p number (Ok (Some line)) = line_ending p line

-- ---- all lines

abbrev pub is_read : {A : Type 0} → Result A LineFault → Bool
is_read (Ok line) = true
is_read (Err fault) = false

abbrev pub run_text : ReaderState → Server → List ℕ → List ℕ
run_text r p line = read_text p (number_of r line) (line_of r line)

abbrev pub after_run : ReaderState → Server → List ℕ → Server
after_run r p line = after_read p (line_of r line)

abbrev pub run_ending : ReaderState → Server → List ℕ → Ending
run_ending r p line = read_ending p (number_of r line) (line_of r line)

-- what is written for lines; nothing follows a line that is refused
abbrev pub text_from : ReaderState → Server → List (List ℕ) → List ℕ
text_from r p [] = []
text_from r p (line ∷ lines) = run_text r p line ++ (if is_read (line_of r line) then text_from (reader_after r line) (after_run r p line) lines else [])

abbrev pub then_ending : Ending → Ending → Ending
then_ending Whole later = later
then_ending (Stops line fault) later = Stops line fault
then_ending Spends later = Spends

abbrev pub ending_from : ReaderState → Server → List (List ℕ) → Ending
ending_from r p [] = Whole
ending_from r p (line ∷ lines) = then_ending (run_ending r p line) (ending_from (reader_after r line) (after_run r p line) lines)

-- the server after lines
abbrev pub server_from : ReaderState → Server → List (List ℕ) → Server
server_from r p [] = p
server_from r p (line ∷ lines) = server_from (reader_after r line) (after_run r p line) lines

abbrev pub text_of : List (List ℕ) → List ℕ
text_of lines = text_from (first_reader Run) first_server lines

abbrev pub ending_of : List (List ℕ) → Ending
ending_of lines = ending_from (first_reader Run) first_server lines

abbrev pub reader_of : List (List ℕ) → ReaderState
reader_of lines = reader_from (first_reader Run) lines

abbrev pub server_of : List (List ℕ) → Server
server_of lines = server_from (first_reader Run) first_server lines

-- the transcript of a file, and how its play ends
unfoldable pub transcript : List ℕ → List ℕ
transcript bytes = text_of (lines_of bytes)

unfoldable pub ending : List ℕ → Ending
ending bytes = ending_of (lines_of bytes)
