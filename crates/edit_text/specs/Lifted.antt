-- The newest version of a line.
use Rattle.edit_text.specs.declared.line.Line.{Line}
use Rattle.edit_text.specs.declared.line.Line.TheVariants.{Bot, Guild, Edit, Look, Open, Frame, Lost, Closed, Tick}

-- a bot line in version 2, which says what version 1 means; every other line as it is
abbrev pub lifted : Line → Line
lifted (Bot token user name privileged v items bytes) = Bot token user name privileged 2 items bytes
lifted (Guild id) = Guild id
lifted (Edit guild edit) = Edit guild edit
lifted (Look worker guild) = Look worker guild
lifted (Open worker conn) = Open worker conn
lifted (Frame conn text) = Frame conn text
lifted (Lost conn) = Lost conn
lifted (Closed conn code) = Closed conn code
lifted (Tick worker now) = Tick worker now
