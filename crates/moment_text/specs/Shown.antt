-- What a clock shows, in the words of the texts.
use Rattle.std.specs.Prelude.{◌<◌, unsigned_abs}
use Rattle.jiff_core.specs.declared.civil.date.Date.{Date}
use Rattle.moment_text.specs.declared.civil.Civil.{Civil}

abbrev pub date_shown : Date → Civil
date_shown d = record { year = unsigned_abs d.year; month = d.month; day = d.day }

-- the parts fit the digits that are written for them
abbrev pub IsShort : Civil → Type 0
IsShort c = (c.year < 10000) × (c.month < 100) × (c.day < 100)
