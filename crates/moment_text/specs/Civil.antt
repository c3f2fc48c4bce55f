-- The date of a day, counted from 1 January 1970, in the Gregorian calendar.
use Rattle.std.specs.Prelude.{ℕ, zero, suc, ◌+◌, ◌-◌, nat_lt, if◌then◌else◌, pos}
use Rattle.moment_text.specs.declared.civil.Civil.{Civil}
use Rattle.jiff.specs.Words.{days_in_year, days_in_month}

-- the day that comes `left` days after the first of a month: in that month, or in one of the next
unfoldable pub from_month : ℕ → ℕ → ℕ → ℕ → Civil
from_month zero year month left = record { year = year; month = month; day = left + 1 }
from_month (suc more) year month left =
    if nat_lt left (days_in_month (pos year) month) then record { year = year; month = month; day = left + 1 }
    else from_month more year (month + 1) (left - days_in_month (pos year) month)

-- the day that comes `left` days after the first of a year: in that year, or in one of the next
unfoldable pub from_year : ℕ → ℕ → ℕ → Civil
from_year zero year left = from_month 12 year 1 left
from_year (suc more) year left =
    if nat_lt left (days_in_year (pos year)) then from_month 12 year 1 left
    else from_year more (year + 1) (left - days_in_year (pos year))

-- the date of a day: no more years go by than days
unfoldable pub civil : ℕ → Civil
civil day = from_year day 1970 day
