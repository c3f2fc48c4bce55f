-- The instant that a calendar and a clock make of a moment's parts.
use Rattle.std.proofs.Common.{◌≡◌, ℕ, ◌*◌, ◌/◌, ◌%◌, ◌<◌, ap, ◌∙◌, arith, List, pos}
use Rattle.jiff_core.specs.Calendar.{IsDate}
use Rattle.jiff_core.specs.Date.{IsYmd, epoch_day}
use Rattle.jiff_core.specs.DateTime.{civil_nanos}
use Rattle.jiff_core.specs.Time.{IsTime, IsHms, time_nanos}
use Rattle.jiff_core.specs.declared.civil.date.Date.{Date}
use Rattle.jiff_core.specs.declared.civil.time.Time.{Time}
use Rattle.jiff_core.specs.declared.civil.datetime.DateTime.{DateTime}
use Rattle.jiff_core.proofs.SignedLemmas.{signed_arith}
use Rattle.jiff_core.proofs.DateTimeLemmas.{civil_nanos-parts}
use Rattle.guild_model.specs.declared.moment.TheConstants.{END_OF_TIME}
use Rattle.moment_text.specs.Civil.{civil}
use Rattle.moment_text.specs.Named.{two_at, year_at, milliseconds_at}
use Rattle.moment_text.proofs.Civils.{civil_date, civil_days}
use Rattle.moment_text.proofs.Named.{Names}

date_of_day : (day year month in_month : ℕ) → day < 2932897 → year ≡ (civil day).year → month ≡ (civil day).month → in_month ≡ (civil day).day → IsDate (pos year) (pos month) (pos in_month)
date_of_day day year month in_month lt y m d =
    let date = civil_date day lt in
    rw (y, m, d) (date.0, (omega (arith, signed_arith, date.1), omega (arith, signed_arith, date.1)), (omega (arith, signed_arith, date.2), omega (arith, signed_arith, date.2)))

pub is_date : (text : List ℕ) (millis : ℕ) → millis < END_OF_TIME → Names text millis → IsDate (pos (year_at text)) (pos (two_at text 5)) (pos (two_at text 8))
is_date text millis lt n = date_of_day (millis / 86400000) (year_at text) (two_at text 5) (two_at text 8) (omega arith) n.year n.month n.day

pub is_time : (text : List ℕ) (millis : ℕ) → Names text millis → IsTime (pos (two_at text 11)) (pos (two_at text 14)) (pos (two_at text 17)) (pos (milliseconds_at text * 1000000))
is_time text millis n = rw (n.hour, n.minute, n.second, n.milliseconds) ((omega (arith, signed_arith), omega (arith, signed_arith)), (omega (arith, signed_arith), omega (arith, signed_arith)), (omega (arith, signed_arith), omega (arith, signed_arith)), (omega (arith, signed_arith), omega (arith, signed_arith)))

day_number : (date : Date) (day year month in_month : ℕ) → year ≡ (civil day).year → month ≡ (civil day).month → in_month ≡ (civil day).day → IsYmd (pos year) (pos month) (pos in_month) date → epoch_day date ≡ pos day
day_number date day year month in_month y m d is =
    let year_is : date.year ≡ pos (civil day).year = is.0 ∙ ap pos y in
    let month_is : date.month ≡ (civil day).month = omega (arith, signed_arith, is.1, m) in
    let day_is : date.day ≡ (civil day).day = omega (arith, signed_arith, is.2, d) in
    rw (year_is, month_is, day_is) (civil_days day)

clock_number : (time : Time) (hour minute second milliseconds millis : ℕ) → hour ≡ millis / 1000 % 86400 / 3600 → minute ≡ millis / 1000 % 86400 / 60 % 60 → second ≡ millis / 1000 % 86400 % 60 → milliseconds ≡ millis % 1000
    → IsHms (pos hour) (pos minute) (pos second) (pos (milliseconds * 1000000)) time → time_nanos time ≡ (millis % 86400000) * 1000000
clock_number time hour minute second milliseconds millis h m s f is = omega (arith, signed_arith, h, m, s, f, is.0, is.1, is.2, is.3)

pub nanos : (text : List ℕ) (millis : ℕ) (dt : DateTime) (date : Date) (time : Time) → Names text millis → dt.date ≡ date → dt.time ≡ time
    → IsYmd (pos (year_at text)) (pos (two_at text 5)) (pos (two_at text 8)) date → IsHms (pos (two_at text 11)) (pos (two_at text 14)) (pos (two_at text 17)) (pos (milliseconds_at text * 1000000)) time
    → civil_nanos dt ≡ pos (millis * 1000000)
nanos text millis dt date time n on at ymd hms =
    let days : epoch_day dt.date ≡ pos (millis / 86400000) = ap epoch_day on ∙ day_number date _ _ _ _ n.year n.month n.day ymd in
    let clock : time_nanos dt.time ≡ (millis % 86400000) * 1000000 = ap time_nanos at ∙ clock_number time _ _ _ _ millis n.hour n.minute n.second n.milliseconds hms in
    omega (arith, signed_arith, civil_nanos-parts dt, days, clock)
