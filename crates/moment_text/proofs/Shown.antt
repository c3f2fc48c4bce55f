-- What a clock shows at a moment.
use Rattle.std.proofs.Common.{◌≡◌, ℕ, ◌*◌, ◌/◌, ◌%◌, ◌<◌, arith, ℤ, pos, ◌≤ℤ◌}
use Rattle.jiff_core.specs.declared.civil.datetime.DateTime.{DateTime}
use Rattle.jiff_core.specs.Date.{epoch_day}
use Rattle.jiff_core.specs.DateTime.{civil_nanos}
use Rattle.jiff_core.specs.Time.{time_seconds}
use Rattle.jiff_core.proofs.SignedLemmas.{signed_arith}
use Rattle.jiff_core.proofs.DateTimeLemmas.{civil_nanos-parts, time_nanos_bound}
use Rattle.moment_text.specs.Civil.{civil}
use Rattle.moment_text.specs.Shown.{date_shown}
use Rattle.moment_text.proofs.Civils.{shown-civil}

pub record Shows (millis : ℕ) (dt : DateTime) : Type 0 where
  pub year : pos 0 ≤ℤ dt.date.year
  pub date : date_shown dt.date ≡ civil (millis / 86400000)
  pub clock : time_seconds dt.time ≡ millis / 1000 % 86400
  pub fraction : dt.time.subsec_nanosecond / 1000000 ≡ millis % 1000

pub shown_at : (dt : DateTime) (millis : ℕ) → millis < 253370764800000 → civil_nanos dt ≡ pos (millis * 1000000) → Shows millis dt
shown_at dt millis lt e =
    let day : epoch_day dt.date ≡ pos (millis / 86400000) = omega (arith, signed_arith, civil_nanos-parts dt, time_nanos_bound dt.time) in
    let d = shown-civil dt.date (millis / 86400000) (omega arith) day in
    record {
      year = d.0;
      date = d.1;
      clock = omega (arith, signed_arith, civil_nanos-parts dt, time_nanos_bound dt.time);
      fraction = omega (arith, signed_arith, civil_nanos-parts dt, time_nanos_bound dt.time);
    }
