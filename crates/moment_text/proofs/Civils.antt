-- The date of a day is that of the calendar.
use Rattle.std.proofs.Common.{◌≡◌, ℕ, zero, suc, ◌+◌, ◌-◌, ◌<◌, ◌≤◌, inl, inr, Bool, true, false, nat_lt, if◌then◌else◌, refl, sym, ◌∙◌, arith, ℤ, pos, ◌≤ℤ◌}
use Rattle.std.proofs.lemmas.Bool.Decides.{nat_tests}
use Rattle.std.proofs.lemmas.Bool.{cases_order}
use Rattle.std.specs.Int.{IsInRange}
use Rattle.jiff_core.specs.Calendar.{days_in_year, days_in_month, day_count, days_from_civil, IsCivilDate}
use Rattle.jiff_core.specs.Date.{epoch_day}
use Rattle.jiff_core.specs.declared.civil.date.Date.{Date}
use Rattle.jiff_core.proofs.SignedLemmas.{signed_arith}
use Rattle.jiff_core.proofs.CalendarLemmas.{day_count-epoch, day_count-next_year, day_count-later_year, day_count-day, day_count-day_of_year, day_count-next_month, day_count-last_of_year, day_count-end, days_in_year_bounds, days_in_month_bounds, days_from_civil-day_count}
use Rattle.jiff_core.proofs.DateLemmas.{epoch_day_injective}
use Rattle.moment_text.specs.declared.civil.Civil.{Civil}
use Rattle.moment_text.specs.Civil.{from_month, from_year, civil}
use Rattle.moment_text.specs.Shown.{date_shown}

-- the date is in the calendar, and so many days lie before it
pub record IsOfCount (count : ℕ) (c : Civil) : Type 0 where
  pub month : IsInRange 1 12 c.month
  pub day : IsInRange 1 (days_in_month (pos c.year) c.month) c.day
  pub counts : day_count (pos c.year) c.month c.day ≡ count

-- a choice by a test is right where both sides are
by_test : (b : Bool) (P : Civil → Type 0) (x y : Civil) → (b ≡ true → P x) → (b ≡ false → P y) → P (if b then x else y)
by_test true P x y h k = h refl
by_test false P x y h k = k refl

in_month : (count year month left : ℕ) → 1 ≤ month → month ≤ 12 → day_count (pos year) month 1 + left ≡ count → left < days_in_month (pos year) month → IsOfCount count (record { year = year; month = month; day = left + 1 })
in_month count year month left low high e lt = record {
  month = (low, high);
  day = omega arith;
  counts = omega (arith, day_count-day (pos year) month (left + 1) 1 (omega arith) (omega arith));
}

month-right : (count more year month left : ℕ) → 1 ≤ month → month + more ≡ 13 → day_count (pos year) month 1 + left ≡ count → count < day_count (pos year) 12 31 + 1 → IsOfCount count (from_month more year month left)
unfolding from_month
month-right count zero year month left low ends e lt =
    let last : month ≡ 12 + 1 = omega arith in
    absurd (let k = days_in_month (pos year) 12 in omega (arith, rw last at e, day_count-next_month (pos year) 12 (omega arith), day_count-day (pos year) 12 31 1 (omega arith) (omega arith), days_in_month_bounds (pos year) 12))
month-right count (suc more) year month left low ends e lt =
    by_test (nat_lt left (days_in_month (pos year) month)) (IsOfCount count) _ _
    (λ t. in_month count year month left low (omega arith) e (grind (arith, nat_tests)))
    (λ f. let ge : days_in_month (pos year) month ≤ left = grind (arith, nat_tests) in
    month-right count more year (month + 1) (left - days_in_month (pos year) month) (omega arith) (omega arith) (omega (arith, day_count-next_month (pos year) month low)) lt)

in_year : (count year left : ℕ) → day_count (pos year) 1 1 + left ≡ count → left < days_in_year (pos year) → IsOfCount count (from_month 12 year 1 left)
in_year count year left e lt = month-right count 12 year 1 left (omega arith) (omega arith) e (omega (arith, day_count-last_of_year (pos year)))

year-right : (count more year left : ℕ) → day_count (pos year) 1 1 + left ≡ count → left ≤ more → IsOfCount count (from_year more year left)
unfolding from_year
year-right count zero year left e le = in_year count year left e (omega (arith, days_in_year_bounds (pos year)))
year-right count (suc more) year left e le =
    by_test (nat_lt left (days_in_year (pos year))) (IsOfCount count) _ _
    (λ t. in_year count year left e (grind (arith, nat_tests)))
    (λ f. let ge : days_in_year (pos year) ≤ left = grind (arith, nat_tests) in
    year-right count more (year + 1) (left - days_in_year (pos year))
    (omega (arith, day_count-next_year (pos year) (pos (year + 1)) (omega (arith, signed_arith)) (omega (arith, signed_arith))))
    (omega (arith, days_in_year_bounds (pos year))))

pub civil-right : (day : ℕ) → IsOfCount (4371953 + day) (civil day)
unfolding civil
civil-right day = year-right (4371953 + day) day 1970 day (omega (arith, day_count-epoch)) (omega arith)

first_of_year : (year month day : ℕ) → 1 ≤ day → day_count (pos year) 1 1 ≤ day_count (pos year) month day
first_of_year year month day low = omega (arith, day_count-day_of_year (pos year) month day low)

late_year : (year : ℕ) → 9999 < year → day_count (pos 10000) 1 1 ≤ day_count (pos year) 1 1
late_year year above =
    elim (cases_order 10000 year) [
      | inl same ↦ rw same (omega arith)
      | inr (inl below) ↦ omega (arith, day_count-later_year (pos 10000) (pos year) (omega (arith, signed_arith)) (omega (arith, signed_arith)))
      | inr (inr under) ↦ absurd (omega arith)
    ]

-- a date before the year 10000 has fewer days before it
year_within : (year month day : ℕ) → 1 ≤ day → 1 ≤ month → day_count (pos year) month day < 7304850 → year ≤ 9999
year_within year month day low first lt =
    elim (cases_order year 9999) [
      | inl same ↦ omega arith
      | inr (inl below) ↦ omega arith
      | inr (inr above) ↦ absurd (omega (arith, signed_arith, first_of_year year month day low, late_year year above, day_count-end))
    ]

pub civil_date : (day : ℕ) → day < 2932897 → IsCivilDate (pos (civil day).year) (civil day).month (civil day).day
civil_date day lt =
    let c = civil day in
    let right = civil-right day in
    let within : c.year ≤ 9999 = year_within c.year c.month c.day right.day.0 right.month.0 (omega (arith, right.counts)) in
    ((omega (arith, signed_arith), omega (arith, signed_arith)), right.month, right.day)

pub civil_days : (day : ℕ) → days_from_civil (pos (civil day).year) (civil day).month (civil day).day ≡ pos day
civil_days day =
    let c = civil day in
    omega (arith, signed_arith, days_from_civil-day_count (pos c.year) c.month c.day, (civil-right day).counts)

date : (day : ℕ) → day < 2932897 → Date
date day lt =
    let h = civil_date day lt in
    record { year = pos (civil day).year; month = (civil day).month; day = (civil day).day; year_in = h.0; month_in = h.1; day_in = h.2 }

-- a calendar's date with that day number is the date of the day
pub shown-civil : (d : Date) (day : ℕ) → day < 2932897 → epoch_day d ≡ pos day → (pos 0 ≤ℤ d.year) × (date_shown d ≡ civil day)
unfolding date
shown-civil d day lt e =
    let same = epoch_day_injective d (date day lt) (e ∙ sym (civil_days day)) in
    (rw same.0 (omega (arith, signed_arith)), rw (same.0, same.1, same.2) refl)
