-- The digits of a moment's text name its parts, so that no two moments have the same text.
use Rattle.std.proofs.Common.{◌≡◌, ℕ, zero, suc, ◌-◌, ◌/◌, ◌%◌, ◌<◌, inl, inr, List, length, Some, None, Bool, true, false, if◌then◌else◌, refl, sym, ap, ◌∙◌, arith, pos}
use Rattle.std.specs.Str.{bytes_eq}
use Rattle.std.proofs.lemmas.Bool.{cases_order}
use Rattle.std.proofs.lemmas.Bool.Decides.{not_from_Decides}
use Rattle.std.proofs.lemmas.Slice.Eq.{bytes_eq-Decides}
use Rattle.jiff_core.specs.Calendar.{days_from_civil}
use Rattle.jiff_core.proofs.SignedLemmas.{signed_arith}
use Rattle.jiff_core.proofs.CalendarLemmas.{days_in_month_bounds}
use Rattle.guild_model.specs.declared.moment.TheConstants.{END_OF_TIME}
use Rattle.moment_text.specs.Civil.{civil}
use Rattle.moment_text.specs.Text.{time_text}
use Rattle.moment_text.specs.Named.{two_at, year_at, milliseconds_at, moment_below, moment_of}
use Rattle.moment_text.proofs.Civils.{civil_date, civil_days}

-- the digits of a text are those of a moment's parts
pub record Names (text : List ℕ) (millis : ℕ) : Type 0 where
  pub size : length text ≡ 32
  pub year : year_at text ≡ (civil (millis / 86400000)).year
  pub month : two_at text 5 ≡ (civil (millis / 86400000)).month
  pub day : two_at text 8 ≡ (civil (millis / 86400000)).day
  pub hour : two_at text 11 ≡ millis / 1000 % 86400 / 3600
  pub minute : two_at text 14 ≡ millis / 1000 % 86400 / 60 % 60
  pub second : two_at text 17 ≡ millis / 1000 % 86400 % 60
  pub milliseconds : milliseconds_at text ≡ millis % 1000

pub names : (millis : ℕ) → millis < END_OF_TIME → Names (time_text millis) millis
unfolding time_text
names millis lt =
    let day = millis / 86400000 in
    let c = civil day in
    let date = civil_date day (omega arith) in
    let short = days_in_month_bounds (pos c.year) c.month in
    record {
      size = refl;
      year = omega (arith, signed_arith, date.0);
      month = omega (arith, date.1);
      day = omega (arith, date.1, short);
      hour = omega arith;
      minute = omega arith;
      second = omega arith;
      milliseconds = omega arith;
    }

same_day : (a b : ℕ) → (civil a).year ≡ (civil b).year → (civil a).month ≡ (civil b).month → (civil a).day ≡ (civil b).day → a ≡ b
same_day a b y m d =
    let same : days_from_civil (pos (civil a).year) (civil a).month (civil a).day ≡ days_from_civil (pos (civil b).year) (civil b).month (civil b).day = rw (y, m, d) refl in
    let days : pos a ≡ pos b = sym (civil_days a) ∙ same ∙ civil_days b in
    omega (arith, signed_arith)

pub time_text_injective : (a b : ℕ) → a < END_OF_TIME → b < END_OF_TIME → time_text a ≡ time_text b → a ≡ b
time_text_injective a b h k e =
    let first = names a h in
    let second : Names (time_text a) b = rw e (names b k) in
    let day : a / 86400000 ≡ b / 86400000 = same_day _ _ (sym first.year ∙ second.year) (sym first.month ∙ second.month) (sym first.day ∙ second.day) in
    let hour = sym first.hour ∙ second.hour in
    let minute = sym first.minute ∙ second.minute in
    let clock = sym first.second ∙ second.second in
    let fraction = sym first.milliseconds ∙ second.milliseconds in
    omega arith

-- the first test passes exactly at the moment itself
by_test : (b : Bool) (millis limit : ℕ) (text : List ℕ) → bytes_eq text (time_text limit) ≡ b → millis < suc limit → text ≡ time_text millis → ((k : ℕ) → k < suc limit → text ≡ time_text k → k ≡ millis)
    → (millis < limit → text ≡ time_text millis → ((k : ℕ) → k < limit → text ≡ time_text k → k ≡ millis) → moment_below limit text ≡ Some millis) → (if b then Some limit else moment_below limit text) ≡ Some millis
by_test true millis limit text t h e one rest = ap Some (one limit (omega arith) ((bytes_eq-Decides text (time_text limit)).0 t))
by_test false millis limit text t h e one rest =
    let differs = not_from_Decides _ (bytes_eq-Decides text (time_text limit)) t in
    let other : limit ≡ millis → ⊥ = λ same. differs (e ∙ ap time_text (sym same)) in
    elim (cases_order millis limit) [
      | inl same ↦ absurd (other (sym same))
      | inr (inl below) ↦ rest below e (λ k lt. one k (omega arith))
      | inr (inr above) ↦ absurd (omega arith)
    ]

none_by_test : (b : Bool) (limit : ℕ) (text : List ℕ) → bytes_eq text (time_text limit) ≡ b → (text ≡ time_text limit → ⊥) → moment_below limit text ≡ None → (if b then Some limit else moment_below limit text) ≡ None
none_by_test true limit text t none rest = absurd (none ((bytes_eq-Decides text (time_text limit)).0 t))
none_by_test false limit text t none rest = rest

pub found : (limit millis : ℕ) (text : List ℕ) → millis < limit → text ≡ time_text millis → ((k : ℕ) → k < limit → text ≡ time_text k → k ≡ millis) → moment_below limit text ≡ Some millis
unfolding moment_below
found zero millis text h e one = absurd (omega arith)
found (suc limit) millis text h e one = by_test _ millis limit text refl h e one (found limit millis text)

pub not_found : (limit : ℕ) (text : List ℕ) → ((k : ℕ) → k < limit → text ≡ time_text k → ⊥) → moment_below limit text ≡ None
unfolding moment_below
not_found zero text none = refl
not_found (suc limit) text none = none_by_test _ limit text refl (none limit (omega arith)) (not_found limit text (λ k lt. none k (omega arith)))

-- the text of a moment is read as that moment
pub moment_back : (millis : ℕ) → millis < END_OF_TIME → moment_of (time_text millis) ≡ Some millis
unfolding moment_of
moment_back millis h = found END_OF_TIME millis (time_text millis) h refl (λ k lt e. time_text_injective k millis lt h (sym e))
