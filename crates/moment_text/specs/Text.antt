-- Moments as text (API Reference, ISO8601 Date/Time).
use Rattle.std.specs.Prelude.{ℕ, ◌+◌, ◌/◌, ◌%◌, List, [], ◌∷◌, ◌++◌, codes}
use Rattle.moment_text.specs.declared.civil.Civil.{Civil}
use Rattle.moment_text.specs.Civil.{civil}

-- decimal digits, with zeros before the number
abbrev pub two : ℕ → List ℕ
two n = (48 + n / 10) ∷ (48 + n % 10) ∷ []

abbrev pub three : ℕ → List ℕ
three n = (48 + n / 100) ∷ two (n % 100)

abbrev pub four : ℕ → List ℕ
four n = two (n / 100) ++ two (n % 100)

-- `2015-01-01`
abbrev pub date_text : Civil → List ℕ
date_text c = four c.year ++ (codes "-" ++ (two c.month ++ (codes "-" ++ two c.day)))

-- `23:59:59`, of the seconds of a day
abbrev pub clock_text : ℕ → List ℕ
clock_text second = two (second / 3600) ++ (codes ":" ++ (two (second / 60 % 60) ++ (codes ":" ++ two (second % 60))))

-- `2015-01-01T00:00:00.000000+00:00`, of the milliseconds since 1970
unfoldable pub time_text : ℕ → List ℕ
time_text millis =
    date_text (civil (millis / 86400000)) ++ (codes "T" ++ (clock_text (millis / 1000 % 86400)
    ++ (codes "." ++ (three (millis % 1000) ++ codes "000+00:00"))))
