-- The date and time of an instant in UTC, as it is written (the Gregorian calendar; ISO 8601 for the form).
use Rattle.std.specs.Prelude.{ℕ, zero, suc, ◌+◌, ◌-◌, ◌/◌, ◌%◌, nat_lt, if◌then◌else◌, ℤ, pos, ◌+ℤ◌, unsigned_abs, List, [], ◌∷◌, ◌++◌}
use Rattle.jiff_core.specs.Calendar.{days_in_year, days_in_month}

-- Periods follow one another, each with its own length in days, and so many days have passed since the first day of the period `first`. This is the period
-- in which the day lies, and how many of its days have passed, where at most so many periods are gone through.
unfoldable pub passed : (ℕ → ℕ) → ℕ → ℕ → ℕ → ℕ × ℕ
passed days_in zero first days = (first, days)
passed days_in (suc more) first days =
    if nat_lt days (days_in first) then (first, days)
    else passed days_in more (suc first) (days - days_in first)

-- the year in which a day lies, counted from 1600-01-01, and how many days of the year have passed: for the 700 years up to 2299
abbrev pub year_of : ℕ → ℕ × ℕ
year_of day = passed (λ year. days_in_year (pos year)) 700 1600 day

-- the month of a year, from 1, and how many of its days have passed
abbrev pub month_of : ℕ × ℕ → ℕ × ℕ
month_of (year, days) = passed (days_in_month (pos year)) 12 1 days

-- The seconds since 1600 began of an instant, which is given in nanoseconds since 1970 began, rounded down. The years between have 135,140 days of 86,400
-- seconds, so that an instant from 1600 on has a natural number.
abbrev pub seconds_of : ℤ → ℕ
seconds_of instant = unsigned_abs (instant +ℤ pos 11_676_096_000_000_000_000) / 1_000_000_000

-- a number below 100 in two digits, and one below 10,000 in four
abbrev pub two : ℕ → List ℕ
two n = (48 + n / 10) ∷ (48 + n % 10) ∷ []

abbrev pub four : ℕ → List ℕ
four n = two (n / 100) ++ two (n % 100)

-- `2000-02-29`, of a year and its month, each with what has passed of it
abbrev pub date_text : ℕ × ℕ → ℕ × ℕ → List ℕ
date_text (year, gone) (month, days) = four year ++ 45 ∷ two month ++ 45 ∷ two (days + 1)

-- `23:59:59`, of the seconds of a day that have passed
abbrev pub clock_text : ℕ → List ℕ
clock_text seconds = two (seconds / 3600) ++ 58 ∷ two (seconds / 60 % 60) ++ 58 ∷ two (seconds % 60)

-- `2000-02-29T23:59:59Z`
abbrev pub instant_text : ℤ → List ℕ
instant_text instant =
    let seconds = seconds_of instant in
    let year = year_of (seconds / 86_400) in
    date_text year (month_of year) ++ 84 ∷ clock_text (seconds % 86_400) ++ 90 ∷ []
