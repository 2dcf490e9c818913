-- The text of an instant is that of what a clock in UTC shows.
use Rattle.std.proofs.Common.{◌≡◌, ℕ, suc, ◌+◌, ◌-◌, ◌*◌, ◌/◌, ◌%◌, ◌<◌, ◌≤◌, ℤ, pos, negsuc, ◌+ℤ◌, ◌-ℤ◌, ◌*ℤ◌, ◌<ℤ◌, ◌≤ℤ◌, unsigned_abs, List, [], ◌∷◌, ◌++◌, refl, sym, ap, subst, ◌∙◌, arith, rules, FitsSigned, w64}
use Rattle.std.specs.Int.{int_div_euclid}
use Rattle.std.proofs.lemmas.Int.{by_lt_z}
use Rattle.jiff.specs.Names.{iso_datetime_text}
use Rattle.jiff_core.specs.Calendar.{day_count, days_of_years, days_of_months, days_in_month, days_in_year, IsCivilDate}
use Rattle.jiff_core.specs.Date.{epoch_day}
use Rattle.jiff_core.specs.Time.{time_seconds, time_nanos}
use Rattle.jiff_core.specs.declared.civil.date.Date.{Date}
use Rattle.jiff_core.specs.declared.civil.time.Time.{Time}
use Rattle.jiff_core.specs.declared.civil.datetime.DateTime.{DateTime}
use Rattle.jiff_core.proofs.CalendarLemmas.{day_count-lt_year, days_from_civil-day_count, days_of_months-zero, days_of_months_more, day_of_year_bound}
use Rattle.jiff_core.proofs.DateLemmas.{civil}
use Rattle.jiff_core.proofs.DateTimeLemmas.{civil_nanos-parts, time_nanos_bound}
use Rattle.jiff_core.proofs.MarchLemmas.{day_count-early, day_count-late}
use Rattle.jiff_core.proofs.SignedLemmas.{signed_arith}
use Rattle.trial_list.specs.Dates.{year_of, month_of, seconds_of, two, four, date_text, clock_text, instant_text}
use Rattle.trial_list.specs.Stages.{IsSecondOf}
use Rattle.trial_list.proofs.Periods.{leads, Totals}

-- ---- the seconds of an instant

pub record HasSeconds (instant : ℤ) (shown : DateTime) : Type 0 where
  pub day : epoch_day shown.date +ℤ pos 135_140 ≡ pos (seconds_of instant / 86_400)
  pub of_day : time_seconds shown.time ≡ seconds_of instant % 86_400
  pub whole : shown.time.subsec_nanosecond ≡ 0

-- the second of an instant, as a number from 1600 on
abs_is : (z : ℤ) → pos 0 ≤ℤ z → pos (unsigned_abs z) ≡ z
abs_is (pos n) high = refl
abs_is (negsuc n) high = absurd (omega (arith, signed_arith, high))

sum_is : (instant : ℤ) → FitsSigned w64 instant → pos (unsigned_abs (instant +ℤ pos 11_676_096_000_000_000_000)) ≡ instant +ℤ pos 11_676_096_000_000_000_000
sum_is instant fits = abs_is (instant +ℤ pos 11_676_096_000_000_000_000) (omega (arith, signed_arith, fits))

from_1600 : (instant : ℤ) → FitsSigned w64 instant → int_div_euclid instant (pos 1_000_000_000) +ℤ pos 11_676_096_000 ≡ pos (seconds_of instant)
from_1600 instant fits = omega (arith, signed_arith, fits, sum_is instant fits)

parts : (days second : ℤ) (since nanos : ℕ) → days *ℤ pos 86_400_000_000_000 +ℤ pos nanos ≡ second *ℤ pos 1_000_000_000 → second +ℤ pos 11_676_096_000 ≡ pos since
    → nanos < 86_400_000_000_000
    → (days +ℤ pos 135_140 ≡ pos (since / 86_400)) × (nanos ≡ since % 86_400 * 1_000_000_000)
parts days second since nanos is from below = omega (arith, signed_arith, is, from, below)

pub has_seconds : (instant : ℤ) (shown : DateTime) → FitsSigned w64 instant → IsSecondOf instant shown → HasSeconds instant shown
has_seconds instant shown fits is =
    let both = parts (epoch_day shown.date) (int_div_euclid instant (pos 1_000_000_000)) (seconds_of instant) (time_nanos shown.time)
    (sym (civil_nanos-parts shown) ∙ is) (from_1600 instant fits) (time_nanos_bound shown.time) in
    record { day = both.0; of_day = omega (arith, both.1); whole = omega (arith, both.1) }

-- ---- the date

-- the date lies so many days behind 1600-01-01
day_from_1600 : (date : Date) (day : ℕ) → epoch_day date +ℤ pos 135_140 ≡ pos day → day_count date.year date.month date.day ≡ day_count (pos 1600) 1 1 + day
day_from_1600 date day is =
    let start : day_count (pos 1600) 1 1 ≡ 4_236_813 = day_count-early (pos 1600) 11599 1 1 refl (omega arith) (omega arith) (omega arith) in
    omega (arith, signed_arith, is, start, days_from_civil-day_count date.year date.month date.day)

-- its year is none before
not_before : (date : Date) (day : ℕ) → day_count date.year date.month date.day ≡ day_count (pos 1600) 1 1 + day → pos 1600 ≤ℤ date.year
not_before date day is =
    by_lt_z date.year (pos 1600) (λ lt. absurd (omega (arith, is, day_count-lt_year date.year date.month date.day (pos 1600) 1 1 (civil date) (omega arith) lt))) (λ ge. ge)

-- and none from 2300 on
not_later : (date : Date) (day : ℕ) → day < 255_670 → day_count date.year date.month date.day ≡ day_count (pos 1600) 1 1 + day → date.year <ℤ pos 2300
not_later date day few is =
    let start : day_count (pos 1600) 1 1 ≡ 4_236_813 = day_count-early (pos 1600) 11599 1 1 refl (omega arith) (omega arith) (omega arith) in
    let last : day_count (pos 2299) 12 31 ≡ 4_492_482 = day_count-late (pos 2299) 12299 12 31 refl (omega arith) (omega arith) (omega arith) in
    let is_date : IsCivilDate (pos 2299) 12 31 = search (rules, signed_arith, arith) in
    by_lt_z date.year (pos 2300) (λ lt. lt) (λ ge. absurd (omega (
      arith,
      is,
      start,
      last,
      few,
      day_count-lt_year (pos 2299) 12 31 date.year date.month date.day is_date date.day_in.0 (omega (arith, signed_arith, ge)),
    )))

-- the days since a year began
day_count_is : (n m d : ℕ) → day_count (pos n) m d ≡ days_of_years (n + 10000) + (days_of_months (pos n) (m - 1) + d - 1)
unfolding day_count
day_count_is n m d = refl

years_next : (x : ℕ) → days_of_years (suc x) ≡ days_of_years x + days_in_year (pos x -ℤ pos 10000)
unfolding days_of_years
years_next x = refl

years_total : Totals (λ (year : ℕ). days_in_year (pos year)) (λ (year : ℕ). days_of_years (year + 10000)) 1600
years_total = λ year low.
    let shift : suc year + 10000 ≡ suc (year + 10000) = omega arith in
    let back : pos (year + 10000) -ℤ pos 10000 ≡ pos year = omega (arith, signed_arith) in
    let next : days_of_years (suc (year + 10000)) ≡ days_of_years (year + 10000) + days_in_year (pos year) =
    subst (λ (z : ℤ). days_of_years (suc (year + 10000)) ≡ days_of_years (year + 10000) + days_in_year z) back (years_next (year + 10000)) in
    rw shift next

months_total : (year : ℤ) → Totals (days_in_month year) (λ (month : ℕ). days_of_months year (month - 1)) 1
months_total year = λ month low.
    let back : suc month - 1 ≡ month = omega arith in
    rw back (days_of_months_more year month low)

-- the days of the year that have passed
abbrev gone : ℕ → ℕ → ℕ → ℕ
gone n m d = days_of_months (pos n) (m - 1) + d - 1

year_is : (n m d day : ℕ) → IsCivilDate (pos n) m d → 1600 ≤ n → n < 2300 → day_count (pos n) m d ≡ day_count (pos 1600) 1 1 + day → year_of day ≡ (n, gone n m d)
year_is n m d day date low high is =
    let bound : days_of_months (pos n) (m - 1) + d ≤ days_in_year (pos n) = day_of_year_bound (pos n) m d date in
    let first : day_count (pos 1600) 1 1 ≡ days_of_years 11600 = day_count_is 1600 1 1 ∙ ap (λ (k : ℕ). days_of_years 11600 + (k + 1 - 1)) (days_of_months-zero (pos 1600)) ∙ omega arith in
    let steps : suc (n - 1600) + (2299 - n) ≡ 700 = omega (arith, low, high) in
    let place : n - 1600 + 1600 ≡ n = omega (arith, low) in
    let begun : 1 ≤ d = date.2.0 in
    let inside : gone n m d < days_in_year (pos (n - 1600 + 1600)) = rw place (omega (arith, bound, begun)) in
    let same : days_of_years (1600 + 10000) + day ≡ days_of_years (n - 1600 + 1600 + 10000) + gone n m d =
    rw place (sym (ap (λ (k : ℕ). k + day) first) ∙ (sym is ∙ day_count_is n m d)) in
    let led = leads (λ (year : ℕ). days_in_year (pos year)) (λ (year : ℕ). days_of_years (year + 10000)) (n - 1600) (2299 - n) 1600 (gone n m d) day years_total inside same in
    rw (steps, place) at led

month_is : (n m d : ℕ) → IsCivilDate (pos n) m d → month_of (n, gone n m d) ≡ (m, d - 1)
month_is n m d date =
    let first : days_of_months (pos n) 0 ≡ 0 = days_of_months-zero (pos n) in
    let low : 1 ≤ m = date.1.0 in
    let high : m ≤ 12 = date.1.1 in
    let begun : 1 ≤ d = date.2.0 in
    let ends : d ≤ days_in_month (pos n) m = date.2.1 in
    let steps : suc (m - 1) + (12 - m) ≡ 12 = omega (arith, low, high) in
    let place : m - 1 + 1 ≡ m = omega (arith, low) in
    let inside : d - 1 < days_in_month (pos n) (m - 1 + 1) = rw place (omega (arith, begun, ends)) in
    let same : days_of_months (pos n) (1 - 1) + gone n m d ≡ days_of_months (pos n) (m - 1 + 1 - 1) + (d - 1) = rw place (omega (arith, first, begun)) in
    let led = leads (days_in_month (pos n)) (λ (month : ℕ). days_of_months (pos n) (month - 1)) (m - 1) (12 - m) 1 (d - 1) (gone n m d) (months_total (pos n)) inside same in
    rw (steps, place) at led

-- ---- the text

hour_is : (t : Time) → time_seconds t / 3600 ≡ t.hour
hour_is t = omega arith

minute_is : (t : Time) → time_seconds t / 60 % 60 ≡ t.minute
minute_is t = omega arith

second_is : (t : Time) → time_seconds t % 60 ≡ t.second
second_is t = omega arith

date_text_is : (n m d day : ℕ) → IsCivilDate (pos n) m d → 1600 ≤ n → n < 2300 → day_count (pos n) m d ≡ day_count (pos 1600) 1 1 + day
    → date_text (year_of day) (month_of (year_of day)) ≡ four n ++ 45 ∷ two m ++ 45 ∷ two d
date_text_is n m d day date low high is =
    let year = year_is n m d day date low high is in
    let month = month_is n m d date in
    let begun : 1 ≤ d = date.2.0 in
    let back : d - 1 + 1 ≡ d = omega (arith, begun) in
    ap (λ (y : ℕ × ℕ). date_text y (month_of y)) year ∙ (ap (date_text (n, gone n m d)) month ∙ ap (λ (k : ℕ). four n ++ 45 ∷ two m ++ 45 ∷ two k) back)

clock_text_is : (t : Time) → clock_text (time_seconds t) ≡ two t.hour ++ 58 ∷ two t.minute ++ 58 ∷ two t.second
clock_text_is t = rw (hour_is t, minute_is t, second_is t) refl

shown_text : (n : ℕ) (shown : DateTime) → shown.date.year ≡ pos n → shown.time.subsec_nanosecond ≡ 0
    → iso_datetime_text shown ≡ (four n ++ 45 ∷ two shown.date.month ++ 45 ∷ two shown.date.day) ++ 84 ∷ two shown.time.hour ++ 58 ∷ two shown.time.minute ++ 58 ∷ two shown.time.second
shown_text n shown year whole = rw (year, whole) refl

few_days : (instant : ℤ) → FitsSigned w64 instant → seconds_of instant / 86_400 < 255_670
few_days instant fits = omega (arith, signed_arith, fits, sum_is instant fits)

pub written : (instant : ℤ) (shown : DateTime) → FitsSigned w64 instant → IsSecondOf instant shown → iso_datetime_text shown ++ 90 ∷ [] ≡ instant_text instant
written instant shown fits is =
    let seconds = has_seconds instant shown fits is in
    let day : ℕ = seconds_of instant / 86_400 in
    let n : ℕ = unsigned_abs shown.date.year in
    let counted = day_from_1600 shown.date day seconds.day in
    let low : pos 1600 ≤ℤ shown.date.year = not_before shown.date day counted in
    let high : shown.date.year <ℤ pos 2300 = not_later shown.date day (few_days instant fits) counted in
    let year : pos n ≡ shown.date.year = abs_is shown.date.year (omega (arith, signed_arith, low)) in
    let date : IsCivilDate (pos n) shown.date.month shown.date.day = subst (λ (y : ℤ). IsCivilDate y shown.date.month shown.date.day) (sym year) (civil shown.date) in
    let counted' : day_count (pos n) shown.date.month shown.date.day ≡ day_count (pos 1600) 1 1 + day =
    subst (λ (y : ℤ). day_count y shown.date.month shown.date.day ≡ day_count (pos 1600) 1 1 + day) (sym year) counted in
    let dated = date_text_is n shown.date.month shown.date.day day date (omega (arith, signed_arith, low, year)) (omega (arith, signed_arith, high, year)) counted' in
    let clock = ap clock_text (sym seconds.of_day) ∙ clock_text_is shown.time in
    ap (λ (xs : List ℕ). xs ++ 90 ∷ []) (shown_text n shown (sym year) seconds.whole)
    ∙ sym (ap (λ (xs : List ℕ). xs ++ 84 ∷ clock_text (seconds_of instant % 86_400) ++ 90 ∷ []) dated
    ∙ ap (λ (xs : List ℕ). (four n ++ 45 ∷ two shown.date.month ++ 45 ∷ two shown.date.day) ++ 84 ∷ xs ++ 90 ∷ []) clock)
