-- Where so many days lead.
use Rattle.std.proofs.Common.{◌≡◌, ℕ, zero, suc, ◌+◌, ◌-◌, ◌<◌, ◌≤◌, true, false, nat_lt, refl, subst, ◌∙◌, arith}
use Rattle.std.proofs.lemmas.Bool.Decides.{nat_tests}
use Rattle.trial_list.specs.Dates.{passed}

-- a running total of the lengths
abbrev pub Totals : (ℕ → ℕ) → (ℕ → ℕ) → ℕ → Type 0
Totals days_in total first = (period : ℕ) → first ≤ period → total (suc period) ≡ total period + days_in period

rises : (days_in total : ℕ → ℕ) (k first : ℕ) → Totals days_in total first → total first ≤ total (k + first)
rises days_in total zero first totals = let same : 0 + first ≡ first = omega arith in rw same (omega arith)
rises days_in total (suc k) first totals =
    let next : total (suc (k + first)) ≡ total (k + first) + days_in (k + first) = totals (k + first) (omega arith) in
    let shift : suc k + first ≡ suc (k + first) = omega arith in
    let more : total first ≤ total (suc (k + first)) = omega (arith, next, rises days_in total k first totals) in
    rw shift more

within : (days_in : ℕ → ℕ) (more first days : ℕ) → days < days_in first → passed days_in (suc more) first days ≡ (first, days)
unfolding passed
within days_in more first days inside = let is : nat_lt days (days_in first) ≡ true = grind (arith, nat_tests) in rw is refl

beyond : (days_in : ℕ → ℕ) (more first days : ℕ) → days_in first ≤ days → passed days_in (suc more) first days ≡ passed days_in more (suc first) (days - days_in first)
unfolding passed
beyond days_in more first days outside = let is : nat_lt days (days_in first) ≡ false = grind (arith, nat_tests) in rw is refl

-- the days lead to the period behind so many others
pub leads : (days_in total : ℕ → ℕ) (k more first rest days : ℕ) → Totals days_in total first → rest < days_in (k + first)
    → total first + days ≡ total (k + first) + rest → passed days_in (suc k + more) first days ≡ (k + first, rest)
leads days_in total zero more first rest days totals inside is =
    let same : 0 + first ≡ first = omega arith in
    let all : days ≡ rest = let here : total first + days ≡ total first + rest = subst (λ (n : ℕ). total first + days ≡ total n + rest) same is in omega (arith, here) in
    let inside' : rest < days_in first = subst (λ (n : ℕ). rest < days_in n) same inside in
    let more' : suc zero + more ≡ suc more = omega arith in
    rw (more', all, same) (within days_in more first rest inside')
leads days_in total (suc k) more first rest days totals inside is =
    let next : total (suc first) ≡ total first + days_in first = totals first (omega arith) in
    let later : Totals days_in total (suc first) = λ period low. totals period (omega (arith, low)) in
    let shift : suc k + first ≡ k + suc first = omega arith in
    let is' : total first + days ≡ total (k + suc first) + rest = subst (λ (n : ℕ). total first + days ≡ total n + rest) shift is in
    let inside' : rest < days_in (k + suc first) = subst (λ (n : ℕ). rest < days_in n) shift inside in
    let grows : total (suc first) ≤ total (k + suc first) = rises days_in total k (suc first) later in
    let outside : days_in first ≤ days = omega (arith, next, is', grows) in
    let left : total (suc first) + (days - days_in first) ≡ total (k + suc first) + rest = omega (arith, next, is', outside) in
    let steps : suc (suc k) + more ≡ suc (suc k + more) = omega arith in
    rw (steps, shift) (beyond days_in (suc k + more) first days outside ∙ leads days_in total k more (suc first) rest (days - days_in first) later inside' left)
