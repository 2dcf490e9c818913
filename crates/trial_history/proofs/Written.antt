-- Lines that were written so far.
use Rattle.std.proofs.Common.{◌≡◌, ℕ, zero, suc, ◌+◌, ◌<◌, ◌≤◌, List, [], ◌∷◌, ◌++◌, length, drop, get_or, Bool, append_assoc, append-nil, refl, sym, ap, ◌∙◌, arith}
use Rattle.std.proofs.lemmas.List.{drop_all}
use Rattle.keeper.specs.declared.records.Head.{Head}
use Rattle.trial_history.specs.History.{history_line, lines_from}

next : (heads : List Head) (marks : List Bool) (i number : ℕ) (head other : Head) (marked another : Bool) → i < length heads → i < length marks → head ≡ get_or heads i other → marked ≡ get_or marks i another
    → lines_from number (drop i heads) (drop i marks) ≡ history_line number head marked ++ lines_from (suc number) (drop (suc i) heads) (drop (suc i) marks)
unfolding lines_from
next [] marks i number head other marked another there here is mark = absurd (omega (arith, there))
next (x ∷ xs) [] i number head other marked another there here is mark = absurd (omega (arith, here))
next (x ∷ xs) (m ∷ ms) zero number head other marked another there here is mark =
    ap (λ (y : Head). history_line number y m ++ lines_from (suc number) xs ms) (sym is) ∙ ap (λ (b : Bool). history_line number head b ++ lines_from (suc number) xs ms) (sym mark)
next (x ∷ xs) (m ∷ ms) (suc i) number head other marked another there here is mark = next xs ms i number head other marked another (omega (arith, there)) (omega (arith, here)) is mark

pub one_more : (out new given : List ℕ) (heads : List Head) (marks : List Bool) (i : ℕ) (head : Head) (marked another : Bool) → i < length heads → length marks ≡ length heads → head ≡ get_or heads i head → marked ≡ get_or marks i another
    → new ≡ out ++ history_line (i + 1) head marked → out ++ lines_from (i + 1) (drop i heads) (drop i marks) ≡ given ++ lines_from 1 heads marks
    → new ++ lines_from (i + 1 + 1) (drop (i + 1) heads) (drop (i + 1) marks) ≡ given ++ lines_from 1 heads marks
one_more out new given heads marks i head marked another there even is mark wrote so_far =
    let step : suc i ≡ i + 1 = omega arith in
    let step' : suc (i + 1) ≡ i + 1 + 1 = omega arith in
    let here : lines_from (i + 1) (drop i heads) (drop i marks) ≡ history_line (i + 1) head marked ++ lines_from (i + 1 + 1) (drop (i + 1) heads) (drop (i + 1) marks) =
    rw (step', step) at (next heads marks i (i + 1) head head marked another there (omega (arith, there, even)) is mark) in
    ap (λ (xs : List ℕ). xs ++ lines_from (i + 1 + 1) (drop (i + 1) heads) (drop (i + 1) marks)) wrote
    ∙ (append_assoc out (history_line (i + 1) head marked) (lines_from (i + 1 + 1) (drop (i + 1) heads) (drop (i + 1) marks)) ∙ (ap (λ (xs : List ℕ). out ++ xs) (sym here) ∙ so_far))

none_left : (number : ℕ) (heads : List Head) (marks : List Bool) → heads ≡ [] → lines_from number heads marks ≡ []
unfolding lines_from
none_left number heads marks is = rw is refl

pub all_written : (out given : List ℕ) (heads : List Head) (marks : List Bool) (i : ℕ) → length heads ≤ i → out ++ lines_from (i + 1) (drop i heads) (drop i marks) ≡ given ++ lines_from 1 heads marks
    → out ≡ given ++ lines_from 1 heads marks
all_written out given heads marks i high so_far =
    let none : lines_from (i + 1) (drop i heads) (drop i marks) ≡ [] = none_left (i + 1) (drop i heads) (drop i marks) (drop_all i heads high) in
    sym (append-nil out) ∙ (ap (λ (xs : List ℕ). out ++ xs) (sym none) ∙ so_far)
