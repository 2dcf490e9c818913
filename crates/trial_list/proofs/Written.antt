-- Lines that were written so far.
use Rattle.std.proofs.Common.{◌≡◌, ℕ, zero, suc, ◌+◌, ◌<◌, ◌≤◌, List, [], ◌∷◌, ◌++◌, length, drop, get_or, append_assoc, append-nil, refl, sym, ap, ◌∙◌, arith}
use Rattle.std.proofs.lemmas.List.{drop_all}
use Rattle.keeper.specs.declared.records.Head.{Head}
use Rattle.trial_list.specs.Lines.{lines_from, list_line, list_bytes}

next : (heads : List Head) (i number : ℕ) (head other : Head) → i < length heads → head ≡ get_or heads i other
    → lines_from number (drop i heads) ≡ list_line number head ++ lines_from (suc number) (drop (suc i) heads)
unfolding lines_from
next [] i number head other there is = absurd (omega (arith, there))
next (x ∷ xs) zero number head other there is = ap (λ (y : Head). list_line number y ++ lines_from (suc number) xs) (sym is)
next (x ∷ xs) (suc i) number head other there is = next xs i number head other (omega (arith, there)) is

pub one_more : (out new given : List ℕ) (heads : List Head) (i : ℕ) (head : Head) → i < length heads → head ≡ get_or heads i head → new ≡ out ++ list_line (i + 1) head
    → out ++ lines_from (i + 1) (drop i heads) ≡ given ++ list_bytes heads → new ++ lines_from (i + 1 + 1) (drop (i + 1) heads) ≡ given ++ list_bytes heads
one_more out new given heads i head there is wrote so_far =
    let step : suc i ≡ i + 1 = omega arith in
    let step' : suc (i + 1) ≡ i + 1 + 1 = omega arith in
    let here : lines_from (i + 1) (drop i heads) ≡ list_line (i + 1) head ++ lines_from (i + 1 + 1) (drop (i + 1) heads) = rw (step', step) at (next heads i (i + 1) head head there is) in
    ap (λ (xs : List ℕ). xs ++ lines_from (i + 1 + 1) (drop (i + 1) heads)) wrote
    ∙ (append_assoc out (list_line (i + 1) head) (lines_from (i + 1 + 1) (drop (i + 1) heads)) ∙ (ap (λ (xs : List ℕ). out ++ xs) (sym here) ∙ so_far))

none_left : (number : ℕ) (heads : List Head) → heads ≡ [] → lines_from number heads ≡ []
unfolding lines_from
none_left number heads is = rw is refl

pub all_written : (out given : List ℕ) (heads : List Head) (i : ℕ) → length heads ≤ i → out ++ lines_from (i + 1) (drop i heads) ≡ given ++ list_bytes heads → out ≡ given ++ list_bytes heads
all_written out given heads i high so_far =
    let none : lines_from (i + 1) (drop i heads) ≡ [] = none_left (i + 1) (drop i heads) (drop_all i heads high) in
    sym (append-nil out) ∙ (ap (λ (xs : List ℕ). out ++ xs) (sym none) ∙ so_far)
