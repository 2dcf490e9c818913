-- Whether two numbers are the same.
use Rattle.std.proofs.Common.{◌≡◌, refl, sym, ap, ap₂, ◌∙◌, true≢false, ℕ, ℤ, Bool, true, false, Decides}
use Rattle.std.specs.Ordering.{int_eq}
use Rattle.py_model.specs.Numbers.{range_count}
use Rattle.op_compare.specs.Comparisons.{same_tests}
use Rattle.std.proofs.lemmas.Bool.Decides.{Decides-int_eq}

is_no : (b : Bool) (i j : ℤ) → Decides b (i ≡ j) → (i ≡ j → ⊥) → false ≡ b
is_no true i j decides apart = absurd (apart (decides.0 refl))
is_no false i j decides apart = refl

is_yes : (b : Bool) (i j : ℤ) → Decides b (i ≡ j) → i ≡ j → true ≡ b
is_yes true i j decides is = refl
is_yes false i j decides is = absurd (true≢false (sym (decides.1 is)))

pub apart : (i j : ℤ) → (i ≡ j → ⊥) → false ≡ int_eq i j
apart i j not = is_no (int_eq i j) i j (Decides-int_eq i j) not

pub same : (i j : ℤ) → i ≡ j → true ≡ int_eq i j
same i j is = is_yes (int_eq i j) i j (Decides-int_eq i j) is

pub counts_same : {a b c d e f : ℤ} → a ≡ d → b ≡ e → c ≡ f → range_count a b c ≡ range_count d e f
counts_same {a} {b} {c} {d} {e} {f} one two three = ap₂ (λ x y. range_count x y c) one two ∙ ap (range_count d e) three

pub tests_same : {m n k l : ℕ} {p q r s : Bool} → m ≡ k → n ≡ l → p ≡ r → q ≡ s → same_tests m n p q ≡ same_tests k l r s
tests_same {m} {n} {k} {l} {p} {q} {r} {s} one two three four = ap₂ (λ x y. same_tests x y p q) one two ∙ ap₂ (same_tests k l) three four
