-- The numbers of a range, one after another.
use Rattle.std.proofs.Common.{◌≡◌, append-nil, refl, sym, ap, ◌∙◌, arith, ℕ, zero, suc, ◌+◌, ◌-◌, ◌/◌, ◌<◌, ◌≤◌, ◌⊎◌, inl, inr, ℤ, pos, negsuc, ◌+ℤ◌, ◌-ℤ◌, ◌≤ℤ◌, w64, FitsSigned, List, [], ◌∷◌, ◌++◌}
use Rattle.std.specs.Int.{saturate_signed}
use Rattle.std.proofs.lemmas.Int.{ints}
use Rattle.std.proofs.lemmas.List.{map_push, append_assoc}
use Rattle.std.proofs.Math.Nat.{div-eq-sub-div, div-eq_of_lt}
use Rattle.py_model.specs.Numbers.{range_count}
use Rattle.py_model.specs.Walks.{numbers_from}
use Rattle.py_value.specs.Contents.{Contents, contents, int}
use Rattle.py_value.specs.Values.{ValuesView}
use Rattle.py_value.specs.declared.value.Value.{Value}
use Rattle.py_value.specs.declared.value.Value.TheVariants.{Int}
use Rattle.op_lists.specs.ValuesSeen.{values_seen}

-- how many steps a distance has
abbrev steps : ℤ → ℕ → ℕ
steps (pos zero) by = 0
steps (pos (suc far)) by = suc (far / suc by)
steps (negsuc far) by = 0

up_is : (start end : ℤ) (by : ℕ) → range_count start end (pos (suc by)) ≡ steps (end -ℤ start) by
up_is start end by = refl

down_is : (start end : ℤ) (by : ℕ) → range_count start end (negsuc by) ≡ steps (start -ℤ end) by
down_is start end by = refl

none : (far : ℤ) (by : ℕ) → far ≤ℤ pos 0 → steps far by ≡ 0
none (pos zero) by low = refl
none (pos (suc far)) by low = absurd (omega (arith, ints, low))
none (negsuc far) by low = refl

order : (a b : ℕ) → (a < b) ⊎ (b ≤ a)
order zero zero = inr (omega (arith))
order zero (suc b) = inl (omega (arith))
order (suc a) zero = inr (omega (arith))
order (suc a) (suc b) = next (order a b)
  where
    next : (a < b) ⊎ (b ≤ a) → (suc a < suc b) ⊎ (suc b ≤ suc a)
    next (inl less) = inl (omega (arith, less))
    next (inr more) = inr (omega (arith, more))

-- a distance that is one step less has one step less
one_less : (far rest : ℤ) (by m : ℕ) → steps far by ≡ suc m → rest ≡ far -ℤ pos (suc by) → steps rest by ≡ m
one_less (pos zero) rest by m count is = absurd (omega (arith, count))
one_less (negsuc far) rest by m count is = absurd (omega (arith, count))
one_less (pos (suc far)) rest by m count is = by_order (order far (suc by))
  where
    exact : suc by ≤ far → rest ≡ pos (suc (far - suc by))
    exact more = omega (arith, ints, is, more)

    by_order : (far < suc by) ⊎ (suc by ≤ far) → steps rest by ≡ m
    by_order (inl less) = none rest by (omega (arith, ints, is, less)) ∙ omega (arith, count, div-eq_of_lt less)
    by_order (inr more) = ap (λ d. steps d by) (exact more) ∙ omega (arith, count, div-eq-sub-div (positive by) more)
      where
        positive : (n : ℕ) → zero < suc n
        positive n = omega (arith)

abbrev top : ℕ
top = 9223372036854775807

cut : (z : ℤ) → (saturate_signed w64 z ≡ z) ⊎ (((saturate_signed w64 z ≡ pos top) × (pos top ≤ℤ z)) ⊎ ((saturate_signed w64 z ≡ negsuc top) × (z ≤ℤ negsuc top)))
cut z = grind (arith, ints)

within : (z : ℤ) → FitsSigned w64 z → (negsuc top ≤ℤ z) × (z ≤ℤ pos top)
within z fits = (omega (arith, ints, fits), omega (arith, ints, fits))

no_more : (m : ℕ) (one other step : ℤ) → m ≡ 0 → numbers_from m one step ≡ numbers_from m other step
no_more m one other step is = ap (λ n. numbers_from n one step) is ∙ sym (ap (λ n. numbers_from n other step) is)

-- The range behind its next number. A sum that is cut off stands behind the last.
pub next_number : (number next end step : ℤ) (m : ℕ) → FitsSigned w64 number → FitsSigned w64 end → range_count number end step ≡ suc m
    → next ≡ saturate_signed w64 (number +ℤ step) → (range_count next end step ≡ m) × (numbers_from m next step ≡ numbers_from m (number +ℤ step) step)
next_number number next end (pos zero) m fits end_fits count is = absurd (omega (arith, count))
next_number number next end (pos (suc by)) m fits end_fits count is = by_cut (cut (number +ℤ pos (suc by)))
  where
    by_cut : (saturate_signed w64 (number +ℤ pos (suc by)) ≡ number +ℤ pos (suc by)) ⊎ (((saturate_signed w64 (number +ℤ pos (suc by)) ≡ pos top) × (pos top ≤ℤ (number +ℤ pos (suc by)))) ⊎ ((saturate_signed w64 (number +ℤ pos (suc by)) ≡ negsuc top) × ((number +ℤ pos (suc by)) ≤ℤ negsuc top)))
        → (range_count next end (pos (suc by)) ≡ m) × (numbers_from m next (pos (suc by)) ≡ numbers_from m (number +ℤ pos (suc by)) (pos (suc by)))
    by_cut (inl same) = (one_less (end -ℤ number) (end -ℤ next) by m count (omega (arith, ints, is, same)), ap (λ (n : ℤ). numbers_from m n (pos (suc by))) (is ∙ same))
    by_cut (inr (inl high)) =
        let last : m ≡ 0 = sym (one_less (end -ℤ number) (end -ℤ (number +ℤ pos (suc by))) by m count (omega (arith, ints)))
        ∙ none (end -ℤ (number +ℤ pos (suc by))) by (omega (arith, ints, high.1, (within end end_fits).1)) in
        (none (end -ℤ next) by (omega (arith, ints, is, high.0, (within end end_fits).1)) ∙ sym last, no_more m next (number +ℤ pos (suc by)) (pos (suc by)) last)
    by_cut (inr (inr low)) = absurd (omega (arith, ints, low.1, (within number fits).0))
next_number number next end (negsuc by) m fits end_fits count is = by_cut (cut (number +ℤ negsuc by))
  where
    by_cut : (saturate_signed w64 (number +ℤ negsuc by) ≡ number +ℤ negsuc by) ⊎ (((saturate_signed w64 (number +ℤ negsuc by) ≡ pos top) × (pos top ≤ℤ (number +ℤ negsuc by))) ⊎ ((saturate_signed w64 (number +ℤ negsuc by) ≡ negsuc top) × ((number +ℤ negsuc by) ≤ℤ negsuc top)))
        → (range_count next end (negsuc by) ≡ m) × (numbers_from m next (negsuc by) ≡ numbers_from m (number +ℤ negsuc by) (negsuc by))
    by_cut (inl same) = (one_less (number -ℤ end) (next -ℤ end) by m count (omega (arith, ints, is, same)), ap (λ (n : ℤ). numbers_from m n (negsuc by)) (is ∙ same))
    by_cut (inr (inl high)) = absurd (omega (arith, ints, high.1, (within number fits).1))
    by_cut (inr (inr low)) =
        let last : m ≡ 0 = sym (one_less (number -ℤ end) ((number +ℤ negsuc by) -ℤ end) by m count (omega (arith, ints)))
        ∙ none ((number +ℤ negsuc by) -ℤ end) by (omega (arith, ints, low.1, (within end end_fits).0)) in
        (none (next -ℤ end) by (omega (arith, ints, is, low.0, (within end end_fits).0)) ∙ sym last, no_more m next (number +ℤ negsuc by) (negsuc by) last)

-- one number more was taken
pub taken : (table : ValuesView) (items new : List Value) (number next step : ℤ) (n i m : ℕ) (all : List Contents) → new ≡ items ++ Int number ∷ [] → n - i ≡ suc m
    → numbers_from m next step ≡ numbers_from m (number +ℤ step) step
    → values_seen table items ++ numbers_from (n - i) number step ≡ all → values_seen table new ++ numbers_from (n - (i + 1)) next step ≡ all
taken table items new number next step n i m all is left same before =
    ap (λ vs. values_seen table vs ++ numbers_from (n - (i + 1)) next step) is
    ∙ (ap (λ seen. seen ++ numbers_from (n - (i + 1)) next step) (map_push (contents table) items (Int number))
    ∙ (append_assoc (values_seen table items) (int number ∷ []) (numbers_from (n - (i + 1)) next step)
    ∙ (ap (λ k. values_seen table items ++ (int number ∷ numbers_from k next step)) (fewer left)
    ∙ (ap (λ rest. values_seen table items ++ (int number ∷ rest)) same
    ∙ (ap (λ k. values_seen table items ++ numbers_from k number step) (sym left) ∙ before)))))
  where
    fewer : n - i ≡ suc m → n - (i + 1) ≡ m
    fewer left = omega (arith, left)

-- no number is left
pub all_taken : (seen : List Contents) (number step : ℤ) (n i : ℕ) (all : List Contents) → n ≤ i → seen ++ numbers_from (n - i) number step ≡ all → seen ≡ all
all_taken seen number step n i all past is = sym (append-nil seen) ∙ (ap (λ k. seen ++ numbers_from k number step) (sym (gone n i past)) ∙ is)
  where
    gone : (n i : ℕ) → n ≤ i → n - i ≡ 0
    gone n i past = omega (arith, past)

-- what is said of three numbers holds of equal ones
pub of_three : {X : Type 0} (f : ℤ → ℤ → ℤ → X) {a b d x y z : ℤ} → a ≡ x → b ≡ y → d ≡ z → f a b d ≡ f x y z
of_three f {a} {b} {d} {x} {y} {z} one two three = ap (λ (n : ℤ). f n b d) one ∙ (ap (λ (n : ℤ). f x n d) two ∙ ap (λ (n : ℤ). f x y n) three)
