-- Which of two texts comes first, byte by byte.
use Rattle.std.proofs.Common.{◌≡◌, refl, sym, ◌∙◌, arith, ℕ, zero, suc, ◌<◌, ◌≤◌, ◌⊎◌, inl, inr, length, Bool, true, false, nat_lt, if◌then◌else◌, List, [], ◌∷◌, drop, slice_index}
use Rattle.py_model.specs.Texts.{is_before}
use Rattle.op_compare.proofs.Lengths.{lt_yes, lt_no, lt_suc}

abbrev next : ℕ → ℕ → Bool → Bool
next a b rest = if nat_lt a b then true else if nat_lt b a then false else rest

pub behind_is : (one other : List ℕ) (i : ℕ) → i < length one → i < length other
    → is_before (drop i one) (drop i other) ≡ next (slice_index one i) (slice_index other i) (is_before (drop (suc i) one) (drop (suc i) other))
behind_is [] other i less more = absurd (omega (arith, less))
behind_is (a ∷ one) [] i less more = absurd (omega (arith, more))
behind_is (a ∷ one) (b ∷ other) zero less more = refl
behind_is (a ∷ one) (b ∷ other) (suc i) less more = behind_is one other i (omega (arith, less)) (omega (arith, more))

pub end_is : (one other : List ℕ) (i : ℕ) → i ≤ length one → i ≤ length other → (length one ≤ i) ⊎ (length other ≤ i) → is_before (drop i one) (drop i other) ≡ nat_lt (length one) (length other)
end_is [] [] zero less more end = refl
end_is [] (b ∷ other) zero less more end = sym (lt_yes 0 (suc (length other)) (omega (arith)))
end_is (a ∷ one) [] zero less more end = sym (lt_no (suc (length one)) 0 (omega (arith)))
end_is (a ∷ one) (b ∷ other) zero less more (inl end) = absurd (omega (arith, end))
end_is (a ∷ one) (b ∷ other) zero less more (inr end) = absurd (omega (arith, end))
end_is [] other (suc i) less more end = absurd (omega (arith, less))
end_is (a ∷ one) [] (suc i) less more end = absurd (omega (arith, more))
end_is (a ∷ one) (b ∷ other) (suc i) less more (inl end) = end_is one other i (omega (arith, less)) (omega (arith, more)) (inl (omega (arith, end))) ∙ lt_suc (length one) (length other)
end_is (a ∷ one) (b ∷ other) (suc i) less more (inr end) = end_is one other i (omega (arith, less)) (omega (arith, more)) (inr (omega (arith, end))) ∙ lt_suc (length one) (length other)

pub end_on : {m n end i : ℕ} → (m ≤ end) ⊎ (n ≤ end) → end ≤ i → (m ≤ i) ⊎ (n ≤ i)
end_on (inl less) past = inl (omega (arith, less, past))
end_on (inr less) past = inr (omega (arith, less, past))
