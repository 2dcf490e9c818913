-- Numbers in columns, and the line of them.
use Rattle.std.proofs.Common.{◌≡◌, ℕ, zero, suc, ◌-◌, ◌^◌, false, List, [], ◌∷◌, ◌++◌, length, replicate, codes, Some, append_assoc, append-nil, refl, ap, arith}
use Rattle.std.specs.Fmt.{padded_integral, char_count, format_spec, styled_decimal, decimal}
use Rattle.std.specs.List.{repeat}
use Rattle.trial_list.specs.Lines.{right}
use Rattle.trial_history.specs.Stages.{line_of}

blanks : (n : ℕ) → repeat {A = ℕ} n (32 ∷ []) ≡ replicate n 32
blanks zero = refl
blanks (suc n) = ap (λ (xs : List ℕ). 32 ∷ xs) (blanks n)

filled : (padding width : ℕ) (xs : List ℕ) → padding ≡ width → (repeat {A = ℕ} padding (32 ∷ []) ++ [] ++ [] ++ []) ++ (xs ++ repeat {A = ℕ} (padding - padding) (32 ∷ [])) ≡ replicate width 32 ++ xs
filled padding width xs is =
    let none : padding - padding ≡ 0 = omega arith in
    rw (none, is, blanks width, append-nil, append-nil, append-nil, append-nil) refl

padded_right : (width : ℕ) (xs : List ℕ) → padded_integral (format_spec 32 3 0 width (2 ^ 64 - 1)) false [] xs ≡ right width xs
unfolding padded_integral char_count lib.Utf8.encode
padded_right width xs = filled (width - length xs - 0 - 0) (width - length xs) xs (omega arith)

grouped : (a b c d : List ℕ) → a ++ (codes " " ++ (b ++ (codes " " ++ (c ++ (codes " " ++ (d ++ 10 ∷ [])))))) ≡ a ++ codes " " ++ b ++ codes " " ++ c ++ codes " " ++ d ++ 10 ∷ []
grouped a b c d = simp append_assoc refl

pub columns_are : {F : Type 0} (styled : F → ℕ → List ℕ) (s seven : F) (number : ℕ) (parent mark path : List ℕ) → s ≡ seven → ((n : ℕ) → styled seven n ≡ right 7 (decimal n))
    → Some (styled s number ++ (codes " " ++ (parent ++ (codes " " ++ (mark ++ (codes " " ++ (path ++ 10 ∷ []))))))) ≡ Some (line_of number parent mark path)
columns_are styled s seven number parent mark path is sevens = rw (is, sevens number) (ap (λ (xs : List ℕ). Some xs) (grouped (right 7 (decimal number)) parent mark path))

pub seven_wide : (n : ℕ) → styled_decimal (format_spec 32 3 0 7 (2 ^ 64 - 1)) n ≡ right 7 (decimal n)
seven_wide n = padded_right 7 (decimal n)

pub number_is : {F : Type 0} (styled : F → ℕ → List ℕ) (s seven : F) (number : ℕ) → s ≡ seven → ((n : ℕ) → styled seven n ≡ right 7 (decimal n)) → Some (styled s number) ≡ Some (right 7 (decimal number))
number_is styled s seven number is sevens = rw (is, sevens number) refl
