-- The bytes of a cut: what is said of bytes by what is said of their offsets.
use Rattle.std.proofs.Common.{◌≡◌, ℕ, ◌+◌, ◌<◌, Bool, false, List, [], ◌∷◌, ◌++◌, length, drop, if◌then◌else◌, refl, ap, ◌∙◌, arith}
use Rattle.std.specs.Prelude.{codes}
use Rattle.py_tree.specs.Tree.{SuiteTree}
use Rattle.slice_text.specs.declared.gaps.Gap.{Gap}
use Rattle.slice_text.specs.Cut.{suite_gaps, is_in, is_filled, cut_from}

-- tests that agree on the offsets of the bytes give the same cut
pub same_cut : (goes goes' begins begins' : ℕ → Bool) (at : ℕ) (due bytes : List ℕ) → ((i : ℕ) → i < at + length bytes → goes i ≡ goes' i) → ((i : ℕ) → i < at + length bytes → begins i ≡ begins' i)
    → cut_from goes begins at due bytes ≡ cut_from goes' begins' at due bytes
same_cut goes goes' begins begins' at due [] g b = refl
same_cut goes goes' begins begins' at due (byte ∷ bytes) g b =
    let here : at < at + length (byte ∷ bytes) = omega arith in
    let next : (letters : List ℕ) → cut_from goes begins (at + 1) letters bytes ≡ cut_from goes' begins' (at + 1) letters bytes =
    λ letters. same_cut goes goes' begins begins' (at + 1) letters bytes (λ i within. g i (omega (arith, within))) (λ i within. b i (omega (arith, within))) in
    rw (g at here, b at here, next [], next (drop 1 (if begins' at then codes "pass" else due)))

-- the same where the tests are read off the gaps that a walk has put into an empty list
pub cut_by_gaps : (keep : ℕ → Bool) (body : SuiteTree) (goes begins : ℕ → Bool) (none gaps first second : List Gap) (text : List ℕ) → gaps ≡ none ++ suite_gaps keep false body → none ≡ [] → first ≡ gaps → second ≡ gaps
    → ((i : ℕ) → i < length text → goes i ≡ is_in first i) → ((i : ℕ) → i < length text → begins i ≡ is_filled second i)
    → cut_from goes begins 0 [] text ≡ cut_from (is_in (suite_gaps keep false body)) (is_filled (suite_gaps keep false body)) 0 [] text
cut_by_gaps keep body goes begins none gaps first second text are empty one two g b =
    let all : gaps ≡ suite_gaps keep false body = are ∙ ap (λ (l : List Gap). l ++ suite_gaps keep false body) empty in
    same_cut goes (is_in (suite_gaps keep false body)) begins (is_filled (suite_gaps keep false body)) 0 [] text
    (λ i within. g i (omega (arith, within)) ∙ ap (λ (l : List Gap). is_in l i) (one ∙ all)) (λ i within. b i (omega (arith, within)) ∙ ap (λ (l : List Gap). is_filled l i) (two ∙ all))
