-- What is replaced, and the operands of `replace`.
use Rattle.std.proofs.Common.{◌≡◌, refl, arith, ℕ, suc, ◌==◌, true, false, List, [], ◌∷◌, length, map, slice_index_or}
use Rattle.std.proofs.lemmas.Bool.{eqb-true}
use Rattle.py_model.specs.Faults.{not_there, wrong_number}
use Rattle.py_model.specs.Operands.{with_text, gives_text}
use Rattle.py_model.specs.Plan.{Plan}
use Rattle.py_model.specs.TextMethods.{searched, replaced, replace_plan}
use Rattle.py_model.specs.Texts.{joined_by, pieces}
use Rattle.py_value.specs.Contents.{Contents}
use Rattle.py_value.specs.Values.{ValuesView, IsNamed, AreNamed}
use Rattle.py_value.specs.declared.value.Value.{Value}

pub replaced_some : (bytes sought other : List ℕ) → (length sought == 0) ≡ false → replaced bytes sought other ≡ searched bytes (gives_text (joined_by other (pieces sought bytes)))
replaced_some bytes [] other is = cc
replaced_some bytes (byte ∷ more) other is = refl

pub replaced_none : (bytes sought other : List ℕ) → (length sought == 0) ≡ true → replaced bytes sought other ≡ not_there
replaced_none bytes [] other is = refl
replaced_none bytes (byte ∷ more) other is = absurd (apart (length more) is)
  where
    apart : (n : ℕ) → (suc n == 0) ≡ true → ⊥
    apart n is = let same = eqb-true (suc n) 0 is in omega (arith, same)

-- the first of three operands, and what is left once it is known, or two of them
abbrev pub of_text : Contents → Contents → List ℕ → Plan
of_text w u bytes = with_text w (λ sought. with_text u (λ other. replaced bytes sought other))

abbrev pub of_texts : Contents → List ℕ → List ℕ → Plan
of_texts u bytes sought = with_text u (λ other. replaced bytes sought other)

pub not_three : (f : Value → Contents) (vs : List Value) → (length vs ≡ 3 → ⊥) → replace_plan (map f vs) ≡ wrong_number
not_three f [] other = refl
not_three f (v ∷ []) other = refl
not_three f (v ∷ w ∷ []) other = refl
not_three f (v ∷ w ∷ u ∷ []) other = absurd (other refl)
not_three f (v ∷ w ∷ u ∷ x ∷ vs) other = refl

pub three_are : (f : Value → Contents) (vs : List Value) (d : Value) → length vs ≡ 3
    → replace_plan (map f vs) ≡ with_text (f (slice_index_or vs 0 d)) (of_text (f (slice_index_or vs 1 d)) (f (slice_index_or vs 2 d)))
three_are f [] d is = absurd (omega (arith, is))
three_are f (v ∷ []) d is = absurd (omega (arith, is))
three_are f (v ∷ w ∷ []) d is = absurd (omega (arith, is))
three_are f (v ∷ w ∷ u ∷ []) d is = refl
three_are f (v ∷ w ∷ u ∷ x ∷ vs) d is = absurd (omega (arith, is))

pub three_named : (values : ValuesView) (vs : List Value) (d : Value) → length vs ≡ 3 → AreNamed values vs
    → IsNamed values (slice_index_or vs 0 d) × (IsNamed values (slice_index_or vs 1 d) × IsNamed values (slice_index_or vs 2 d))
three_named values [] d is named = absurd (omega (arith, is))
three_named values (v ∷ []) d is named = absurd (omega (arith, is))
three_named values (v ∷ w ∷ []) d is named = absurd (omega (arith, is))
three_named values (v ∷ w ∷ u ∷ []) d is named = (named 0 v refl, (named 1 w refl, named 2 u refl))
three_named values (v ∷ w ∷ u ∷ x ∷ vs) d is named = absurd (omega (arith, is))
