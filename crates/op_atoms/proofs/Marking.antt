-- Marks of tuples tell which values are atoms.
use Rattle.std.proofs.Common.{◌≡◌, ◌<◌, ◌⊎◌, inl, inr, ℕ, zero, suc, ◌+◌, Bool, false, ◌&&◌, List, [], ◌∷◌, ◌++◌, length, get_or, refl, sym, ap, subst, ◌∙◌, arith}
use Rattle.std.proofs.lemmas.List.{get_or_append_left, length-append}
use Rattle.std.proofs.lemmas.Option.{unwrap_or-slice_get}
use Rattle.std.proofs.Math.Seq.{get_or-append_seam}
use Rattle.std.specs.List.{list_all}
use Rattle.py_value.specs.declared.value.Value.{Value}
use Rattle.py_value.specs.declared.value.Value.TheVariants.{None as Nothing, Bool as Truth, Int, Text, Tuple, Range, Fn, Class, Exc, Builtin, Object}
use Rattle.py_value.specs.Values.{ValuesView, AreBelow, IsBelow}
use Rattle.py_value.specs.Contents.{tuple, parts_by, contents}
use Rattle.op_atoms.specs.Atoms.{is_atom, are_atoms}
use Rattle.op_atoms.specs.Marks.{marked, AreMarks}

module _ (view : ValuesView) (marks : List Bool) (right : AreMarks view marks) where
  pub marked_is : (v : Value) → IsBelow (length view.texts) (length marks) v → marked marks v ≡ is_atom (contents view v)
  marked_is (Tuple id) below = unwrap_or-slice_get marks id false ∙ right id below
  marked_is Nothing below = refl
  marked_is (Truth t) below = refl
  marked_is (Int k) below = refl
  marked_is (Text i) below = refl
  marked_is (Range start end step) below = refl
  marked_is (Fn place) below = refl
  marked_is (Class place) below = refl
  marked_is (Exc number) below = refl
  marked_is (Builtin number) below = refl
  marked_is (Object number) below = refl

  pub parts_marked : (vs : List Value) → AreBelow (length view.texts) (length marks) vs → list_all (marked marks) vs ≡ are_atoms (parts_by (contents view) vs)
  parts_marked [] below = refl
  parts_marked (v ∷ vs) below =
      ap (λ first. first && list_all (marked marks) vs) (marked_is v (below 0 v refl))
      ∙ ap (λ rest. is_atom (contents view v) && rest) (parts_marked vs (λ i item at. below (suc i) item at))

  pub tuple_marked : (id : ℕ) (vs : List Value) → contents view (Tuple id) ≡ tuple (parts_by (contents view) vs) → AreBelow (length view.texts) (length marks) vs
      → list_all (marked marks) vs ≡ is_atom (contents view (Tuple id))
  tuple_marked id vs is below = parts_marked vs below ∙ sym (ap is_atom is)

-- one mark more, of the next tuple
at_or_before : (id n : ℕ) → id < n + 1 → (id < n) ⊎ (id ≡ n)
at_or_before zero zero less = inr refl
at_or_before zero (suc n) less = inl (omega arith)
at_or_before (suc id) zero less = absurd (omega (arith, less))
at_or_before (suc id) (suc n) less = next (at_or_before id n (omega (arith, less)))
  where
    next : (id < n) ⊎ (id ≡ n) → (suc id < suc n) ⊎ (suc id ≡ suc n)
    next (inl before) = inl (omega (arith, before))
    next (inr same) = inr (ap suc same)

pub marks_more : (view : ValuesView) (marks : List Bool) (mark : Bool) → AreMarks view marks → mark ≡ is_atom (contents view (Tuple (length marks))) → AreMarks view (marks ++ mark ∷ [])
marks_more view marks mark right is id less = by_place (at_or_before id (length marks) (omega (arith, less, length-append marks (mark ∷ []))))
  where
    by_place : (id < length marks) ⊎ (id ≡ length marks) → get_or (marks ++ mark ∷ []) id false ≡ is_atom (contents view (Tuple id))
    by_place (inl before) = get_or_append_left marks (mark ∷ []) false id before ∙ right id before
    by_place (inr same) = subst (λ i. get_or (marks ++ mark ∷ []) i false ≡ is_atom (contents view (Tuple i))) (sym same) (get_or-append_seam marks mark [] false ∙ is)
