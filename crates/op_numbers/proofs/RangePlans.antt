-- Ranges as plans of their bounds.
use Rattle.std.proofs.Common.{◌≡◌, refl, List, [], ◌∷◌, map}
use Rattle.py_model.specs.Arithmetic.{a_range, range_plan}
use Rattle.py_value.specs.Contents.{contents}
use Rattle.py_value.specs.Values.{ValuesView}
use Rattle.py_value.specs.declared.value.Value.{Value}
use Rattle.op_numbers.specs.RangeBounds.{bounds_of, of_bounds}

pub bounds_plan : (table : ValuesView) (operands : List Value) → range_plan (map (contents table) operands) ≡ of_bounds table (bounds_of operands) a_range
bounds_plan table [] = refl
bounds_plan table (v ∷ []) = refl
bounds_plan table (v ∷ w ∷ []) = refl
bounds_plan table (v ∷ w ∷ x ∷ []) = refl
bounds_plan table (v ∷ w ∷ x ∷ y ∷ more) = refl
