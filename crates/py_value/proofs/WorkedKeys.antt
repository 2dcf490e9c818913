-- Worked rows of keys, each found by computation.
use Rattle.std.proofs.Common.{◌≡◌, true, [], ◌∷◌, codes, Some, refl}
use Rattle.std.specs.Prelude.{pos}
use Rattle.std.proofs.Common.{None as Nothing}
use Rattle.py_value.specs.declared.value.Value.TheVariants.{Bool as Truth, Text, Tuple, Range, Object}
use Rattle.py_value.specs.declared.key.KeyFault.TheVariants.{NoKey, TooDeep}
use Rattle.py_value.specs.Values.{ValuesView}
use Rattle.py_value.specs.Contents.{int, text, tuple, no_parts, part, contents}
use Rattle.py_value.specs.KeyOf.{fault_within, normal}

-- `('a', True)`, `(range(0), object 5)`, and `((..),)`
abbrev pub view : ValuesView
view = record { texts = codes "a" ∷ []; tuples = (Text 0 ∷ Truth true ∷ []) ∷ (Object 5 ∷ Range (pos 0) (pos 0) (pos 1) ∷ []) ∷ (Tuple 0 ∷ []) ∷ [] }

plain_key : fault_within 100 view (Tuple 2) ≡ Nothing
plain_key = refl

object_first : fault_within 100 view (Tuple 1) ≡ Some (NoKey 5)
object_first = refl

too_deep : fault_within 1 view (Tuple 2) ≡ Some TooDeep
too_deep = refl

true_is_one : normal (contents view (Tuple 0)) ≡ tuple (part (text (codes "a")) (part (int (pos 1)) no_parts))
true_is_one = refl
