-- Worked rows of the definitions, each found by computation.
use Rattle.std.proofs.Common.{◌≡◌, [], ◌∷◌, codes, refl}
use Rattle.py_value.specs.declared.value.Value.TheVariants.{Text, Tuple, Object}
use Rattle.py_value.specs.Values.{ValuesView}
use Rattle.py_value.specs.Contents.{object as an_object, text, tuple, no_parts, part, contents}

-- the text `ab`, the empty tuple, and the tuple of the two
abbrev pub view : ValuesView
view = record { texts = codes "ab" ∷ []; tuples = [] ∷ (Text 0 ∷ Tuple 0 ∷ []) ∷ [] }

ab : contents view (Text 0) ≡ text (codes "ab")
ab = refl

empty : contents view (Tuple 0) ≡ tuple no_parts
empty = refl

both : contents view (Tuple 1) ≡ tuple (part (text (codes "ab")) (part (tuple no_parts) no_parts))
both = refl

object : contents view (Object 7) ≡ an_object 7
object = refl
