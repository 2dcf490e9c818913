-- A tuple is a tuple, however many there are.
use Rattle.std.proofs.Common.{◌≡◌, refl, ap, ℕ, zero, suc, length, ◌<◌, ◌≤◌, arith, List, [], ◌∷◌, map, Some, slice_get}
use Rattle.py_value.specs.Contents.{Contents, Parts, part, parts_by, tuple, contents, contents_to}
use Rattle.py_model.specs.Effect.{parts_of}
use Rattle.py_value.specs.declared.value.Value.{Value}
use Rattle.py_value.specs.Values.{ValuesView, IsBelow, AreNamed, AreInterned}
use Rattle.py_value.specs.declared.value.Value.TheVariants.{None as NoneValue, Bool, Int, Text, Tuple, Range, Fn, Class, Exc, Builtin, Object}

tuple_to : (levels : ℕ) (view : ValuesView) (id : ℕ) → (ps : Parts) × (contents_to levels view (Tuple id) ≡ tuple ps)
tuple_to zero view id = (_, refl)
tuple_to (suc levels) view id = (_, refl)

pub some_tuple : (view : ValuesView) (id : ℕ) → (ps : Parts) × (contents view (Tuple id) ≡ tuple ps)
some_tuple view id = tuple_to (length view.tuples) view id

-- the parts of a list of values
pub parts_same : (f : Value → Contents) (items : List Value) → parts_of (map f items) ≡ parts_by f items
parts_same f [] = refl
parts_same f (item ∷ items) = ap (part (f item)) (parts_same f items)

below_more : (texts few many : ℕ) → few ≤ many → (v : Value) → IsBelow texts few v → IsBelow texts many v
below_more texts few many more (Tuple id) below = omega (arith, more, below)
below_more texts few many more (Text id) below = below
below_more texts few many more NoneValue below = tt
below_more texts few many more (Bool b) below = tt
below_more texts few many more (Int i) below = tt
below_more texts few many more (Range a b c) below = tt
below_more texts few many more (Fn place) below = tt
below_more texts few many more (Class place) below = tt
below_more texts few many more (Exc number) below = tt
below_more texts few many more (Builtin number) below = tt
below_more texts few many more (Object o) below = tt

-- the parts of a tuple are named
pub parts_named : (values : ValuesView) → AreInterned values → (id : ℕ) → id < length values.tuples → (items : List Value) → slice_get values.tuples id ≡ Some items → AreNamed values items
parts_named values interned id within items is = λ i v at. below_more (length values.texts) id (length values.tuples) (omega (arith, within)) v (interned.parts id items is i v at)
