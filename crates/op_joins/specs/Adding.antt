-- No public clause cites this file.
-- Which two values are put one behind the other, and which are added as numbers.
use Rattle.std.specs.Prelude.{◌++◌, ◌+ℤ◌, Bool, true, false, Option, Some}
use Rattle.op_joins.specs.declared.adding.Pair.{Pair}
use Rattle.op_joins.specs.declared.adding.Pair.TheVariants.{Texts, Tuples, Objects, Others}
use Rattle.py_model.specs.Arithmetic.{added}
use Rattle.py_model.specs.Operands.{gives_int, gives_text, with_numbers}
use Rattle.py_model.specs.Plan.{Plan}
use Rattle.py_value.specs.Contents.{contents}
use Rattle.py_value.specs.Seen.{bytes_of}
use Rattle.py_value.specs.Values.{ValuesView}
use Rattle.py_value.specs.declared.access.Kind.{Kind}
use Rattle.py_value.specs.declared.access.Kind.TheVariants.{List as ListKind}
use Rattle.py_value.specs.declared.value.Value.{Value}
use Rattle.py_value.specs.declared.value.Value.TheVariants.{Text, Tuple, Object}

abbrev pub pair_of_values : Value → Value → Pair
pair_of_values (Text a) (Text b) = Texts a b
pair_of_values (Tuple a) (Tuple b) = Tuples a b
pair_of_values (Object o) (Object p) = Objects o p
pair_of_values v w = Others

-- the sum of two values, by what they are
abbrev pub added_as : ValuesView → Value → Value → Pair → Plan
added_as table v w (Texts a b) = gives_text (bytes_of table a ++ bytes_of table b)
added_as table v w (Tuples a b) = added (contents table (Tuple a)) (contents table (Tuple b))
added_as table v w (Objects o p) = added (contents table (Object o)) (contents table (Object p))
added_as table v w Others = with_numbers (contents table v) (contents table w) (λ i j. gives_int (i +ℤ j))

abbrev pub list_kind : Option Kind → Bool
list_kind (Some ListKind) = true
list_kind other = false
