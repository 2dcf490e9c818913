-- What a comparison is in the model, and how two values compare of which nothing is read.
use Rattle.std.specs.Prelude.{ℕ, ℤ, Bool, List, true, ◌==◌, ◌&&◌, if◌then◌else◌, Option, Some}
use Rattle.prov_base.specs.contracts.place.PosPartialEq.TheImpl.{ghosts as places}
use Rattle.op_compare.specs.declared.comparison.Comparison.{Comparison as OneComparison}
use Rattle.op_compare.specs.declared.comparison.Comparison.TheVariants.{Alike, Before, Behind, Apart}
use Rattle.py_value.specs.Numbers.{number_of_value}
use Rattle.py_model.specs.Walks.{Comparison, alike, before, behind, apart, by_number, when_same, same_range, shorter, order_of_texts}
use Rattle.py_model.specs.Plan.{Plan, counts}
use Rattle.py_value.specs.Values.{ValuesView}
use Rattle.py_value.specs.declared.value.Value.{Value}
use Rattle.py_value.specs.declared.value.Value.TheVariants.{None as NoneValue, Range, Fn, Class, Exc, Builtin}

abbrev pub how : OneComparison → Comparison
how Alike = alike
how Before = before
how Behind = behind
how Apart = apart

abbrev pub how_seen : ValuesView → OneComparison → Comparison
how_seen table compared = how compared

-- two ranges of so many numbers, that start alike or not, and go on alike or not
abbrev pub same_tests : ℕ → ℕ → Bool → Bool → Bool
same_tests m n start step = (m == n) && (if m == 0 then true else start && (if m == 1 then true else step))

-- two numbers are ordered; any other two differ
abbrev pub by_numbers : Option ℤ → Option ℤ → Comparison
by_numbers (Some i) (Some j) = by_number i j
by_numbers i j = apart

-- two values that are no two texts, tuples or objects
abbrev pub plain_of : Value → Value → Comparison
plain_of (Range a b c) (Range d e f) = when_same (same_range a b c d e f)
plain_of NoneValue NoneValue = when_same true
plain_of (Fn p) (Fn q) = when_same (places.eq p q)
plain_of (Class p) (Class q) = when_same (places.eq p q)
plain_of (Exc m) (Exc n) = when_same (m == n)
plain_of (Builtin m) (Builtin n) = when_same (m == n)
plain_of v w = by_numbers (number_of_value v) (number_of_value w)

-- two texts whose order is asked: the shorter is counted
abbrev pub texts_ordered : List ℕ → List ℕ → (Comparison → Plan) → Plan
texts_ordered one other go = counts (shorter one other) (go (order_of_texts one other))
