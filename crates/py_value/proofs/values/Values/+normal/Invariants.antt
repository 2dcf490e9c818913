use Rattle.std.proofs.Common.{◌+◌, ◌*◌, take, drop}
use Rattle.py_value.specs.Contents.{contents, parts_by}
use Rattle.py_value.specs.KeyOf.{AddsOnly, IsTupleInParts}
use Rattle.py_value.proofs.NormalForms.{AreFound}
use Rattle.py_value.proofs.values.Values.+normal.Given as goal

abbrev pub decreases-form_of : goal.decreases-form_of
decreases-form_of l = 3 * l.levels + 1

abbrev pub decreases-form_of_tuple : goal.decreases-form_of_tuple
decreases-form_of_tuple l = 3 * l.levels

abbrev pub decreases-forms_of : goal.decreases-forms_of
decreases-forms_of l = 3 * l.levels + 2

abbrev pub invariant-forms_of-loop-value : goal.invariant-forms_of-loop-value
invariant-forms_of-loop-value l =
    AreFound l.fn.self l.self l.levels (take l.value-index l.values) (drop l.value-index l.values) l.forms.items
    × AddsOnly l.fn.self l.self (λ c. IsTupleInParts c (parts_by (contents l.fn.self) l.values))
