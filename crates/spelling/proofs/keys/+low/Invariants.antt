use Rattle.std.proofs.Common.{◌≡◌, ◌+◌, ◌*◌, drop, nat_lt}
use Rattle.py_model.specs.Printing.{height_in}
use Rattle.py_value.specs.Contents.{contents, parts_by}
use Rattle.spelling.proofs.keys.+low.Given as goal

abbrev pub decreases-is_low : goal.decreases-is_low
decreases-is_low l = 2 * l.levels

abbrev pub decreases-are_low : goal.decreases-are_low
decreases-are_low l = 2 * l.levels + 1

abbrev pub invariant-are_low-loop-i : goal.invariant-are_low-loop-i
invariant-are_low-loop-i l = nat_lt l.levels (height_in (parts_by (contents l.values) (drop l.i l.items))) ≡ nat_lt l.levels (height_in (parts_by (contents l.values) l.items))
