use Rattle.std.proofs.Common.{◌≡◌, ◌<◌, ◌≤◌, ℕ, take, length, reverse, slice_get, Some}
use Rattle.py_tree.specs.Tree.{ScriptTree}
use Rattle.py_value.specs.Values.{ValuesView, AreInterned}
use Rattle.row_checks.specs.NamedRows.{NamesRow}
use Rattle.row_moments.specs.Moments.{moments_by}
use Rattle.trace_rows.specs.declared.row.Row.{Row}
use Rattle.feedings.specs.Passing.{all_passed}
use Rattle.feedings.specs.Sweeps.{HasPassed}
use Rattle.feedings.proofs.backward.sources_by.Given as goal

abbrev pub invariant-loop-left : goal.invariant-loop-left
invariant-loop-left l = (l.left ≤ length l.rows)
    × ((view : ValuesView) (script : ScriptTree) → AreInterned view → ((i : ℕ) (row : Row) → slice_get l.rows i ≡ Some row → NamesRow view row)
    → l.fed ≡ all_passed script (moments_by view (reverse l.rows)) → l.time < length (moments_by view (reverse l.rows))
    → HasPassed view script l.time (moments_by view (reverse l.rows)) (moments_by view (reverse (take l.left l.rows))) l.count l.marks.items l.demanded.entries)

abbrev pub decreases-loop-left : goal.decreases-loop-left
decreases-loop-left l = l.left
