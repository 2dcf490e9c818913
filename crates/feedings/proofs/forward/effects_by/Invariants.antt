use Rattle.std.proofs.Common.{◌≡◌, ℕ, take, reverse, slice_get, Some}
use Rattle.py_tree.specs.Tree.{ScriptTree}
use Rattle.py_value.specs.Values.{ValuesView, AreInterned}
use Rattle.row_checks.specs.NamedRows.{NamesRow}
use Rattle.row_moments.specs.Moments.{moments_by}
use Rattle.trace_rows.specs.declared.row.Row.{Row}
use Rattle.feedings.specs.Passing.{all_passed}
use Rattle.feedings.specs.Sweeps.{HasMarked}
use Rattle.feedings.proofs.forward.effects_by.Given as goal

abbrev pub invariant-loop-row : goal.invariant-loop-row
invariant-loop-row l = (view : ValuesView) (script : ScriptTree) → AreInterned view → ((i : ℕ) (row : Row) → slice_get l.rows i ≡ Some row → NamesRow view row)
    → l.fed ≡ all_passed script (moments_by view (reverse l.rows))
    → HasMarked view script l.time (moments_by view (reverse (take l.row-index l.rows))) l.marks.items l.tainted.entries
