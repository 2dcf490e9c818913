use Rattle.std.proofs.Common.{◌≡◌, ℕ, map, take, reverse, slice_get, Some}
use Rattle.py_tree.specs.Erasure.{script_of}
use Rattle.py_value.specs.Values.{ValuesView, AreInterned}
use Rattle.row_checks.specs.NamedRows.{NamesRow}
use Rattle.row_moments.specs.Moments.{moments_by}
use Rattle.slice_edges.specs.HasAsked.{HasAsked}
use Rattle.trace_rows.specs.declared.row.Row.{Row}
use Rattle.dep_query.proofs.gathering.ask_all.Given as goal

abbrev pub invariant-loop-row : goal.invariant-loop-row
invariant-loop-row l = (view : ValuesView) → AreInterned view → ((i : ℕ) (row : Row) → slice_get l.rows i ≡ Some row → NamesRow view row) → view.texts ≡ map (λ k. k.now) l.names
    → HasAsked view (script_of l.script) l.asking (moments_by view (reverse (take l.row-index l.rows)))
