-- No public clause cites this file.
-- What is known after rows, of one trial: which statement asks for which, what objects hold, and what ended by a jump in the module.
use Rattle.std.specs.Prelude.{◌≡◌, ℕ, List, Some, slice_get}
use Rattle.py_tree.specs.Tree.{ScriptTree}
use Rattle.py_value.specs.Values.{ValuesView}
use Rattle.py_model.specs.Moment.{Moment}
use Rattle.py_model.specs.Store.{RunStore}
use Rattle.row_checks.specs.NamedRows.{NamesRow}
use Rattle.slice_edges.specs.HasAsked.{HasAsked}
use Rattle.slice_law.specs.Closed.{has}
use Rattle.slice_law.specs.Edges.{module_jumps}
use Rattle.slice_things.specs.declared.forms.Forms.{Forms}
use Rattle.slice_things.specs.Things.{HoldsThings, IsNormalRow}
use Rattle.trace_rows.specs.declared.row.Row.{Row}
use Rattle.slicer.specs.declared.passing.Passed.{Passed}

pub record Knows (view : ValuesView) (script : ScriptTree) (forms : Forms) (opening : RunStore) (passed : Passed) (told : List Moment) : Type 0 where
  pub asked : HasAsked view script passed.asking told
  pub holds : HoldsThings view forms opening passed.things told
  pub jumps : (s : ℕ) → has s passed.jumps.items ≡ has s (module_jumps told)

-- what rows name is there, and their keys are normal
pub record IsReadable (view : ValuesView) (row : Row) : Type 0 where
  pub named : NamesRow view row
  pub normal : IsNormalRow view row

abbrev pub AreReadable : ValuesView → List Row → Type 0
AreReadable view rows = (i : ℕ) (row : Row) → slice_get rows i ≡ Some row → IsReadable view row
