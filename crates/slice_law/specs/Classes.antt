-- Scripts whose classes stand outside all functions, as the grammar has them. A class in a function would bind names of the function which
-- `suite_binds` does not count.
use Rattle.std.specs.Prelude.{Bool, IsTrue, not, is_some, ◌||◌}
use Rattle.std.specs.List.{list_all}
use Rattle.py_tree.specs.Binds.{is_class}
use Rattle.py_tree.specs.Owners.{Standing, form_in, statements}
use Rattle.py_tree.specs.Tree.{ScriptTree}

-- it is no class, or stands in no function
abbrev pub stands_outside : Standing → Bool
stands_outside x = not (is_class (form_in x.stmt)) || not (is_some x.around.function)

abbrev pub ClassesStandOutside : ScriptTree → Type 0
ClassesStandOutside script = IsTrue (list_all stands_outside (statements script))
