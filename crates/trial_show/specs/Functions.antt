-- The lines of a script's functions (this project's profile).
use Rattle.std.specs.Prelude.{ℕ, suc, Bool, false, if◌then◌else◌, List, [], ◌∷◌, ◌++◌, codes}
use Rattle.std.specs.Fmt.{decimal}
use Rattle.prov_base.specs.declared.place.Pos.{Pos}
use Rattle.prov_base.specs.contracts.place.PosPartialEq.TheImpl.{ghosts as places}
use Rattle.py_tree.specs.Tree.{StmtTree, FormTree, SuiteTree, one_stmt, def_form, class_form, end_suite, more_suite}
use Rattle.trace_rows.specs.declared.row.Row.{Row}
use Rattle.trace_rows.specs.declared.row.Row.TheVariants.{Text, Tuple, Begin, Do, Enter, Leave, End}
use Rattle.trial_show.specs.Shown.{line}

-- the row enters an activation of the function whose `def` stands at the place
abbrev pub enters : Pos → Row → Bool
enters at (Enter call def values accesses) = places.eq def at
enters at (Text text) = false
enters at (Tuple parts) = false
enters at (Begin number) = false
enters at (Do place op values answer made accesses weight) = false
enters at (Leave value) = false
enters at (End how) = false

-- how many rows do
abbrev pub activations : Pos → List Row → ℕ
activations at [] = 0
activations at (row ∷ rows) = if enters at row then suc (activations at rows) else activations at rows

-- the line of its `def`, its name, and how many activations it has
abbrev pub function_line : List Row → Pos → List ℕ → List ℕ
function_line rows at name = line (codes "function") (decimal at.line ++ 32 ∷ name ++ 32 ∷ decimal (activations at rows))

-- The functions of a suite, in the order of the text: those that stand in it, and those in its classes. The grammar has functions at
-- module level and directly in a class alone.
abbrev mutual
  pub lines_in : List Row → SuiteTree → List ℕ
  lines_in rows end_suite = []
  lines_in rows (more_suite stmt rest) = lines_of rows stmt ++ lines_in rows rest

  pub lines_of : List Row → StmtTree → List ℕ
  lines_of rows (one_stmt number at span form) = lines_at rows at form

  pub lines_at : List Row → Pos → FormTree → List ℕ
  lines_at rows at (def_form name params globals body) = function_line rows at name
  lines_at rows at (class_form name base body) = lines_in rows body
  lines_at rows at form = []
