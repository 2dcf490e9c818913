-- No public clause cites this file.
-- Rows that end a statement by a jump.
use Rattle.std.specs.Prelude.{Bool, true, false}
use Rattle.py_model.specs.declared.moment.How.TheVariants.{Normal, Break, Continue, Return, Raise}
use Rattle.trace_rows.specs.declared.row.Row.{Row}
use Rattle.trace_rows.specs.declared.row.Row.TheVariants.{Text, Tuple, Begin, Do, Enter, Leave, End}

abbrev pub ends_by_jump : Row → Bool
ends_by_jump (End Normal) = false
ends_by_jump (End Break) = true
ends_by_jump (End Continue) = true
ends_by_jump (End Return) = true
ends_by_jump (End Raise) = true
ends_by_jump (Text text) = false
ends_by_jump (Tuple parts) = false
ends_by_jump (Begin statement) = false
ends_by_jump (Do at op values answer made accesses weight) = false
ends_by_jump (Enter call def values accesses) = false
ends_by_jump (Leave v) = false
