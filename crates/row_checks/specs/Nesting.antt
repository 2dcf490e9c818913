-- What is open behind rows (this project's profile): statements and activations nest as brackets.
use Rattle.std.specs.Prelude.{◌-◌, Bool, true, false, List, [], ◌∷◌, ◌++◌, length, take, slice_get, Option, Some, None}
use Rattle.trace_rows.specs.declared.row.Row.{Row}
use Rattle.trace_rows.specs.declared.row.Row.TheVariants.{Text, Tuple, Begin, Do, Enter, Leave, End}
use Rattle.row_checks.specs.declared.nesting.Open.{Open}
use Rattle.row_checks.specs.declared.nesting.Open.TheVariants.{Statement, Activation}

-- what is innermost stands last
abbrev pub innermost : List Open → Option Open
innermost open_ones = slice_get open_ones (length open_ones - 1)

abbrev pub without_innermost : List Open → List Open
without_innermost open_ones = take (length open_ones - 1) open_ones

-- what is open behind a row, where these are open before it
abbrev pub opened_by : Row → List Open → List Open
opened_by (Begin statement) open_ones = open_ones ++ Statement ∷ []
opened_by (Enter call def values accesses) open_ones = open_ones ++ Activation ∷ []
opened_by (Leave v) open_ones = without_innermost open_ones
opened_by (End how) open_ones = without_innermost open_ones
opened_by (Text text) open_ones = open_ones
opened_by (Tuple parts) open_ones = open_ones
opened_by (Do at op values answer made accesses weight) open_ones = open_ones

abbrev pub open_behind : List Open → List Row → List Open
open_behind open_ones [] = open_ones
open_behind open_ones (row ∷ rows) = open_behind (opened_by row open_ones) rows

abbrev pub is_statement : Option Open → Bool
is_statement (Some Statement) = true
is_statement (Some Activation) = false
is_statement None = false

abbrev pub is_activation : Option Open → Bool
is_activation (Some Statement) = false
is_activation (Some Activation) = true
is_activation None = false

-- an End closes the innermost statement, and a Leave the innermost activation, with nothing open inside
abbrev pub closes : List Open → Row → Bool
closes open_ones (End how) = is_statement (innermost open_ones)
closes open_ones (Leave v) = is_activation (innermost open_ones)
closes open_ones (Text text) = true
closes open_ones (Tuple parts) = true
closes open_ones (Begin statement) = true
closes open_ones (Do at op values answer made accesses weight) = true
closes open_ones (Enter call def values accesses) = true
