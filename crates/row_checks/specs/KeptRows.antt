-- Which rows a well kept trial has (this project's profile). Each row may stand behind those before it.
use Rattle.std.specs.Prelude.{◌≡◌, ℕ, ◌+◌, ◌<◌, true, List, [], ◌∷◌, ◌++◌, length, take, slice_get, Option, Some, None, Contains, ⊤}
use Rattle.py_value.specs.declared.value.Value.{Value}
use Rattle.py_value.specs.Values.{ValuesView}
use Rattle.trace_rows.specs.declared.row.Row.{Row}
use Rattle.trace_rows.specs.declared.row.Row.TheVariants.{Text, Tuple, Begin, Do, Enter, Leave, End}
use Rattle.row_checks.specs.declared.counts.Counts.{Counts}
use Rattle.row_checks.specs.declared.nesting.Open.{Open}
use Rattle.row_checks.specs.Keys.{is_key}
use Rattle.row_checks.specs.Nesting.{open_behind, closes}
use Rattle.row_checks.specs.RowTests.{names_row, has_keys, with_own}

-- what rows bring, one behind the other, and how many of something
abbrev pub all_in : {A : Type 0} → (Row → List A) → List Row → List A
all_in brings [] = []
all_in brings (row ∷ rows) = brings row ++ all_in brings rows

abbrev pub count_in : (Row → ℕ) → List Row → ℕ
count_in brings [] = 0
count_in brings (row ∷ rows) = brings row + count_in brings rows

-- the text or the tuple of a row
abbrev pub text_of : Row → List (List ℕ)
text_of (Text text) = text ∷ []
text_of row = []

abbrev pub tuple_of : Row → List (List Value)
tuple_of (Tuple parts) = parts ∷ []
tuple_of row = []

-- the texts and the tuples of rows, each at its number
abbrev pub texts_in : List Row → List (List ℕ)
texts_in rows = all_in text_of rows

abbrev pub tuples_in : List Row → List (List Value)
tuples_in rows = all_in tuple_of rows

abbrev pub view_in : List Row → ValuesView
view_in rows = record { texts = texts_in rows; tuples = tuples_in rows }

-- one object that a row makes, and one activation that it enters
abbrev pub made_by : Row → ℕ
made_by (Do at op values answer (Some kind) accesses weight) = 1
made_by row = 0

abbrev pub entered_by : Row → ℕ
entered_by (Enter call def values accesses) = 1
entered_by row = 0

-- What rows leave to those behind them: their texts and tuples, how many things may be named, and what is open.
pub record Earlier : Type 0 where
  pub texts : List (List ℕ)
  pub tuples : List (List Value)
  pub counts : Counts
  pub open_ones : List Open

-- object 0 and activation 0, the script's own, are there from the start
abbrev pub counts_in : ℕ → List Row → Counts
counts_in statements rows = record {
  statements = statements;
  texts = length (texts_in rows);
  tuples = length (tuples_in rows);
  objects = 1 + count_in made_by rows;
  scopes = 1 + count_in entered_by rows;
}

abbrev pub earlier_in : ℕ → List Row → Earlier
earlier_in statements rows = record {
  texts = texts_in rows;
  tuples = tuples_in rows;
  counts = counts_in statements rows;
  open_ones = open_behind [] rows;
}

-- no equal text, and no equal tuple, is there
abbrev pub IsNew : ValuesView → Row → Type 0
IsNew view (Text text) = Contains view.texts text → ⊥
IsNew view (Tuple parts) = Contains view.tuples parts → ⊥
IsNew view (Begin statement) = ⊤
IsNew view (Do at op values answer made accesses weight) = ⊤
IsNew view (Enter call def values accesses) = ⊤
IsNew view (Leave v) = ⊤
IsNew view (End how) = ⊤

-- The row may stand here: a text or tuple is new, what it names is earlier or its own, its keys are keys, and it closes what is
-- innermost.
pub record MayStand (earlier : Earlier) (row : Row) : Type 0 where
  pub is_new : IsNew (record { texts = earlier.texts; tuples = earlier.tuples }) row
  pub names : names_row (with_own row earlier.counts) row ≡ true
  pub keys : has_keys (is_key earlier.tuples) row ≡ true
  pub nests : closes earlier.open_ones row ≡ true

-- the rows of a well kept trial, where the script has so many statements
abbrev pub AreKeptRows : ℕ → List Row → Type 0
AreKeptRows statements rows = (i : ℕ) (row : Row) → slice_get rows i ≡ Some row → MayStand (earlier_in statements (take i rows)) row

-- with this row the rows are no longer kept, and those before it are
pub record IsFirstUnkept (statements : ℕ) (rows : List Row) (i : ℕ) : Type 0 where
  pub within : i < length rows
  pub kept : AreKeptRows statements (take i rows)
  pub unkept : AreKeptRows statements (take (i + 1) rows) → ⊥

-- what is told of rows
abbrev pub TellsUnkept : ℕ → List Row → Option ℕ → Type 0
TellsUnkept statements rows None = AreKeptRows statements rows
TellsUnkept statements rows (Some i) = IsFirstUnkept statements rows i
