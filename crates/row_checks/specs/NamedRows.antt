-- Texts and tuples of rows in order: none is there twice, and a row names only those that are there (this project's profile).
use Rattle.std.specs.Prelude.{◌≡◌, ℕ, List, take, slice_get, Some, ⊤}
use Rattle.py_value.specs.declared.access.Access.{Access}
use Rattle.py_value.specs.declared.access.Access.TheVariants.{Read, Set, Update}
use Rattle.py_value.specs.Named.{IsNamedKind, IsNamedContent, IsNamedChange}
use Rattle.py_value.specs.Seen.{IsNamedLocation}
use Rattle.py_value.specs.Values.{ValuesView, IsNamed, AreNamed, StandOnce}
use Rattle.py_model.specs.Told.{IsNamedAnswer}
use Rattle.row_words.specs.Fits.{Each}
use Rattle.trace_rows.specs.declared.row.Row.{Row}
use Rattle.trace_rows.specs.declared.row.Row.TheVariants.{Text, Tuple, Begin, Do, Enter, Leave, End}
use Rattle.row_checks.specs.KeptRows.{texts_in, tuples_in, view_in}

abbrev pub NamesAccess : ValuesView → Access → Type 0
NamesAccess view (Read l) = IsNamedLocation view l
NamesAccess view (Set l content) = IsNamedLocation view l × IsNamedContent view content
NamesAccess view (Update l change) = IsNamedLocation view l × IsNamedChange view change

-- the texts and tuples that a row names are there
abbrev pub NamesRow : ValuesView → Row → Type 0
NamesRow view (Text text) = ⊤
NamesRow view (Tuple parts) = AreNamed view parts
NamesRow view (Begin statement) = ⊤
NamesRow view (Do at op values answer made accesses weight) =
    AreNamed view values × (IsNamedAnswer view answer × (IsNamedKind view made × Each (NamesAccess view) accesses))
NamesRow view (Enter call def values accesses) = AreNamed view values × Each (NamesAccess view) accesses
NamesRow view (Leave v) = IsNamed view v
NamesRow view (End how) = ⊤

-- No two Text rows are equal, and no two Tuple rows. The texts and tuples that a row names stand before it.
pub record NamesInOrder (rows : List Row) : Type 0 where
  pub texts_once : StandOnce (texts_in rows)
  pub tuples_once : StandOnce (tuples_in rows)
  pub named : (i : ℕ) (row : Row) → slice_get rows i ≡ Some row → NamesRow (view_in (take i rows)) row
