-- Pieces whose texts are UTF-8: the reader's own steps. No public clause speaks of them.
use Rattle.std.specs.Prelude.{ℕ, List, false}
use Rattle.std.specs.Str.{IsUtf8}
use Rattle.py_lines.specs.declared.mode.Shape.{Shape}
use Rattle.py_lines.specs.declared.mode.Shape.TheVariants as H
use Rattle.py_lines.specs.declared.mode.Kind.{Kind}
use Rattle.py_lines.specs.declared.mode.Kind.TheVariants as K
use Rattle.py_lines.specs.declared.mode.Read.{Read}
use Rattle.py_lines.specs.declared.mode.Read.TheVariants as R
use Rattle.py_lines.specs.Literal.{inside_of, value_of}

-- a word, or a literal's value, is UTF-8
abbrev pub IsShapeText : Shape → List ℕ → Type 0
IsShapeText H.Word piece = IsUtf8 piece
IsShapeText (H.Text quote) piece = IsUtf8 (value_of false (inside_of quote piece))
IsShapeText shape piece = Unit {0}

abbrev pub IsKindText : Kind → List ℕ → Type 0
IsKindText (K.Token shape) piece = IsShapeText shape piece
IsKindText kind piece = Unit {0}

abbrev pub IsReadText : Read → List ℕ → Type 0
IsReadText (R.Ends kind) piece = IsKindText kind piece
IsReadText read piece = Unit {0}
