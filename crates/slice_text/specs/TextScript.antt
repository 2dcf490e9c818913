-- The script that a text is, as far as it does not hang on byte spans.
use Rattle.std.specs.Prelude.{◌≡◌, ℕ, List}
use Rattle.py_lines.specs.declared.parts.Line.{Line}
use Rattle.py_lines.specs.Logical.{HasLines}
use Rattle.py_tree.specs.Tree.{ScriptTree}
use Rattle.slice_text.specs.Spanless.{spanless}

-- The text has logical lines, and they are so with this script, up to the byte spans of its statements: in the grammar, a script
-- of a language, or one within limits.
pub record HasScript (are : List Line → ScriptTree → Type 0) (text : List ℕ) (script : ScriptTree) : Type 0 where
  pub lines : List Line
  pub has_lines : HasLines text lines
  pub tree : ScriptTree
  pub is_script : are lines tree
  pub same : spanless tree ≡ spanless script
