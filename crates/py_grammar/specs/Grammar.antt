-- The grammar of scripts, a relation between logical lines and the tree. Limits are not part of it, nor what is asked of a
-- statement by the place where it stands.
use Rattle.std.specs.Prelude.{◌≡◌, ⊤, List, []}
use Rattle.py_lines.specs.declared.parts.Line.{Line}
use Rattle.py_tree.specs.Tree.{ScriptTree}
use Rattle.py_grammar.specs.Written.{Script, empty_script, script}
use Rattle.py_grammar.specs.Layout.{body_lines, FitsBody}
use Rattle.py_grammar.specs.StatementTrees.{script_tree}

abbrev pub script_lines : Script → List Line
script_lines empty_script = []
script_lines (script body) = body_lines body

abbrev pub FitsScript : Script → Type 0
FitsScript empty_script = ⊤
FitsScript (script body) = FitsBody 0 body

pub record InGrammar (lines : List Line) (tree : ScriptTree) : Type 0 where
  pub written : Script
  pub lines_are : lines ≡ script_lines written
  pub fits : FitsScript written
  pub tree_is : tree ≡ script_tree written
