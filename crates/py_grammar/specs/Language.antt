-- Which lines are which script: the grammar and what is asked of a statement by its place together, and the limits beside them.
use Rattle.std.specs.Prelude.{◌≡◌, Bool, true, List}
use Rattle.py_lines.specs.declared.parts.Line.{Line}
use Rattle.py_tree.specs.Tree.{ScriptTree}
use Rattle.py_grammar.specs.Written.{Script}
use Rattle.py_grammar.specs.Grammar.{InGrammar}
use Rattle.py_grammar.specs.WellPlaced.{script_stands}
use Rattle.py_grammar.specs.Limits.{Limits, IsWithin}

-- The languages of scripts, of which there is one so far.
pub data Language : Type 0 where
  language_one : Language

-- the statements of a script that is written so stand where this language lets them
abbrev pub stands_in : Language → Script → Bool
stands_in language_one s = script_stands s

-- These lines are this script of the language: grammar and placement together.
pub record IsScriptIn (language : Language) (lines : List Line) (tree : ScriptTree) : Type 0 where
  pub grammar : InGrammar lines tree
  pub stands : stands_in language grammar.written ≡ true

-- They are one within these limits.
pub record IsScriptWithin (limits : Limits) (language : Language) (lines : List Line) (tree : ScriptTree) : Type 0 where
  pub script : IsScriptIn language lines tree
  pub within : IsWithin limits script.grammar.written
