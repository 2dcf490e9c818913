-- What is accepted: the scripts of the language within the limits of this profile.
use Rattle.std.specs.Prelude.{List}
use Rattle.py_lines.specs.declared.parts.Line.{Line}
use Rattle.py_tree.specs.Tree.{ScriptTree}
use Rattle.py_grammar.specs.Language.{language_one, IsScriptWithin}
use Rattle.py_grammar.specs.Limits.{profile}

abbrev pub IsScript : List Line → ScriptTree → Type 0
IsScript = IsScriptWithin profile language_one
