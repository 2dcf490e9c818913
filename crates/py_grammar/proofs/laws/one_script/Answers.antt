use Rattle.std.proofs.Common.{subst}
use Rattle.py_grammar.specs.Grammar.{InGrammar}
use Rattle.py_grammar.proofs.OneScript.{one_tree}
use Rattle.py_grammar.proofs.laws.one_script.Goals as goal

pub returns-clause-lines : goal.returns-clause-lines
returns-clause-lines c lines a b x y = one_tree lines a b x y

pub returns-clause-text : goal.returns-clause-text
returns-clause-text c text lines others a b has other x y = one_tree lines a b x (subst (λ ls. InGrammar ls b) (c.one_list_of_lines.ensures text others lines other has) y)
