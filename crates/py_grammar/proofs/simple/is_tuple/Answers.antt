use Rattle.std.proofs.Common.{ap, sym, ◌∙◌}
use Rattle.py_tree.specs.Erasure.{expr_of}
use Rattle.py_tree.proofs.ExprTrees.{tuple_tree}
use Rattle.py_grammar.specs.ParsedSimple.{is_tuple_tree}
use Rattle.py_grammar.proofs.ExprForms.{no_tuple}
use Rattle.py_grammar.proofs.simple.is_tuple.Goals as goal

-- src/simple.rt
pub returns-in-Tuple : goal.returns-in-Tuple
returns-in-Tuple c = sym (ap (λ e. is_tuple_tree (expr_of e)) c.in-Tuple.is ∙ ap is_tuple_tree (tuple_tree _ _))

-- src/simple.rt
pub returns-in_default : goal.returns-in_default
returns-in_default c = sym (no_tuple _ c.in_default.not-Tuple)
