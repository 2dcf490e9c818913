use Rattle.py_tree.specs.declared.expr.Expr.{Expr}
use Rattle.std.proofs.Common.{ap, sym, ◌∙◌}
use Rattle.py_tree.specs.Erasure.{expr_of}
use Rattle.py_tree.proofs.ExprTrees.{attr_tree}
use Rattle.py_expressions.proofs.ExprForms.{is_attr_tree, no_attr}
use Rattle.py_expressions.proofs.SpelledForms.{attr_form, other_form}
use Rattle.py_expressions.proofs.spelled.form_of.Goals as goal

-- src/spelled.rt
pub returns-in-Attr : goal.returns-in-Attr
returns-in-Attr c = attr_form _ _ _ _ _ _ c.if-not-part.false (ap expr_of (sym {A = Expr} c.deref.ensures ∙ c.in-Attr.is) ∙ attr_tree _ _ _)

-- src/spelled.rt
pub returns-in_default : goal.returns-in_default
returns-in_default c = other_form _ _ _ c.if-not-part.false (ap (λ e. is_attr_tree (expr_of e)) (sym {A = Expr} c.deref.ensures) ∙ no_attr _ c.in_default.not-Attr)
