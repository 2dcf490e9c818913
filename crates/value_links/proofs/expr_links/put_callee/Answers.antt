use Rattle.std.proofs.Common.{◌++◌, ap, ◌∙◌}
use Rattle.py_tree.specs.Erasure.{exprs_of}
use Rattle.value_links.specs.Links.{call_links}
use Rattle.value_links.proofs.ExprForms.{plain_callee, attr_callee}
use Rattle.value_links.proofs.expr_links.put_callee.Goals as goal

pub returns-in_ok-put_method-in-Attr : goal.returns-in_ok-put_method-in-Attr
returns-in_ok-put_method-in-Attr c = attr_callee _ _ _ _ _ _ _ _ _ c.in-Attr.is c.deref.ensures c.in_ok-put_method-in-Attr.ensures

pub returns-in_ok-put_call-in_default : goal.returns-in_ok-put_call-in_default
returns-in_ok-put_call-in_default c = plain_callee _ _ _ _ _ c.in_default.not-Attr (c.in_ok-put_call-in_default.ensures ∙ ap (λ p. c.args.links.now.items ++ call_links c.args.at p (exprs_of c.args.arguments.now)) c.value_of.ensures)
