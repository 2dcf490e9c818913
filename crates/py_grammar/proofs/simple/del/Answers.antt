use Rattle.py_tree.specs.declared.expr.Expr.{Expr}
use Rattle.std.proofs.Common.{rules, ap, sym, ◌∙◌}
use Rattle.py_tree.specs.Erasure.{expr_of}
use Rattle.py_tree.proofs.StmtTrees.{del_tree}
use Rattle.py_tree.proofs.ExprTrees.{attr_tree}
use Rattle.py_expressions.proofs.ExprForms.{is_attr_tree, no_attr}
use Rattle.py_grammar.proofs.SimpleRefusals.{del_refused, del_wrong, del_attribute, del_more, del_is_target, del_found}
use Rattle.py_grammar.proofs.simple.del.Goals as goal

-- src/simple.rt
pub returns-in_err-target-clause-refused : goal.returns-in_err-target-clause-refused
returns-in_err-target-clause-refused c = let is = del_refused c.args.cursor.now.rest.now _ c.in_err-target.ensures.refused in search (rules, is)

-- src/simple.rt
pub returns-then-not-target-clause-refused : goal.returns-then-not-target-clause-refused
returns-then-not-target-clause-refused c = del_wrong c.args.cursor.now.rest.now c.expr.new.self.rest.now _ _ c.in_ok-target.ensures.found c.if-not-target.true c.refuse.ensures

-- src/simple.rt
pub returns-in-Attr-clause-refused : goal.returns-in-Attr-clause-refused
returns-in-Attr-clause-refused c =
    del_attribute _ _ _ c.args.cursor.now.rest.now c.expr.new.self.rest.now _ _ c.in_ok-target.ensures.found c.if-not-target.false (ap expr_of (sym {A = Expr} c.deref.ensures ∙ c.in-Attr.is) ∙ attr_tree _ _ _) c.refuse-in-Attr.ensures

-- src/simple.rt
pub returns-in_err-end-clause-refused : goal.returns-in_err-end-clause-refused
returns-in_err-end-clause-refused c =
    let is = del_more c.args.cursor.now.rest.now c.expr.new.self.rest.now _ _ c.in_ok-target.ensures.found c.in_err-end.ensures.more in
    search (rules, is)

-- src/simple.rt
pub one_target-requires : goal.one_target-requires
one_target-requires c = record { form = del_is_target _ _ _ c.in_ok-target.ensures.found c.if-not-target.false }

-- src/simple.rt
pub returns-clause-found : goal.returns-clause-found
returns-clause-found c =
    del_found c.args.cursor.now.rest.now c.expr.new.self.rest.now _ _ _ c.in_ok-target.ensures.found c.if-not-target.false (ap (λ e. is_attr_tree (expr_of e)) (sym {A = Expr} c.deref.ensures) ∙ no_attr _ c.in_default.not-Attr) c.one_target.ensures c.in_ok-end.ensures.ended (del_tree _)
