use Rattle.std.proofs.Common.{rules, ap, sym, ◌∙◌, refl}
use Rattle.py_tree.specs.declared.expr.Expr.{Expr}
use Rattle.py_tree.specs.Erasure.{expr_of}
use Rattle.py_grammar.specs.ParsedSimple.{is_tuple_tree}
use Rattle.py_tree.proofs.StmtTrees.{aug_tree}
use Rattle.py_grammar.proofs.AugRefusals.{aug_tuple, aug_wrong, aug_is_target, aug_refused, aug_more, aug_found}
use Rattle.py_grammar.proofs.simple.augmented.Goals as goal

-- src/simple.rt
pub returns-then-is_tuple-clause-refused : goal.returns-then-is_tuple-clause-refused
returns-then-is_tuple-clause-refused c = aug_tuple c.args.first c.args.at c.args.op c.args.cursor.now.rest.now _ (ap (λ e. is_tuple_tree (expr_of e)) (sym {A = Expr} c.deref.ensures) ∙ sym c.is_tuple.ensures ∙ c.if-is_tuple.true) refl

-- src/simple.rt
pub returns-then-not-first-clause-refused : goal.returns-then-not-first-clause-refused
returns-then-not-first-clause-refused c = aug_wrong c.args.first c.args.at c.args.op c.args.cursor.now.rest.now _ c.if-not-first.true refl

-- src/simple.rt
pub one_target-target-requires : goal.one_target-target-requires
one_target-target-requires c = record { form = aug_is_target c.args.first c.requires.first_is_row (ap (λ e. is_tuple_tree (expr_of e)) (sym {A = Expr} c.deref.ensures) ∙ sym c.is_tuple.ensures ∙ c.if-is_tuple.false) c.if-not-first.false }

-- src/simple.rt
pub returns-in_err-value-clause-refused : goal.returns-in_err-value-clause-refused
returns-in_err-value-clause-refused c =
    let is = aug_refused c.args.first c.args.at c.args.op c.args.cursor.now.rest.now _ (ap (λ e. is_tuple_tree (expr_of e)) (sym {A = Expr} c.deref.ensures) ∙ sym c.is_tuple.ensures ∙ c.if-is_tuple.false) c.if-not-first.false c.in_err-value.ensures.refused in
    search (rules, is)

-- src/simple.rt
pub returns-in_err-end-clause-refused : goal.returns-in_err-end-clause-refused
returns-in_err-end-clause-refused c =
    let is = aug_more c.args.first c.args.at c.args.op c.args.cursor.now.rest.now c.exprs.new.self.rest.now _ _ (ap (λ e. is_tuple_tree (expr_of e)) (sym {A = Expr} c.deref.ensures) ∙ sym c.is_tuple.ensures ∙ c.if-is_tuple.false) c.if-not-first.false
    c.in_ok-value.ensures.found c.in_err-end.ensures.more in
    search (rules, is)

-- src/simple.rt
pub returns-clause-found : goal.returns-clause-found
returns-clause-found c = rw c.into_inner.ensures (aug_found c.args.first c.args.at c.args.op c.args.cursor.now.rest.now c.exprs.new.self.rest.now _ _ _ (ap (λ e. is_tuple_tree (expr_of e)) (sym {A = Expr} c.deref.ensures) ∙ sym c.is_tuple.ensures ∙ c.if-is_tuple.false) c.if-not-first.false
    c.one_target-target.ensures c.in_ok-value.ensures.found c.in_ok-end.ensures.ended (aug_tree _ _ _ _))
