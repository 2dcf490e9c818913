use Rattle.std.proofs.Common.{rules, refl}
use Rattle.std.proofs.lemmas.Bool.{not-true, not-false}
use Rattle.py_tree.proofs.StmtTrees.{assign_tree}
use Rattle.py_grammar.proofs.ExprRefusals.{assign_wrong, assign_is_target, assign_refused, assign_more, assign_found}
use Rattle.py_grammar.proofs.simple.assign.Goals as goal

-- src/simple.rt
pub returns-then-not-first-clause-refused : goal.returns-then-not-first-clause-refused
returns-then-not-first-clause-refused c = assign_wrong c.args.first _ c.args.cursor.now.rest.now (not-true _ c.if-not-first.true) refl

-- src/simple.rt
pub target_of-requires : goal.target_of-requires
target_of-requires c = record { form = assign_is_target c.args.first c.requires.first_is_row (not-false _ c.if-not-first.false) }

-- src/simple.rt
pub returns-in_err-value-clause-refused : goal.returns-in_err-value-clause-refused
returns-in_err-value-clause-refused c =
    let is = assign_refused c.args.first c.args.cursor.now.rest.now _ (not-false _ c.if-not-first.false) c.in_err-value.ensures.refused in
    search (rules, is)

-- src/simple.rt
pub returns-in_err-end-clause-refused : goal.returns-in_err-end-clause-refused
returns-in_err-end-clause-refused c =
    let is = assign_more c.args.first c.args.cursor.now.rest.now c.exprs.new.self.rest.now _ _ (not-false _ c.if-not-first.false) c.in_ok-value.ensures.found c.in_err-end.ensures.more in
    search (rules, is)

-- src/simple.rt
pub returns-clause-found : goal.returns-clause-found
returns-clause-found c = rw c.into_inner.ensures (assign_found c.args.first c.args.cursor.now.rest.now c.exprs.new.self.rest.now _ _ _ (not-false _ c.if-not-first.false) c.in_ok-target.ensures
    c.in_ok-value.ensures.found c.in_ok-end.ensures.ended (assign_tree _ _))
