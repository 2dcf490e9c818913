use Rattle.std.proofs.Common.{rules, None, Some, refl}
use Rattle.std.proofs.lemmas.Bool.{not-true, not-false}
use Rattle.py_tree.proofs.StmtTrees.{return_tree}
use Rattle.py_grammar.specs.ParsedSimple.{around_of}
use Rattle.py_expressions.proofs.RowReads.{nothing_there, something_there}
use Rattle.py_grammar.proofs.WordRefusals.{return_found, return_value_found, return_outside, return_refused, return_more}
use Rattle.py_grammar.proofs.simple.return_value.Goals as goal

-- src/simple.rt
pub returns-then-not-around-clause-refused : goal.returns-then-not-around-clause-refused
returns-then-not-around-clause-refused c = return_outside (around_of c.args.around) c.args.cursor.now.rest.now _ (not-true _ c.if-not-around.true) refl

-- src/simple.rt
pub returns-then-is_empty-clause-found : goal.returns-then-is_empty-clause-found
returns-then-is_empty-clause-found c =
    return_found (around_of c.args.around) c.args.cursor.now.rest.now _ (not-false _ c.if-not-around.false) (nothing_there _ _ c.is_empty.ensures c.if-is_empty.true) (return_tree None)

-- src/simple.rt
pub returns-in_err-value-clause-refused : goal.returns-in_err-value-clause-refused
returns-in_err-value-clause-refused c =
    let is = return_refused (around_of c.args.around) c.args.cursor.now.rest.now _ (not-false _ c.if-not-around.false) (something_there _ _ c.is_empty.ensures c.if-is_empty.false) c.in_err-value.ensures.refused in
    search (rules, is)

-- src/simple.rt
pub returns-in_err-end-clause-refused : goal.returns-in_err-end-clause-refused
returns-in_err-end-clause-refused c =
    let is = return_more (around_of c.args.around) c.args.cursor.now.rest.now c.exprs.new.self.rest.now _ _ (not-false _ c.if-not-around.false) c.in_ok-value.ensures.found c.in_err-end.ensures.more in
    search (rules, is)

-- src/simple.rt
pub returns-clause-found : goal.returns-clause-found
returns-clause-found c = rw c.into_inner.ensures (return_value_found (around_of c.args.around) c.args.cursor.now.rest.now _ _ _ (not-false _ c.if-not-around.false) c.in_ok-value.ensures.found c.in_ok-end.ensures.ended (return_tree (Some c.in_ok-value.value.expr.value)))
