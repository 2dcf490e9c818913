use Rattle.std.proofs.Common.{rules, None, Some}
use Rattle.py_tree.proofs.StmtTrees.{raise_tree}
use Rattle.py_grammar.specs.ParsedSimple.{around_of}
use Rattle.py_expressions.proofs.RowReads.{nothing_there, something_there}
use Rattle.py_grammar.proofs.WordRefusals.{raise_found, raise_value_found, raise_outside, raise_refused, raise_more}
use Rattle.py_grammar.proofs.simple.raise.Goals as goal

-- src/simple.rt
pub returns-then-around-clause-found : goal.returns-then-around-clause-found
returns-then-around-clause-found c =
    raise_found (around_of c.args.around) c.args.cursor.now.rest.now _ c.if-around.true (nothing_there _ _ c.is_empty.ensures c.if-is_empty.true) (raise_tree None)

-- src/simple.rt
pub returns-then-is_empty-clause-refused : goal.returns-then-is_empty-clause-refused
returns-then-is_empty-clause-refused c =
    raise_outside (around_of c.args.around) c.args.cursor.now.rest.now c.if-around.false (nothing_there _ _ c.is_empty.ensures c.if-is_empty.true)

-- src/simple.rt
pub returns-in_err-value-clause-refused : goal.returns-in_err-value-clause-refused
returns-in_err-value-clause-refused c =
    let is = raise_refused (around_of c.args.around) c.args.cursor.now.rest.now _ (something_there _ _ c.is_empty.ensures c.if-is_empty.false) c.in_err-value.ensures.refused in
    search (rules, is)

-- src/simple.rt
pub returns-in_err-end-clause-refused : goal.returns-in_err-end-clause-refused
returns-in_err-end-clause-refused c =
    let is = raise_more (around_of c.args.around) c.args.cursor.now.rest.now c.expr.new.self.rest.now _ _ c.in_ok-value.ensures.found c.in_err-end.ensures.more in
    search (rules, is)

-- src/simple.rt
pub returns-clause-found : goal.returns-clause-found
returns-clause-found c = rw c.into_inner.ensures (raise_value_found (around_of c.args.around) c.args.cursor.now.rest.now _ _ _ c.in_ok-value.ensures.found c.in_ok-end.ensures.ended (raise_tree (Some c.in_ok-value.value.expr.value)))
