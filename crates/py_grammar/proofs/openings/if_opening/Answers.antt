use Rattle.std.proofs.Common.{rules}
use Rattle.py_grammar.proofs.TestOpenings.{if_found, if_refused}
use Rattle.py_grammar.proofs.openings.if_opening.Goals as goal

-- src/openings.rt
pub returns-in_err-test-clause-refused : goal.returns-in_err-test-clause-refused
returns-in_err-test-clause-refused c k = let is = if_refused k c.args.cursor.now.rest.now _ c.in_err-test.ensures.refused in search (rules, is)

-- src/openings.rt
pub returns-clause-found : goal.returns-clause-found
returns-clause-found c k = rw c.into_inner.ensures (if_found k c.args.cursor.now.rest.now c.expr.new.self.rest.now _ c.in_ok-test.ensures.found)
