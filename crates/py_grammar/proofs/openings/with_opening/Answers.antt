use Rattle.std.proofs.Common.{rules}
use Rattle.py_grammar.proofs.TestOpenings.{with_found, with_refused, with_name_refused}
use Rattle.py_grammar.proofs.openings.with_opening.Goals as goal

-- src/openings.rt
pub returns-in_err-value-clause-refused : goal.returns-in_err-value-clause-refused
returns-in_err-value-clause-refused c k = let is = with_refused k c.args.cursor.now.rest.now _ c.in_err-value.ensures.refused in search (rules, is)

-- src/openings.rt
pub returns-in_err-bound-clause-refused : goal.returns-in_err-bound-clause-refused
returns-in_err-bound-clause-refused c k =
    let is = with_name_refused k c.args.cursor.now.rest.now c.expr.new.self.rest.now _ _ c.in_ok-value.ensures.found c.in_err-bound.ensures.refused in
    search (rules, is)

-- src/openings.rt
pub returns-clause-found : goal.returns-clause-found
returns-clause-found c k = rw c.into_inner.ensures (with_found k c.args.cursor.now.rest.now c.expr.new.self.rest.now c.naming.new.cursor.rest.now _ _ c.in_ok-value.ensures.found c.in_ok-bound.ensures.found)
