use Rattle.std.proofs.Common.{rules, sym, ◌∙◌}
use Rattle.py_grammar.proofs.TestOpenings.{except_every, except_found, except_refused, except_name_refused}
use Rattle.py_grammar.proofs.openings.except_opening.Goals as goal

-- src/openings.rt
pub returns-then-not-at_expr-clause-found : goal.returns-then-not-at_expr-clause-found
returns-then-not-at_expr-clause-found c k = except_every k c.args.cursor.now.rest.now (sym c.at_expr.ensures ∙ c.if-not-at_expr.true)

-- src/openings.rt
pub returns-in_err-class-clause-refused : goal.returns-in_err-class-clause-refused
returns-in_err-class-clause-refused c k =
    let is = except_refused k c.args.cursor.now.rest.now _ (sym c.at_expr.ensures ∙ c.if-not-at_expr.false) c.in_err-class.ensures.refused in
    search (rules, is)

-- src/openings.rt
pub returns-in_err-bound-clause-refused : goal.returns-in_err-bound-clause-refused
returns-in_err-bound-clause-refused c k =
    let is = except_name_refused k c.args.cursor.now.rest.now c.expr.new.self.rest.now _ _ (sym c.at_expr.ensures ∙ c.if-not-at_expr.false) c.in_ok-class.ensures.found c.in_err-bound.ensures.refused in
    search (rules, is)

-- src/openings.rt
pub returns-clause-found : goal.returns-clause-found
returns-clause-found c k = rw c.into_inner.ensures (except_found k c.args.cursor.now.rest.now c.expr.new.self.rest.now c.naming.new.cursor.rest.now _ _ (sym c.at_expr.ensures ∙ c.if-not-at_expr.false) c.in_ok-class.ensures.found c.in_ok-bound.ensures.found)
