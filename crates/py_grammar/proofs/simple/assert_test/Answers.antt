use Rattle.std.proofs.Common.{rules, List, None, Some, subst, sym, ◌∙◌}
use Rattle.py_lines.specs.declared.parts.Token.{Token}
use Rattle.py_tree.proofs.StmtTrees.{assert_tree}
use Rattle.py_grammar.specs.ParsedSimple.{IsMore}
use Rattle.py_grammar.proofs.SimpleRefusals.{assert_refused, assert_more, assert_found, message_refused, message_more, message_found}
use Rattle.py_grammar.proofs.simple.assert_test.Goals as goal

-- src/simple.rt
pub returns-in_err-test-clause-refused : goal.returns-in_err-test-clause-refused
returns-in_err-test-clause-refused c = let is = assert_refused c.args.cursor.now.rest.now _ c.in_err-test.ensures.refused in search (rules, is)

-- src/simple.rt
pub returns-in_err-end-clause-refused : goal.returns-in_err-end-clause-refused
returns-in_err-end-clause-refused c =
    let more = subst (λ (ts : List Token). IsMore ts c.in_err-end.field-0.0) c.in_default.ensures.kept c.in_err-end.ensures.more in
    let is = assert_more c.args.cursor.now.rest.now c.expr.new.self.rest.now _ _ c.in_ok-test.ensures.found c.in_default.ensures.absent more in
    search (rules, is)

-- src/simple.rt
pub returns-in_default-clause-found : goal.returns-in_default-clause-found
returns-in_default-clause-found c = rw c.into_inner.ensures (assert_found c.args.cursor.now.rest.now c.expr.new.self.rest.now _ _ c.in_ok-test.ensures.found (sym c.in_default.ensures.kept ∙ c.in_ok-end.ensures.ended) (assert_tree _ None))

-- src/simple.rt
pub returns-in_err-message-clause-refused : goal.returns-in_err-message-clause-refused
returns-in_err-message-clause-refused c =
    let is = message_refused _ c.args.cursor.now.rest.now c.expr.new.self.rest.now c.take_sign.new.self.rest.now _ _ c.in_ok-test.ensures.found c.in-Some.ensures.taken c.in_err-message.ensures.refused in
    search (rules, is)

-- src/simple.rt
pub returns-in_err-end-2-clause-refused : goal.returns-in_err-end-2-clause-refused
returns-in_err-end-2-clause-refused c =
    let is = message_more _ c.args.cursor.now.rest.now c.expr.new.self.rest.now c.take_sign.new.self.rest.now c.expr-2.new.self.rest.now _ _ _
    c.in_ok-test.ensures.found c.in-Some.ensures.taken c.in_ok-message.ensures.found c.in_err-end-2.ensures.more in
    search (rules, is)

-- src/simple.rt
pub returns-clause-found : goal.returns-clause-found
returns-clause-found c = rw c.into_inner-2.ensures (rw c.into_inner-3.ensures (message_found _ c.args.cursor.now.rest.now c.expr.new.self.rest.now c.take_sign.new.self.rest.now c.expr-2.new.self.rest.now _ _ _
    c.in_ok-test.ensures.found c.in-Some.ensures.taken c.in_ok-message.ensures.found c.in_ok-end-2.ensures.ended (assert_tree _ (Some c.in_ok-message.message.expr.value))))
