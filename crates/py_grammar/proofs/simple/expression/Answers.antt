use Rattle.std.proofs.Common.{rules, ◌≡◌, false, List, ap, sym, ◌∙◌, subst}
use Rattle.py_lines.specs.declared.parts.Token.{Token}
use Rattle.py_tree.proofs.StmtTrees.{do_tree}
use Rattle.py_grammar.specs.ParsedSimple.{aug_sign_next, IsMore}
use Rattle.py_expressions.specs.Parsed.{is_sign_next}
use Rattle.py_grammar.proofs.SimpleParts.{from_none}
use Rattle.py_grammar.proofs.ExprRefusals.{row_refused, row_more, row_found}
use Rattle.py_grammar.proofs.simple.expression.Goals as goal

-- src/simple.rt
pub returns-in_err-first-clause-refused : goal.returns-in_err-first-clause-refused
returns-in_err-first-clause-refused c = let is = row_refused c.args.cursor.now.rest.now _ c.requires c.in_err-first.ensures.refused in search (rules, is)

-- src/simple.rt
pub returns-in_err-end-clause-refused : goal.returns-in_err-end-clause-refused
returns-in_err-end-clause-refused c =
    let kept = from_none (c.take_sign.new.self.rest.now ≡ c.exprs.new.self.rest.now) _ _ c.is_some.ensures c.if-is_some.false c.take_sign.ensures.kept in
    let absent = from_none (is_sign_next 9 c.exprs.new.self.rest.now ≡ false) _ _ c.is_some.ensures c.if-is_some.false c.take_sign.ensures.absent in
    let more = subst (λ (ts : List Token). IsMore ts c.in_err-end.field-0.0) (c.in_default.ensures.kept ∙ kept) c.in_err-end.ensures.more in
    let is = row_more c.args.cursor.now.rest.now c.exprs.new.self.rest.now _ _ c.in_ok-first.ensures.found absent (ap aug_sign_next (sym kept) ∙ c.in_default.ensures.absent) more in
    search (rules, is)

-- src/simple.rt
pub returns-clause-found : goal.returns-clause-found
returns-clause-found c = rw c.into_inner.ensures (let kept = from_none (c.take_sign.new.self.rest.now ≡ c.exprs.new.self.rest.now) _ _ c.is_some.ensures c.if-is_some.false c.take_sign.ensures.kept in
    row_found c.args.cursor.now.rest.now c.exprs.new.self.rest.now _ _ c.in_ok-first.ensures.found (sym (c.in_default.ensures.kept ∙ kept) ∙ c.in_ok-end.ensures.ended) (do_tree _))
