use Rattle.std.proofs.Common.{rules}
use Rattle.py_grammar.proofs.ForHeads.{for_target_refused, for_in_refused, for_items_refused, for_found}
use Rattle.py_grammar.proofs.openings.for_opening.Goals as goal

-- src/openings.rt
pub returns-in_err-target-clause-refused : goal.returns-in_err-target-clause-refused
returns-in_err-target-clause-refused c = λ context. let is = for_target_refused context c.args.cursor.now.rest.now _ c.in_err-target.ensures.refused in search (rules, is)

-- src/openings.rt
pub returns-in_err-keyword-clause-refused : goal.returns-in_err-keyword-clause-refused
returns-in_err-keyword-clause-refused c = λ context.
    let is = for_in_refused context _ c.args.cursor.now.rest.now _ _ c.in_ok-target.ensures.found c.in_err-keyword.ensures.refused in search (rules, is)

-- src/openings.rt
pub returns-in_err-items-clause-refused : goal.returns-in_err-items-clause-refused
returns-in_err-items-clause-refused c = λ context.
    let is = for_items_refused context _ c.args.cursor.now.rest.now _ _ _ _ c.in_ok-target.ensures.found c.in_ok-keyword.ensures.taken c.in_err-items.ensures.refused in search (rules, is)

-- src/openings.rt
pub returns-clause-found : goal.returns-clause-found
returns-clause-found c = λ context. rw c.into_inner.ensures (rw c.into_inner-2.ensures (for_found context _ _ c.args.cursor.now.rest.now _ _ _ _ c.in_ok-target.ensures.found c.in_ok-keyword.ensures.taken c.in_ok-items.ensures.found))
