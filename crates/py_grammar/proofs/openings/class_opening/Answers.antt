use Rattle.std.proofs.Common.{rules}
use Rattle.py_grammar.proofs.NameHeads.{class_name_refused, class_base_refused, class_found}
use Rattle.py_grammar.proofs.openings.class_opening.Goals as goal

-- src/openings.rt
pub returns-in_err-name-clause-refused : goal.returns-in_err-name-clause-refused
returns-in_err-name-clause-refused c = λ context. let is = class_name_refused context c.args.cursor.now.rest.now _ c.in_err-name.ensures.refused in search (rules, is)

-- src/openings.rt
pub returns-in_err-base-clause-refused : goal.returns-in_err-base-clause-refused
returns-in_err-base-clause-refused c = λ context.
    let is = class_base_refused context _ _ c.args.cursor.now.rest.now _ _ c.in_ok-name.ensures.taken c.in_err-base.ensures.refused in search (rules, is)

-- src/openings.rt
pub returns-clause-found : goal.returns-clause-found
returns-clause-found c = λ context. class_found context _ _ _ c.args.cursor.now.rest.now _ _ c.in_ok-name.ensures.taken c.in_ok-base.ensures.found
