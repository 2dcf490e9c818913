use Rattle.std.proofs.Common.{rules}
use Rattle.py_grammar.proofs.ParamParts.{opening_refused, names_refused, closing_refused, params_found}
use Rattle.py_grammar.proofs.names.params.Goals as goal

-- src/names.rt
pub returns-in_err-sign-clause-refused : goal.returns-in_err-sign-clause-refused
returns-in_err-sign-clause-refused c = let is = opening_refused c.args.cursor.now.rest.now _ c.in_err-sign.ensures.refused in search (rules, is)

-- src/names.rt
pub returns-in_err-list-clause-refused : goal.returns-in_err-list-clause-refused
returns-in_err-list-clause-refused c = let is = names_refused _ c.args.cursor.now.rest.now _ _ c.in_ok-sign.ensures.taken c.in_err-list.ensures.refused in search (rules, is)

-- src/names.rt
pub returns-in_err-sign-2-clause-refused : goal.returns-in_err-sign-2-clause-refused
returns-in_err-sign-2-clause-refused c =
    let is = closing_refused _ c.args.cursor.now.rest.now _ _ _ _ c.in_ok-sign.ensures.taken c.in_ok-list.ensures.found c.in_err-sign-2.ensures.refused in
    search (rules, is)

-- src/names.rt
pub returns-clause-found : goal.returns-clause-found
returns-clause-found c = params_found _ _ c.args.cursor.now.rest.now _ _ _ _ c.in_ok-sign.ensures.taken c.in_ok-list.ensures.found c.in_ok-sign-2.ensures.taken
