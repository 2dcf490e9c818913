use Rattle.std.proofs.Common.{rules, sym, ◌∙◌}
use Rattle.py_grammar.proofs.NameParts.{base_empty_refused, base_empty_found, base_name_refused, base_closing_refused, base_found}
use Rattle.py_grammar.proofs.names.base.Goals as goal

-- src/names.rt
pub returns-in_err-sign-clause-refused : goal.returns-in_err-sign-clause-refused
returns-in_err-sign-clause-refused c =
    let is = base_empty_refused _ c.args.cursor.now.rest.now _ _ c.in-Some.ensures.taken (sym c.at_name.ensures ∙ c.if-not-at_name.true) c.in_err-sign.ensures.refused in
    search (rules, is)

-- src/names.rt
pub returns-then-not-at_name-clause-found : goal.returns-then-not-at_name-clause-found
returns-then-not-at_name-clause-found c = base_empty_found _ _ c.args.cursor.now.rest.now _ _ c.in-Some.ensures.taken c.in_ok-sign.ensures.taken

-- src/names.rt
pub returns-in_err-at-clause-refused : goal.returns-in_err-at-clause-refused
returns-in_err-at-clause-refused c =
    let is = base_name_refused _ c.args.cursor.now.rest.now _ _ c.in-Some.ensures.taken (sym c.at_name.ensures ∙ c.if-not-at_name.false) c.in_err-at.ensures.refused in
    search (rules, is)

-- src/names.rt
pub returns-in_err-sign-2-clause-refused : goal.returns-in_err-sign-2-clause-refused
returns-in_err-sign-2-clause-refused c =
    let is = base_closing_refused _ _ _ c.args.cursor.now.rest.now _ _ _ c.in-Some.ensures.taken c.in_ok-at.ensures.taken c.in_err-sign-2.ensures.refused in
    search (rules, is)

-- src/names.rt
pub returns-clause-found : goal.returns-clause-found
returns-clause-found c = base_found _ _ _ _ c.args.cursor.now.rest.now _ _ _ c.in-Some.ensures.taken c.in_ok-at.ensures.taken c.in_ok-sign-2.ensures.taken
