use Rattle.std.proofs.Common.{rules}
use Rattle.py_grammar.specs.ParsedSimple.{around_of}
use Rattle.py_grammar.proofs.PlacedParts.{behind_none, behind_some, behind_is_refused, none_there}
use Rattle.py_grammar.proofs.head.read_behind.Goals as goal

-- src/head.rt
pub returns-in_default-clause-found : goal.returns-in_default-clause-found
returns-in_default-clause-found c = behind_none (around_of c.args.around) c.args.limit c.args.cursor.now.rest.now (none_there _ c.in_default.ensures.cases)

-- src/head.rt
pub returns-in_err-form-clause-refused : goal.returns-in_err-form-clause-refused
returns-in_err-form-clause-refused c =
    let is = behind_is_refused (around_of c.args.around) c.args.limit c.args.cursor.now.rest.now c.in-Some.token.now _ _ c.in-Some.ensures.cases.0 c.in_err-form.ensures.refused in
    search (rules, is)

-- src/head.rt
pub returns-clause-found : goal.returns-clause-found
returns-clause-found c =
    behind_some (around_of c.args.around) c.args.limit c.args.cursor.now.rest.now c.in-Some.token.now _ _ c.in-Some.ensures.cases.0 c.in_ok-form.ensures.within c.in_ok-form.ensures.found
