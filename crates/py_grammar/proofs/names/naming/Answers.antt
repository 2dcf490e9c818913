use Rattle.std.proofs.Common.{rules}
use Rattle.py_grammar.proofs.NameParts.{naming_refused, naming_found}
use Rattle.py_grammar.proofs.names.naming.Goals as goal

-- src/names.rt
pub returns-in_err-at-clause-refused : goal.returns-in_err-at-clause-refused
returns-in_err-at-clause-refused c = let is = naming_refused _ c.args.cursor.now.rest.now _ _ c.in-Some.ensures.taken c.in_err-at.ensures.refused in search (rules, is)

-- src/names.rt
pub returns-clause-found : goal.returns-clause-found
returns-clause-found c = naming_found _ _ _ c.args.cursor.now.rest.now _ _ c.in-Some.ensures.taken c.in_ok-at.ensures.taken
