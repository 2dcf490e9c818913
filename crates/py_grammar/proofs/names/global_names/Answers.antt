use Rattle.std.proofs.Common.{rules}
use Rattle.py_grammar.proofs.NameLists.{global_refused, global_more, global_found}
use Rattle.py_grammar.proofs.names.global_names.Goals as goal

-- src/names.rt
pub returns-in_err-list-clause-refused : goal.returns-in_err-list-clause-refused
returns-in_err-list-clause-refused c = let is = global_refused c.args.given.now c.args.cursor.now.rest.now _ c.in_err-list.ensures.refused in search (rules, is)

-- src/names.rt
pub returns-in_err-end-clause-refused : goal.returns-in_err-end-clause-refused
returns-in_err-end-clause-refused c = let is = global_more c.args.given.now c.args.cursor.now.rest.now _ _ _ c.in_ok-list.ensures.found c.in_err-end.ensures.more in search (rules, is)

-- src/names.rt
pub returns-clause-found : goal.returns-clause-found
returns-clause-found c = global_found c.args.given.now c.args.cursor.now.rest.now _ (record { list = c.in_ok-list.list }) c.in_ok-list.ensures.found c.in_ok-end.ensures.ended
