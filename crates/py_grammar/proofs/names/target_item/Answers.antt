use Rattle.std.proofs.Common.{rules}
use Rattle.std.proofs.lemmas.Bool.{not-true, not-false}
use Rattle.py_grammar.proofs.ForTargets.{item_found, item_unread, item_wrong}
use Rattle.py_grammar.proofs.names.target_item.Goals as goal

-- src/names.rt
pub returns-in_err-item-clause-refused : goal.returns-in_err-item-clause-refused
returns-in_err-item-clause-refused c = let is = item_unread c.args.room c.args.cursor.now.rest.now _ c.in_err-item.ensures.refused in search (rules, is)

-- src/names.rt
pub returns-then-not-item-clause-refused : goal.returns-then-not-item-clause-refused
returns-then-not-item-clause-refused c = item_wrong c.args.room c.args.cursor.now.rest.now _ _ _ c.in_ok-item.ensures.found (not-true _ c.if-not-item.true) c.refuse.ensures

-- src/names.rt
pub returns-clause-found : goal.returns-clause-found
returns-clause-found c = item_found c.args.room c.args.cursor.now.rest.now _ _ c.in_ok-item.ensures.found (not-false _ c.if-not-item.false)
