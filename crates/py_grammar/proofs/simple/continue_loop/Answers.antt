use Rattle.std.proofs.Common.{rules, refl}
use Rattle.std.proofs.lemmas.Bool.{not-true, not-false}
use Rattle.py_tree.proofs.StmtTrees.{continue_tree}
use Rattle.py_grammar.specs.ParsedSimple.{around_of}
use Rattle.py_grammar.proofs.WordRefusals.{continue_found, continue_more, continue_outside}
use Rattle.py_grammar.proofs.simple.continue_loop.Goals as goal

-- src/simple.rt
pub returns-then-not-around-clause-refused : goal.returns-then-not-around-clause-refused
returns-then-not-around-clause-refused c = continue_outside (around_of c.args.around) c.args.cursor.now.rest.now _ (not-true _ c.if-not-around.true) refl

-- src/simple.rt
pub returns-in_err-end-clause-refused : goal.returns-in_err-end-clause-refused
returns-in_err-end-clause-refused c = let is = continue_more (around_of c.args.around) c.args.cursor.now.rest.now _ (not-false _ c.if-not-around.false) c.in_err-end.ensures.more in search (rules, is)

-- src/simple.rt
pub returns-clause-found : goal.returns-clause-found
returns-clause-found c = continue_found (around_of c.args.around) c.args.cursor.now.rest.now _ (not-false _ c.if-not-around.false) c.in_ok-end.ensures.ended continue_tree
