use Rattle.std.proofs.Common.{rules, refl}
use Rattle.std.proofs.lemmas.Bool.{not-true, not-false}
use Rattle.py_tree.proofs.StmtTrees.{break_tree}
use Rattle.py_grammar.specs.ParsedSimple.{around_of}
use Rattle.py_grammar.proofs.WordRefusals.{break_found, break_more, break_outside}
use Rattle.py_grammar.proofs.simple.break_loop.Goals as goal

-- src/simple.rt
pub returns-then-not-around-clause-refused : goal.returns-then-not-around-clause-refused
returns-then-not-around-clause-refused c = break_outside (around_of c.args.around) c.args.cursor.now.rest.now _ (not-true _ c.if-not-around.true) refl

-- src/simple.rt
pub returns-in_err-end-clause-refused : goal.returns-in_err-end-clause-refused
returns-in_err-end-clause-refused c = let is = break_more (around_of c.args.around) c.args.cursor.now.rest.now _ (not-false _ c.if-not-around.false) c.in_err-end.ensures.more in search (rules, is)

-- src/simple.rt
pub returns-clause-found : goal.returns-clause-found
returns-clause-found c = break_found (around_of c.args.around) c.args.cursor.now.rest.now _ (not-false _ c.if-not-around.false) c.in_ok-end.ensures.ended break_tree
