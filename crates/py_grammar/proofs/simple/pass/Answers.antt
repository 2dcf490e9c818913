use Rattle.std.proofs.Common.{rules}
use Rattle.py_tree.proofs.StmtTrees.{pass_tree}
use Rattle.py_grammar.proofs.WordRefusals.{pass_found, pass_more}
use Rattle.py_grammar.proofs.simple.pass.Goals as goal

-- src/simple.rt
pub returns-in_err-end-clause-refused : goal.returns-in_err-end-clause-refused
returns-in_err-end-clause-refused c = let is = pass_more c.args.cursor.now.rest.now _ c.in_err-end.ensures.more in search (rules, is)

-- src/simple.rt
pub returns-clause-found : goal.returns-clause-found
returns-clause-found c = pass_found c.args.cursor.now.rest.now _ c.in_ok-end.ensures.ended pass_tree
