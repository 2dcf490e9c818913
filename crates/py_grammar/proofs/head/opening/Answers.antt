use Rattle.py_grammar.proofs.LineForms.{else_there, try_there}
use Rattle.py_grammar.proofs.head.opening.Goals as goal

-- src/head.rt
pub returns-in-14-clause-found : goal.returns-in-14-clause-found
returns-in-14-clause-found c k same = else_there k c.args.word c.args.cursor.now.rest.now c.in-14.is

-- src/head.rt
pub returns-in-31-clause-found : goal.returns-in-31-clause-found
returns-in-31-clause-found c k same = try_there k c.args.word c.args.cursor.now.rest.now c.in-31.is
