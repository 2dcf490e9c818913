use Rattle.py_grammar.proofs.head.read_line_head.Goals as goal

-- src/head.rt
pub returns-in-Some-clause-refused : goal.returns-in-Some-clause-refused
returns-in-Some-clause-refused c = c.in-Some.ensures.refused.there c.args.given.now c.args.limit
