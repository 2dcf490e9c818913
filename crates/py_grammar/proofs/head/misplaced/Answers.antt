use Rattle.std.proofs.Common.{refl}
use Rattle.py_grammar.specs.ParsedHead.{context_of}
use Rattle.py_grammar.proofs.LineForms.{misplaced_there, first_refused_there}
use Rattle.py_grammar.proofs.head.misplaced.Goals as goal

-- src/head.rt
pub returns-clause-refused : goal.returns-clause-refused
returns-clause-refused c =
    misplaced_there (context_of c.args.context) c.args.cursor.now.rest.now c.in_ok-token.token.now _ _ _ c.in_ok-token.ensures.cases.0 c.may_stand.ensures c.if-may_stand.false refl

-- src/head.rt
pub returns-clause-first : goal.returns-clause-first
returns-clause-first c =
    first_refused_there (context_of c.args.context) c.args.cursor.now.rest.now c.in_ok-token.token.now _ _ _ c.in_ok-token.ensures.cases.0 c.may_stand.ensures c.if-may_stand.false refl
