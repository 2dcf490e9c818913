use Rattle.std.proofs.Common.{rules}
use Rattle.py_expressions.proofs.AtomParts.{leaf_full}
use Rattle.py_expressions.proofs.Returns.{leaf_none, leaf_other, leaf_taken}
use Rattle.py_expressions.proofs.cursor.Cursor.leaf.Goals as goal

pub returns-in_default-clause-refused : goal.returns-in_default-clause-refused
returns-in_default-clause-refused c = leaf_none _ _ _ c.in_default.ensures.cases c.refuse.ensures

pub returns-in_default-2-clause-refused : goal.returns-in_default-2-clause-refused
returns-in_default-2-clause-refused c = leaf_other _ _ _ _ _ _ c.in-Some.ensures.cases.0 c.requires.not_round c.requires.not_square c.requires.not_curly c.in_ok-part.ensures.found c.in_default-2.is c.refuse-in_default-2.ensures

pub returns-in_err-goes_here-clause-refused : goal.returns-in_err-goes_here-clause-refused
returns-in_err-goes_here-clause-refused c = let is = leaf_full _ _ _ _ _ _ _ c.in-Some.ensures.cases.0 c.in_ok-part.ensures.found c.in-Some-2.is c.in_err-goes_here.ensures.deep in search (rules, is)

pub returns-clause-found : goal.returns-clause-found
returns-clause-found c = leaf_taken _ _ _ _ _ _ c.in-Some.ensures.cases.0 c.in_ok-part.ensures.found c.in-Some-2.is c.in_ok-goes_here.ensures.fits
