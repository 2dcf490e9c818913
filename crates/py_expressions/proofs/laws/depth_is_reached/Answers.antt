use Rattle.py_expressions.specs.Lies.{exprs_deepest}
use Rattle.py_expressions.proofs.Lying.{exprs_low}
use Rattle.py_expressions.proofs.Deepest.{exprs_are_first}
use Rattle.py_expressions.proofs.laws.depth_is_reached.Goals as goal

pub returns-clause-within : goal.returns-clause-within
returns-clause-within c e at = exprs_low e at

pub returns-clause-reached : goal.returns-clause-reached
returns-clause-reached c e = record { at = exprs_deepest e; lies_at = (exprs_are_first e).lies_is }

pub returns-clause-first : goal.returns-clause-first
returns-clause-first c e = exprs_are_first e
