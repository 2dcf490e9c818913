use Rattle.py_expressions.proofs.SpelledRows.{left_init, left_next, left_end, left_shorter, first_refused, first_other, last_fine}
use Rattle.py_expressions.proofs.spelled.first_wrong.Goals as goal

-- src/spelled.rt
pub loop-token-init : goal.loop-token-init
loop-token-init c = left_init _

-- src/spelled.rt
pub returns-in-Err-clause-tells : goal.returns-in-Err-clause-tells
returns-in-Err-clause-tells c = first_refused _ _ _ _ _ c.loop-token.invariant c.in-Some.ensures.cases.0 c.in_ok-unless_memory-in-Err.ensures.tokens c.in-Err.ensures.refused

-- src/spelled.rt
pub returns-then-not-is_target-clause-tells : goal.returns-then-not-is_target-clause-tells
returns-then-not-is_target-clause-tells c = first_other _ _ _ _ _ _ c.loop-token.invariant c.in-Some.ensures.cases.0 c.in-Ok.ensures.found c.if-not-is_target.true

-- src/spelled.rt
pub loop-token-preserved : goal.loop-token-preserved
loop-token-preserved c = left_next _ _ _ _ _ _ _ _ c.loop-token.invariant c.in-Some.ensures.cases.0 c.in-Ok.ensures.found c.if-not-is_target.false c.in-Some-take_sign.ensures.taken

-- src/spelled.rt
pub loop-token-smaller : goal.loop-token-smaller
loop-token-smaller c = left_shorter _ _ _ _ _ c.in-Ok.ensures.found c.in-Some-take_sign.ensures.taken

-- src/spelled.rt
pub returns-in_default-take_sign-clause-tells : goal.returns-in_default-take_sign-clause-tells
returns-in_default-take_sign-clause-tells c = last_fine _ _ _ _ _ _ c.loop-token.invariant c.in-Some.ensures.cases.0 c.in-Ok.ensures.found c.if-not-is_target.false c.in_default-take_sign.ensures.absent

-- src/spelled.rt
pub returns-clause-tells : goal.returns-clause-tells
returns-clause-tells c = left_end _ _ c.loop-token.invariant c.in_default.ensures.cases
