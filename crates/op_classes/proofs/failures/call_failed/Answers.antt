use Rattle.std.proofs.Common.{sym, ap, ◌∙◌, arith}
use Rattle.py_model.specs.Raising.{call_failed as plan_failed}
use Rattle.py_value.specs.Contents.{contents}
use Rattle.op_work.proofs.Ending.{ends_fault}
use Rattle.op_classes.proofs.FailedCalls.{by_reason, reason_is, other_reason}
use Rattle.op_classes.proofs.failures.call_failed.Goals as goal

pub returns-then-number-eq0 : goal.returns-then-number-eq0
returns-then-number-eq0 c = ends_fault (λ table. plan_failed (contents table c.args.reason)) 9 _ c.fault.result c.fault.ensures
    (λ table interned extends. reason_is table c.args.reason ∙ ap by_reason (sym c.reason_of-number.ensures ∙ c.if-number-eq0.true))

pub returns-then-number-eq1 : goal.returns-then-number-eq1
returns-then-number-eq1 c = ends_fault (λ table. plan_failed (contents table c.args.reason)) 9 _ c.fault-then-number-eq1.result c.fault-then-number-eq1.ensures
    (λ table interned extends. reason_is table c.args.reason ∙ ap by_reason (sym c.reason_of-number.ensures ∙ c.if-number-eq1.true))

pub returns : goal.returns
returns c = ends_fault (λ table. plan_failed (contents table c.args.reason)) 14 _ c.fault-2.result c.fault-2.ensures
    (λ table interned extends. reason_is table c.args.reason ∙ (ap by_reason (sym c.reason_of-number.ensures) ∙ other_reason c.reason_of-number.result (omega (arith, c.if-number-eq0.false, c.if-number-eq1.false))))
