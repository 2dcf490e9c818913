use Rattle.std.proofs.Common.{refl, subst, Ok}
use Rattle.py_model.specs.Classes.{end_of_chain as plan_end}
use Rattle.py_model.specs.Faults.{wrong_kind}
use Rattle.py_model.specs.Raising.{raise_class as plan_raise_class}
use Rattle.py_value.specs.Contents.{contents}
use Rattle.op_work.specs.Work.{Comes, Ends, is_any, as_is}
use Rattle.op_work.proofs.Ending.{ends_then, ends_stop, ends_fault}
use Rattle.op_work.proofs.Going.{passes_err}
use Rattle.op_classes.specs.Raises.{if_exception}
use Rattle.op_classes.proofs.raises.raise_class.Goals as goal

pub returns-in_err-end : goal.returns-in_err-end
returns-in_err-end c = passes_err (λ result. Ends (λ table. plan_raise_class (contents table c.args.of)) c.args.work.now c.end_of_chain.new.work result)
    c.from_residual.result c.from_residual.ensures.1 (ends_stop (λ table end. if_exception (contents table c.args.of) end) c.in_err-end.field-0.0 c.in_err-end.ensures)

pub returns-in-Some : goal.returns-in-Some
returns-in-Some c =
    let end = subst (λ e. Comes is_any as_is (λ table. plan_end (contents table c.args.of)) c.args.work.now c.end_of_chain.new.work (Ok e)) c.in-Some.is c.in_ok-end.ensures in
    ends_then (λ table end. if_exception (contents table c.args.of) end) end (λ table interned extends. refl) c.raise_made.ensures

pub returns-in-None : goal.returns-in-None
returns-in-None c =
    let end = subst (λ e. Comes is_any as_is (λ table. plan_end (contents table c.args.of)) c.args.work.now c.end_of_chain.new.work (Ok e)) c.in-None.is c.in_ok-end.ensures in
    ends_then (λ table end. if_exception (contents table c.args.of) end) end (λ table interned extends. refl)
    (ends_fault (λ table. wrong_kind) 9 _ c.fault.result c.fault.ensures (λ table interned extends. refl))
