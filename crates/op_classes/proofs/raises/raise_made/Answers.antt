use Rattle.std.proofs.Common.{refl, subst, codes, Ok}
use Rattle.py_model.specs.Classes.{method_of_class as plan_method}
use Rattle.py_model.specs.Faults.{not_there}
use Rattle.py_value.specs.Contents.{contents}
use Rattle.op_work.specs.Work.{Comes, Ends, is_any, as_is}
use Rattle.op_work.proofs.Ending.{ends_then, ends_stop, ends_fault}
use Rattle.op_work.proofs.Going.{passes_err}
use Rattle.op_classes.specs.Raises.{behind_init, class_raised}
use Rattle.op_classes.proofs.raises.raise_made.Goals as goal

pub returns-in_err-method : goal.returns-in_err-method
returns-in_err-method c = passes_err (λ result. Ends (λ table. class_raised (contents table c.args.of)) c.args.work.now c.begin_method.new.work result)
    c.from_residual.result c.from_residual.ensures.1 (ends_stop (λ table method. behind_init (contents table c.args.of) method) c.in_err-method.field-0.0 c.in_err-method.ensures)

pub returns-in-Some : goal.returns-in-Some
returns-in-Some c =
    let method = subst (λ m. Comes is_any as_is (λ table. plan_method (codes "__init__") (contents table c.args.of)) c.args.work.now c.begin_method.new.work (Ok m)) c.in-Some.is c.in_ok-method.ensures in
    ends_then (λ table method. behind_init (contents table c.args.of) method) method (λ table interned extends. refl)
    (ends_fault (λ table. not_there) 13 _ c.fault.result c.fault.ensures (λ table interned extends. refl))

pub returns-in-None : goal.returns-in-None
returns-in-None c =
    let method = subst (λ m. Comes is_any as_is (λ table. plan_method (codes "__init__") (contents table c.args.of)) c.args.work.now c.begin_method.new.work (Ok m)) c.in-None.is c.in_ok-method.ensures in
    ends_then (λ table method. behind_init (contents table c.args.of) method) method (λ table interned extends. refl) c.raise_without.ensures
