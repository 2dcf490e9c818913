use Rattle.std.proofs.Common.{refl, subst, ◌∙◌, Ok}
use Rattle.py_model.specs.Classes.{end_of_chain as plan_end}
use Rattle.py_model.specs.Faults.{wrong_kind}
use Rattle.py_model.specs.Plan.{raises_again}
use Rattle.py_value.specs.Contents.{contents}
use Rattle.op_work.specs.Work.{Comes, Ends, is_any, as_is}
use Rattle.op_work.proofs.Ending.{ends_then, ends_stop, ends_fault}
use Rattle.op_work.proofs.Going.{passes_err}
use Rattle.op_classes.specs.Raises.{again, instance_raised}
use Rattle.op_classes.proofs.RaisedAgain.{ends_again}
use Rattle.op_classes.proofs.raises.raise_instance.Goals as goal

pub returns-in_err-end : goal.returns-in_err-end
returns-in_err-end c = passes_err (λ result. Ends (λ table. instance_raised c.args.o (contents table c.args.of)) c.args.work.now c.end_of_chain.new.work result)
    c.from_residual.result c.from_residual.ensures.1 (ends_stop (λ table end. again c.args.o end) c.in_err-end.field-0.0 c.in_err-end.ensures)

pub returns-in-Some : goal.returns-in-Some
returns-in-Some c =
    let end = subst (λ e. Comes is_any as_is (λ table. plan_end (contents table c.args.of)) c.args.work.now c.end_of_chain.new.work (Ok e)) c.in-Some.is c.in_ok-end.ensures in
    ends_then (λ table end. again c.args.o end) end (λ table interned extends. refl)
    (ends_again (λ table. raises_again c.args.o) c.end_of_chain.new.work c.args.o (end.kept.made_is ∙ c.requires.first) (λ table interned extends. refl))

pub returns-in-None : goal.returns-in-None
returns-in-None c =
    let end = subst (λ e. Comes is_any as_is (λ table. plan_end (contents table c.args.of)) c.args.work.now c.end_of_chain.new.work (Ok e)) c.in-None.is c.in_ok-end.ensures in
    ends_then (λ table end. again c.args.o end) end (λ table interned extends. refl)
    (ends_fault (λ table. wrong_kind) 9 _ c.fault.result c.fault.ensures (λ table interned extends. refl))
