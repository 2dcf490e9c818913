use Rattle.std.proofs.Common.{refl, sym, ◌∙◌}
use Rattle.py_model.specs.Faults.{wrong_kind}
use Rattle.op_work.proofs.Ending.{ends_fault}
use Rattle.op_classes.proofs.RaisedAgain.{raises_none, raises_instance}
use Rattle.op_classes.proofs.raises.raise_object.Goals as goal

pub returns-in-Some : goal.returns-in-Some
returns-in-Some c = raises_instance c.args.o c.kind.result c.in-Some.of (sym c.class_of_instance.ensures ∙ c.in-Some.is) c.kind.ensures c.raise_instance.ensures

pub returns-in-None : goal.returns-in-None
returns-in-None c = raises_none c.args.o c.kind.result (sym c.class_of_instance.ensures ∙ c.in-None.is) c.kind.ensures
    (ends_fault (λ table. wrong_kind) 9 _ c.fault.result c.fault.ensures (λ table interned extends. refl))
