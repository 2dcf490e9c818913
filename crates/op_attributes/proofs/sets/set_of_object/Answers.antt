use Rattle.std.proofs.Common.{refl, sym, ◌∙◌}
use Rattle.py_model.specs.Faults.{not_there}
use Rattle.op_work.proofs.Ending.{ends_fault}
use Rattle.op_work.proofs.KindOf.{kind_comes}
use Rattle.op_attributes.proofs.OfKinds.{sets_none, sets_instance, instance_there}
use Rattle.op_attributes.proofs.sets.set_of_object.Goals as goal

pub returns-in-Some : goal.returns-in-Some
returns-in-Some c = sets_instance c.args.name c.args.o c.args.v c.kind_there.result c.in-Some.field-0 (sym c.class_of_instance.ensures ∙ c.in-Some.is)
    (kind_comes c.args.work.now c.args.o c.kind_there.result c.kind_there.ensures.kind c.kind_there.ensures.named) c.set_of_instance.ensures

pub returns-in-None : goal.returns-in-None
returns-in-None c = sets_none c.args.name c.args.o c.args.v c.kind_there.result (sym c.class_of_instance.ensures ∙ c.in-None.is)
    (kind_comes c.args.work.now c.args.o c.kind_there.result c.kind_there.ensures.kind c.kind_there.ensures.named)
    (ends_fault (λ table. not_there) 13 _ c.fault.result c.fault.ensures (λ table interned extends. refl))

pub set_of_instance-requires-clause-within : goal.set_of_instance-requires-clause-within
set_of_instance-requires-clause-within c = instance_there c.args.work.now c.args.o c.kind_there.result c.in-Some.field-0 (sym c.class_of_instance.ensures ∙ c.in-Some.is) c.kind_there.ensures.kind
