use Rattle.std.proofs.Common.{refl, sym, ◌∙◌}
use Rattle.py_model.specs.Faults.{not_there}
use Rattle.op_work.proofs.Ending.{ends_fault}
use Rattle.op_attributes.proofs.OfKinds.{gets_none, gets_instance}
use Rattle.op_attributes.proofs.gets.get_of_object.Goals as goal

pub returns-in-Some : goal.returns-in-Some
returns-in-Some c = gets_instance c.args.name c.args.o c.kind.result c.in-Some.of (sym c.class_of_instance.ensures ∙ c.in-Some.is) c.kind.ensures c.get_of_instance.ensures

pub returns-in-None : goal.returns-in-None
returns-in-None c = gets_none c.args.name c.args.o c.kind.result (sym c.class_of_instance.ensures ∙ c.in-None.is) c.kind.ensures
    (ends_fault (λ table. not_there) 13 _ c.fault.result c.fault.ensures (λ table interned extends. refl))
