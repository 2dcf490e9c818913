use Rattle.std.proofs.Common.{refl, sym, ◌∙◌, Bool, false}
use Rattle.py_model.specs.Plan.{Plan}
use Rattle.py_value.specs.Values.{ValuesView}
use Rattle.op_work.proofs.Going.{at_once}
use Rattle.op_classes.proofs.OfKinds.{of_no_class, of_class}
use Rattle.op_classes.proofs.kindred.object_of_class.Goals as goal

pub returns-in-Some : goal.returns-in-Some
returns-in-Some c = of_class c.args.o c.args.sought c.requires.class c.kind.result c.in-Some.of (sym c.class_of_instance.ensures ∙ c.in-Some.is) c.kind.ensures c.class_walk.ensures

pub returns-in-None : goal.returns-in-None
returns-in-None c = of_no_class c.args.o c.args.sought c.requires.class c.kind.result (sym c.class_of_instance.ensures ∙ c.in-None.is) c.kind.ensures
    (at_once (λ (table : ValuesView) (go : Bool → Plan). go false) c.args.work.now false tt (λ table interned extends go. refl))
