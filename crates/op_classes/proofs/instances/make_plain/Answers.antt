use Rattle.std.proofs.Common.{refl, subst, ℕ}
use Rattle.py_model.specs.Plan.{makes}
use Rattle.py_value.specs.Contents.{contents}
use Rattle.py_value.specs.Seen.{an_instance}
use Rattle.py_value.specs.declared.access.Kind.TheVariants.{Instance}
use Rattle.op_work.specs.Work.{WroteAll}
use Rattle.op_work.proofs.Ending.{ends_makes}
use Rattle.op_classes.specs.Instances.{order_begun}
use Rattle.op_classes.proofs.instances.make_plain.Goals as goal

pub returns : goal.returns
returns c =
    let wrote = subst (λ (o : ℕ). WroteAll (λ table. order_begun o) c.make-o.new.self c.set_order.new.work c.set_order.result) c.make-o.ensures.number c.set_order.ensures in
    ends_makes (λ table. makes (an_instance (contents table c.args.of)) order_begun) c.requires.first (Instance c.args.of) (λ table o. order_begun o) c.make-o.ensures.made (λ table interned extends. refl) wrote
