use Rattle.std.proofs.Common.{rules, ◌≡◌, refl, subst, List, [], map, Ok, Err}
use Rattle.py_model.specs.Plan.{write, done}
use Rattle.py_value.specs.Contents.{contents, object}
use Rattle.py_value.specs.Seen.{order_at, order_is}
use Rattle.py_value.specs.declared.value.Value.{Value}
use Rattle.py_value.specs.declared.value.Value.TheVariants.{Object}
use Rattle.op_work.specs.Work.{WroteAll, Wrote}
use Rattle.op_work.proofs.Ending.{writes_then, writes_stop, writes_done}
use Rattle.op_work.proofs.Going.{passes_err}
use Rattle.op_classes.specs.Instances.{order_begun}
use Rattle.op_classes.proofs.instances.set_order.Goals as goal

pub returns-in_err-set : goal.returns-in_err-set
returns-in_err-set c =
    let keys : c.of.result ≡ [] = search rules in
    passes_err (λ result. WroteAll (λ table. order_begun c.args.o) c.args.work.now c.set.new.self result) c.from_residual.result c.from_residual.ensures.1
    (writes_stop (λ table. done (object c.args.o)) c.in_err-set.field-0.0
    (subst (λ (ks : List Value). Wrote (λ table. write (order_at c.args.o) (order_is (map (contents table) ks))) c.args.work.now c.set.new.self (Err c.in_err-set.field-0.0)) keys c.in_err-set.ensures))

pub returns : goal.returns
returns c =
    let keys : c.of.result ≡ [] = search rules in
    writes_then (subst (λ (ks : List Value). Wrote (λ table. write (order_at c.args.o) (order_is (map (contents table) ks))) c.args.work.now c.set.new.self (Ok tt)) keys c.in_ok-set.ensures)
    (writes_done c.set.new.self (Object c.args.o) (λ table. done (object c.args.o)) tt (λ table extends. refl))
