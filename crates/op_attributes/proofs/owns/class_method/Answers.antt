use Rattle.std.proofs.Common.{refl, subst, Ok}
use Rattle.py_model.specs.Classes.{class_attribute, method_of_class as plan_method}
use Rattle.py_model.specs.Faults.{no_attribute}
use Rattle.py_value.specs.Contents.{contents}
use Rattle.py_value.specs.Seen.{bytes_of}
use Rattle.op_work.specs.Work.{Comes, is_any, as_is}
use Rattle.op_work.proofs.Going.{comes_then, comes_as, comes_stop, passes_err, text_stays}
use Rattle.op_attributes.proofs.Entries.{behind_search}
use Rattle.op_attributes.proofs.Lacking.{lacks_comes}
use Rattle.op_attributes.proofs.owns.class_method.Goals as goal

pub returns-in_err-method : goal.returns-in_err-method
returns-in_err-method c = passes_err (λ result. Comes is_any as_is (λ table go. class_attribute (bytes_of table c.args.name) go (contents table c.args.of)) c.args.work.now c.method_of_class.new.work result)
    c.from_residual.result c.from_residual.ensures.1 (comes_stop (behind_search c.args.name) c.in_err-method.ensures)

pub returns-in-Some : goal.returns-in-Some
returns-in-Some c =
    let method = subst (λ m. Comes is_any as_is (λ table. plan_method (bytes_of table c.args.name) (contents table c.args.of)) c.args.work.now c.method_of_class.new.work (Ok m)) c.in-Some.is c.in_ok-method.ensures in
    comes_as (behind_search c.args.name) c.in-Some.at method tt (λ table interned extends go. refl)

pub returns-in-None : goal.returns-in-None
returns-in-None c =
    let method = subst (λ m. Comes is_any as_is (λ table. plan_method (bytes_of table c.args.name) (contents table c.args.of)) c.args.work.now c.method_of_class.new.work (Ok m)) c.in-None.is c.in_ok-method.ensures in
    comes_then (behind_search c.args.name) method (λ table interned extends go. refl)
    (lacks_comes (λ table go. no_attribute (bytes_of table c.args.name)) c.args.name c.no_attribute.result (text_stays c.args.work.now.values method.kept.extends c.requires.name) c.no_attribute.ensures (λ table interned extends go. refl))
