use Rattle.std.proofs.Common.{refl}
use Rattle.py_model.specs.Classes.{class_attribute, no_method_value}
use Rattle.py_model.specs.Faults.{not_there}
use Rattle.py_value.specs.Contents.{contents}
use Rattle.py_value.specs.Seen.{bytes_of}
use Rattle.op_work.specs.Work.{Ends}
use Rattle.op_work.proofs.Ending.{ends_then, ends_stop, ends_fault}
use Rattle.op_work.proofs.Going.{passes_err}
use Rattle.op_attributes.proofs.gets.get_of_class.Goals as goal

pub returns-in_err-at : goal.returns-in_err-at
returns-in_err-at c = passes_err (λ result. Ends (λ table. class_attribute (bytes_of table c.args.name) no_method_value (contents table c.args.of)) c.args.work.now c.class_method.new.work result)
    c.from_residual.result c.from_residual.ensures.1 (ends_stop (λ table at. no_method_value at) c.in_err-at.field-0.0 c.in_err-at.ensures)

pub returns : goal.returns
returns c = ends_then (λ table at. no_method_value at) c.in_ok-at.ensures (λ table interned extends. refl)
    (ends_fault (λ table. not_there) 13 _ c.fault.result c.fault.ensures (λ table interned extends. refl))
