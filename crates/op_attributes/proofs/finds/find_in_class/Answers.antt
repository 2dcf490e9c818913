use Rattle.std.proofs.Common.{refl, ◌∙◌}
use Rattle.py_model.specs.Classes.{class_attribute, method_found}
use Rattle.py_model.specs.Plan.{writes, done}
use Rattle.py_value.specs.Contents.{contents, function}
use Rattle.py_value.specs.Seen.{bytes_of}
use Rattle.py_value.specs.declared.value.Value.TheVariants.{Fn}
use Rattle.op_work.specs.Work.{Ends}
use Rattle.op_work.proofs.Ending.{ends_then, ends_stop, ends_gives}
use Rattle.op_work.proofs.Going.{passes_err}
use Rattle.op_attributes.proofs.finds.find_in_class.Goals as goal

pub returns-in_err-at : goal.returns-in_err-at
returns-in_err-at c = passes_err (λ result. Ends (λ table. class_attribute (bytes_of table c.args.name) method_found (contents table c.args.of)) c.args.work.now c.class_method.new.work result)
    c.from_residual.result c.from_residual.ensures.1 (ends_stop (λ table at. method_found at) c.in_err-at.field-0.0 c.in_err-at.ensures)

pub returns : goal.returns
returns c = ends_then (λ table at. method_found at) c.in_ok-at.ensures (λ table interned extends. refl)
    (ends_gives (λ table. writes (done (function c.in_ok-at.at))) c.class_method.new.work (Fn c.in_ok-at.at) (c.in_ok-at.ensures.kept.made_is ∙ c.requires.first) tt (λ table interned extends. refl))
