use Rattle.std.proofs.Common.{refl, codes}
use Rattle.py_model.specs.Classes.{method_of_class as plan_method}
use Rattle.py_value.specs.Contents.{contents}
use Rattle.op_work.specs.Work.{Comes, is_any, as_is}
use Rattle.op_work.proofs.Going.{comes_then, comes_stop, passes_err}
use Rattle.op_classes.proofs.texts.begin_method.Goals as goal

pub returns-in_err-name : goal.returns-in_err-name
returns-in_err-name c = passes_err (λ result. Comes is_any as_is (λ table. plan_method (codes "__init__") (contents table c.args.of)) c.args.work.now c.text_number.new.work result)
    c.from_residual.result c.from_residual.ensures.1
    (comes_stop (λ table words go. plan_method words (contents table c.args.of) go) c.in_err-name.ensures)

pub returns : goal.returns
returns c = comes_then (λ table words go. plan_method words (contents table c.args.of) go) c.in_ok-name.ensures (λ table interned extends go. refl) c.method_of_class.ensures
