use Rattle.std.proofs.Common.{refl, sym, ap, map}
use Rattle.op_work.specs.Work.{Ends}
use Rattle.py_model.specs.Arithmetic.{gt_plan}
use Rattle.py_model.specs.Arithmetic.{in_order, is_more}
use Rattle.py_model.specs.Operands.{gives_truth}
use Rattle.py_value.specs.Contents.{contents}
use Rattle.op_work.proofs.Ending.{ends_then, ends_stop}
use Rattle.op_work.proofs.Going.{passes_err}
use Rattle.op_compare.proofs.operators.gt.Goals as goal

pub returns-in_err-v : goal.returns-in_err-v
returns-in_err-v c = passes_err (λ result. Ends (λ table. gt_plan (map (contents table) c.args.operands.now)) c.args.work.now c.two.new.work result)
    c.from_residual.result c.from_residual.ensures.1 (ends_stop (λ table x. in_order x.0 x.1 (λ how. gives_truth (is_more how))) _ c.in_err-v.ensures)

pub returns-in_err-compared : goal.returns-in_err-compared
returns-in_err-compared c = passes_err (λ result. Ends (λ table. gt_plan (map (contents table) c.args.operands.now)) c.args.work.now c.in_order.new.work result)
    c.from_residual-in_err-compared.result c.from_residual-in_err-compared.ensures.1
    (ends_then (λ table x. in_order x.0 x.1 (λ how. gives_truth (is_more how))) c.in_ok-v.ensures (λ table interned extends. refl) (ends_stop (λ table how. gives_truth (is_more how)) _ c.in_err-compared.ensures))

pub returns : goal.returns
returns c = ends_then (λ table x. in_order x.0 x.1 (λ how. gives_truth (is_more how))) c.in_ok-v.ensures (λ table interned extends. refl)
    (ends_then (λ table how. gives_truth (is_more how)) c.in_ok-compared.ensures (λ table interned extends. ap gives_truth (sym c.is_more.ensures)) c.truth_answer.ensures)
