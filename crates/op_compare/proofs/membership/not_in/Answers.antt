use Rattle.std.proofs.Common.{refl, map, not}
use Rattle.op_work.specs.Work.{Ends}
use Rattle.py_model.specs.Arithmetic.{contained, not_in_plan}
use Rattle.py_model.specs.Operands.{gives_truth}
use Rattle.py_value.specs.Contents.{contents}
use Rattle.op_work.proofs.Ending.{ends_then, ends_stop}
use Rattle.op_work.proofs.Going.{passes_err}
use Rattle.op_compare.proofs.membership.not_in.Goals as goal

pub returns-in_err-v : goal.returns-in_err-v
returns-in_err-v c = passes_err (λ result. Ends (λ table. not_in_plan (map (contents table) c.args.operands.now)) c.args.work.now c.two.new.work result)
    c.from_residual.result c.from_residual.ensures.1 (ends_stop (λ table x. contained x.0 x.1 (λ b. gives_truth (not b))) _ c.in_err-v.ensures)

pub returns-in_err-found : goal.returns-in_err-found
returns-in_err-found c = passes_err (λ result. Ends (λ table. not_in_plan (map (contents table) c.args.operands.now)) c.args.work.now c.contained.new.work result)
    c.from_residual-in_err-found.result c.from_residual-in_err-found.ensures.1
    (ends_then (λ table x. contained x.0 x.1 (λ b. gives_truth (not b))) c.in_ok-v.ensures (λ table interned extends. refl) (ends_stop (λ table b. gives_truth (not b)) _ c.in_err-found.ensures))

pub returns : goal.returns
returns c = ends_then (λ table x. contained x.0 x.1 (λ b. gives_truth (not b))) c.in_ok-v.ensures (λ table interned extends. refl)
    (ends_then (λ table b. gives_truth (not b)) c.in_ok-found.ensures (λ table interned extends. refl) c.truth_answer.ensures)
