use Rattle.std.proofs.Common.{refl, map}
use Rattle.op_work.specs.Work.{Ends}
use Rattle.py_model.specs.Arithmetic.{truth_plan, truth_of}
use Rattle.py_model.specs.Operands.{gives_truth}
use Rattle.py_value.specs.Contents.{contents}
use Rattle.op_work.proofs.Ending.{ends_then, ends_stop}
use Rattle.op_work.proofs.Going.{passes_err}
use Rattle.op_numbers.proofs.truths.truth.Goals as goal

pub returns-in_err-v : goal.returns-in_err-v
returns-in_err-v c = passes_err (λ result. Ends (λ table. truth_plan (map (contents table) c.args.operands.now)) c.args.work.now c.one.new.work result)
    c.from_residual.result c.from_residual.ensures.1 (ends_stop (λ table v. truth_of v gives_truth) _ c.in_err-v.ensures)

pub returns-in_err-b : goal.returns-in_err-b
returns-in_err-b c = passes_err (λ result. Ends (λ table. truth_plan (map (contents table) c.args.operands.now)) c.args.work.now c.truth_value.new.work result)
    c.from_residual-in_err-b.result c.from_residual-in_err-b.ensures.1
    (ends_then (λ table v. truth_of v gives_truth) c.in_ok-v.ensures (λ table interned extends. refl) (ends_stop (λ table b. gives_truth b) _ c.in_err-b.ensures))

pub returns : goal.returns
returns c = ends_then (λ table v. truth_of v gives_truth) c.in_ok-v.ensures (λ table interned extends. refl)
    (ends_then (λ table b. gives_truth b) c.in_ok-b.ensures (λ table interned extends. refl) c.truth_answer.ensures)
