use Rattle.std.proofs.Common.{refl, map}
use Rattle.py_model.specs.Arithmetic.{best_of}
use Rattle.py_model.specs.Operands.{gives}
use Rattle.py_value.specs.Contents.{contents}
use Rattle.op_numbers.proofs.EndsAlike.{ends_as}
use Rattle.op_work.specs.Work.{Ends}
use Rattle.op_work.proofs.Ending.{ends_then, ends_stop}
use Rattle.op_work.proofs.Going.{passes_err}
use Rattle.op_compare.specs.Best.{better_of, best_among}
use Rattle.op_compare.proofs.BestPlans.{best_of_is}
use Rattle.op_compare.proofs.best.best_answer.Goals as goal

pub returns-in_err-v : goal.returns-in_err-v
returns-in_err-v c =
    let vs = c.args.items.now in
    passes_err (λ result. Ends (λ table. best_of (better_of c.args.most) (map (contents table) vs)) c.args.work.now c.best_among.new.work result) c.from_residual.result c.from_residual.ensures.1
    (ends_as (λ table. best_of (better_of c.args.most) (map (contents table) vs)) (λ table. best_among (better_of c.args.most) (map (contents table) vs) gives)
    (λ table interned extends. best_of_is (better_of c.args.most) (map (contents table) vs))
    (ends_stop (λ table. gives) _ c.in_err-v.ensures))

pub returns : goal.returns
returns c =
    let vs = c.args.items.now in
    ends_as (λ table. best_of (better_of c.args.most) (map (contents table) vs)) (λ table. best_among (better_of c.args.most) (map (contents table) vs) gives)
    (λ table interned extends. best_of_is (better_of c.args.most) (map (contents table) vs))
    (ends_then (λ table. gives) c.in_ok-v.ensures (λ table interned extends. refl) c.value_answer.ensures)
