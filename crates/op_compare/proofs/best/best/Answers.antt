use Rattle.std.proofs.Common.{◌∙◌, sym, ap, eqb-true, length, map, slice_index_or}
use Rattle.py_model.specs.Arithmetic.{best_of, best_plan}
use Rattle.py_model.specs.Walks.{walk}
use Rattle.py_value.specs.Contents.{contents}
use Rattle.py_value.specs.declared.value.Value.TheVariants.{None as NoneValue}
use Rattle.op_numbers.proofs.EndsAlike.{ends_as}
use Rattle.op_work.specs.Work.{Ends}
use Rattle.op_work.proofs.Ending.{ends_then, ends_stop, ends_fault}
use Rattle.op_work.proofs.Going.{passes_err}
use Rattle.op_compare.specs.Best.{better_of}
use Rattle.op_compare.proofs.BestPlans.{some_there, first_named, plan_none, plan_one, plan_many}
use Rattle.op_compare.proofs.best.best.Goals as goal

pub returns-then-is_empty : goal.returns-then-is_empty
returns-then-is_empty c =
    let vs = c.args.operands.now in
    ends_fault (λ table. best_plan (better_of c.args.most) (map (contents table) vs)) 9 _ c.fault.result c.fault.ensures
    (λ table interned extends. plan_none (better_of c.args.most) vs table (eqb-true (length vs) 0 (sym c.is_empty.ensures ∙ c.if-is_empty.true)))

pub returns-then-operands-ne1 : goal.returns-then-operands-ne1
returns-then-operands-ne1 c =
    let vs = c.args.operands.now in
    ends_as (λ table. best_plan (better_of c.args.most) (map (contents table) vs)) (λ table. best_of (better_of c.args.most) (map (contents table) vs))
    (λ table interned extends. plan_many (better_of c.args.most) vs table (some_there (length vs) c.is_empty.result c.is_empty.ensures c.if-is_empty.false) c.if-operands-ne1.true)
    c.best_answer.ensures

pub walk_value-requires : goal.walk_value-requires
walk_value-requires c = first_named c.args.work.now.values c.args.operands.now c.requires.named

pub returns-in_err-items : goal.returns-in_err-items
returns-in_err-items c =
    let vs = c.args.operands.now in
    passes_err (λ result. Ends (λ table. best_plan (better_of c.args.most) (map (contents table) vs)) c.args.work.now c.walk_value.new.work result) c.from_residual.result c.from_residual.ensures.1
    (ends_as (λ table. best_plan (better_of c.args.most) (map (contents table) vs)) (λ table. walk (contents table (slice_index_or vs 0 NoneValue)) (best_of (better_of c.args.most)))
    (λ table interned extends. plan_one (better_of c.args.most) vs table c.if-operands-ne1.false)
    (ends_stop (λ table. best_of (better_of c.args.most)) _ c.in_err-items.ensures))

pub returns : goal.returns
returns c =
    let vs = c.args.operands.now in
    ends_as (λ table. best_plan (better_of c.args.most) (map (contents table) vs)) (λ table. walk (contents table (slice_index_or vs 0 NoneValue)) (best_of (better_of c.args.most)))
    (λ table interned extends. plan_one (better_of c.args.most) vs table c.if-operands-ne1.false)
    (ends_then (λ table. best_of (better_of c.args.most)) c.in_ok-items.ensures
    (λ table interned extends. ap (λ items. best_of (better_of c.args.most) (map (contents table) items)) (sym c.as_slice.ensures.value)) c.best_answer-2.ensures)
