use Rattle.std.proofs.Common.{refl, sym, ap, map}
use Rattle.py_model.specs.Lists.{enumerate, numbered}
use Rattle.py_model.specs.Making.{new_list}
use Rattle.py_model.specs.Operands.{of_one}
use Rattle.py_value.specs.Contents.{contents}
use Rattle.op_work.specs.Work.{Ends}
use Rattle.op_work.proofs.Ending.{ends_then, ends_stop}
use Rattle.op_work.proofs.Going.{passes_err}
use Rattle.op_numbers.proofs.EndsAlike.{ends_as}
use Rattle.op_lists.proofs.OneSequence.{numbers_of, enumerate_is}
use Rattle.op_lists.proofs.pairs.enumerate.Goals as goal

pub returns-in_err-sequence : goal.returns-in_err-sequence
returns-in_err-sequence c = passes_err (λ result. Ends (λ table. enumerate (map (contents table) c.args.operands.now)) c.args.work.now c.one.new.work result)
    c.from_residual.result c.from_residual.ensures.1
    (ends_as (λ table. enumerate (map (contents table) c.args.operands.now)) (λ table. of_one numbers_of (map (contents table) c.args.operands.now)) (λ table interned extends. enumerate_is (map (contents table) c.args.operands.now))
    (ends_stop (λ table v. numbers_of v) _ c.in_err-sequence.ensures))

pub returns-in_err-walked : goal.returns-in_err-walked
returns-in_err-walked c = passes_err (λ result. Ends (λ table. enumerate (map (contents table) c.args.operands.now)) c.args.work.now c.walk_value.new.work result)
    c.from_residual-in_err-walked.result c.from_residual-in_err-walked.ensures.1
    (ends_as (λ table. enumerate (map (contents table) c.args.operands.now)) (λ table. of_one numbers_of (map (contents table) c.args.operands.now)) (λ table interned extends. enumerate_is (map (contents table) c.args.operands.now))
    (ends_then (λ table v. numbers_of v) c.in_ok-sequence.ensures (λ table interned extends. refl) (ends_stop (λ table items. new_list (numbered 0 items)) _ c.in_err-walked.ensures)))

pub returns-in_err-items : goal.returns-in_err-items
returns-in_err-items c = passes_err (λ result. Ends (λ table. enumerate (map (contents table) c.args.operands.now)) c.args.work.now c.numbered.new.work result)
    c.from_residual-in_err-items.result c.from_residual-in_err-items.ensures.1
    (ends_as (λ table. enumerate (map (contents table) c.args.operands.now)) (λ table. of_one numbers_of (map (contents table) c.args.operands.now)) (λ table interned extends. enumerate_is (map (contents table) c.args.operands.now))
    (ends_then (λ table v. numbers_of v) c.in_ok-sequence.ensures (λ table interned extends. refl)
    (ends_then (λ table items. new_list (numbered 0 items)) c.in_ok-walked.ensures (λ table interned extends. ap (λ vs. new_list (numbered 0 (map (contents table) vs))) (sym c.as_slice.ensures.value))
    (ends_stop (λ table items. new_list items) _ c.in_err-items.ensures))))

pub returns : goal.returns
returns c = ends_as (λ table. enumerate (map (contents table) c.args.operands.now)) (λ table. of_one numbers_of (map (contents table) c.args.operands.now)) (λ table interned extends. enumerate_is (map (contents table) c.args.operands.now))
    (ends_then (λ table v. numbers_of v) c.in_ok-sequence.ensures (λ table interned extends. refl)
    (ends_then (λ table items. new_list (numbered 0 items)) c.in_ok-walked.ensures (λ table interned extends. ap (λ vs. new_list (numbered 0 (map (contents table) vs))) (sym c.as_slice.ensures.value))
    (ends_then (λ table items. new_list items) c.in_ok-items.ensures (λ table interned extends. ap (λ vs. new_list (map (contents table) vs)) (sym c.as_slice-2.ensures.value)) c.new_list.ensures)))
