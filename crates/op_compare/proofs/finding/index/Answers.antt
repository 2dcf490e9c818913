use Rattle.std.proofs.Common.{refl, ap, map}
use Rattle.py_model.specs.Lists.{seek, answer_place, index_method}
use Rattle.py_value.specs.Contents.{contents}
use Rattle.op_numbers.proofs.EndsAlike.{ends_as}
use Rattle.op_numbers.proofs.NumberPlans.{two_named}
use Rattle.op_work.specs.Work.{Ends}
use Rattle.op_work.proofs.EntryReads.{named_on}
use Rattle.op_work.proofs.Ending.{ends_then, ends_stop}
use Rattle.op_work.proofs.Going.{passes_err, extends_then}
use Rattle.op_joins.specs.Receivers.{with_list}
use Rattle.op_joins.proofs.ReceiverPlans.{second, second_is}
use Rattle.op_compare.proofs.IndexPlans.{sought_in, index_is}
use Rattle.op_compare.proofs.finding.index.Goals as goal

pub returns-in_err-o : goal.returns-in_err-o
returns-in_err-o c =
    let vs = c.args.operands.now in
    passes_err (λ result. Ends (λ table. index_method (map (contents table) vs)) c.args.work.now c.list_operand.new.work result) c.from_residual.result c.from_residual.ensures.1
    (ends_as (λ table. index_method (map (contents table) vs)) (λ table. with_list 2 (map (contents table) vs) (sought_in (second (map (contents table) vs))))
    (λ table interned extends. index_is (map (contents table) vs))
    (ends_stop (λ table. sought_in (second (map (contents table) vs))) _ c.in_err-o.ensures.comes))

pub returns-in_err-n : goal.returns-in_err-n
returns-in_err-n c =
    let vs = c.args.operands.now in let o = c.in_ok-o.o in
    passes_err (λ result. Ends (λ table. index_method (map (contents table) vs)) c.args.work.now c.read_len.new.self result) c.from_residual-in_err-n.result c.from_residual-in_err-n.ensures.1
    (ends_as (λ table. index_method (map (contents table) vs)) (λ table. with_list 2 (map (contents table) vs) (sought_in (second (map (contents table) vs))))
    (λ table interned extends. index_is (map (contents table) vs))
    (ends_then (λ table. sought_in (second (map (contents table) vs))) c.in_ok-o.ensures.comes
    (λ table interned extends. refl)
    (ends_stop (λ table n. seek n o 0 (second (map (contents table) vs)) answer_place) _ c.in_err-n.ensures)))

pub seek-requires : goal.seek-requires
seek-requires c = named_on (extends_then c.list_operand.ensures.comes.kept.extends c.read_len.ensures.kept.extends) _
    (two_named c.args.work.now.values c.args.operands.now c.requires.named c.in_ok-o.ensures.count).1

pub returns-in_err-place : goal.returns-in_err-place
returns-in_err-place c =
    let vs = c.args.operands.now in let o = c.in_ok-o.o in let n = c.in_ok-n.n in
    passes_err (λ result. Ends (λ table. index_method (map (contents table) vs)) c.args.work.now c.seek.new.work result) c.from_residual-in_err-place.result c.from_residual-in_err-place.ensures.1
    (ends_as (λ table. index_method (map (contents table) vs)) (λ table. with_list 2 (map (contents table) vs) (sought_in (second (map (contents table) vs))))
    (λ table interned extends. index_is (map (contents table) vs))
    (ends_then (λ table. sought_in (second (map (contents table) vs))) c.in_ok-o.ensures.comes (λ table interned extends. refl)
    (ends_then (λ table n. seek n o 0 (second (map (contents table) vs)) answer_place) c.in_ok-n.ensures
    (λ table interned extends. ap (λ x. seek n o 0 x answer_place) (second_is (contents table) vs c.in_ok-o.ensures.count))
    (ends_stop (λ table. answer_place) _ c.in_err-place.ensures))))

pub returns : goal.returns
returns c =
    let vs = c.args.operands.now in let o = c.in_ok-o.o in let n = c.in_ok-n.n in
    ends_as (λ table. index_method (map (contents table) vs)) (λ table. with_list 2 (map (contents table) vs) (sought_in (second (map (contents table) vs))))
    (λ table interned extends. index_is (map (contents table) vs))
    (ends_then (λ table. sought_in (second (map (contents table) vs))) c.in_ok-o.ensures.comes (λ table interned extends. refl)
    (ends_then (λ table n. seek n o 0 (second (map (contents table) vs)) answer_place) c.in_ok-n.ensures
    (λ table interned extends. ap (λ x. seek n o 0 x answer_place) (second_is (contents table) vs c.in_ok-o.ensures.count))
    (ends_then (λ table. answer_place) c.in_ok-place.ensures (λ table interned extends. refl) c.place_answer.ensures)))
