use Rattle.std.proofs.Common.{rules, ◌≡◌, ◌∙◌, refl, sym, ap, map, pos, w64, to_z, of_z}
use Rattle.py_model.specs.Arithmetic.{sum_plan}
use Rattle.py_model.specs.Operands.{gives}
use Rattle.py_model.specs.Walks.{walk}
use Rattle.py_value.specs.Contents.{contents, int}
use Rattle.op_work.specs.Work.{Ends}
use Rattle.op_work.proofs.Ending.{ends_then, ends_stop, ends_fault}
use Rattle.op_work.proofs.Going.{passes_err}
use Rattle.op_joins.specs.Summed.{all_numbers, sum_found}
use Rattle.op_joins.proofs.SumPlans.{sum_items, by_sum, sum_is, no_sum}
use Rattle.op_joins.proofs.summing.sum.Goals as goal

pub returns-in_err-sequence : goal.returns-in_err-sequence
returns-in_err-sequence c = passes_err (λ result. Ends (λ table. sum_plan (map (contents table) c.args.operands.now)) c.args.work.now c.one.new.work result)
    c.from_residual.result c.from_residual.ensures.1 (ends_stop (λ table v. walk v sum_items) _ c.in_err-sequence.ensures)

pub returns-in_err-items : goal.returns-in_err-items
returns-in_err-items c = passes_err (λ result. Ends (λ table. sum_plan (map (contents table) c.args.operands.now)) c.args.work.now c.walk_value.new.work result)
    c.from_residual-in_err-items.result c.from_residual-in_err-items.ensures.1
    (ends_then (λ table v. walk v sum_items) c.in_ok-sequence.ensures (λ table interned extends. refl) (ends_stop (λ table items. sum_items items) _ c.in_err-items.ensures))

pub returns-then-not-are_numbers : goal.returns-then-not-are_numbers
returns-then-not-are_numbers c =
    let items = c.in_ok-items.items.items in
    let are = (sym (ap all_numbers c.as_slice.ensures.value) ∙ sym c.are_numbers.ensures) ∙ c.if-not-are_numbers.true in
    ends_then (λ table v. walk v sum_items) c.in_ok-sequence.ensures (λ table interned extends. refl)
    (ends_then (λ table items. sum_items items) c.in_ok-items.ensures (λ table interned extends. refl)
    (ends_fault (λ table. sum_items (map (contents table) items)) 9 _ c.fault.result c.fault.ensures (λ table interned extends. no_sum table items are)))

pub returns-in-Some : goal.returns-in-Some
returns-in-Some c =
    let items = c.in_ok-items.items.items in
    let back : to_z w64 (of_z w64 c.in-Some.i) ≡ c.in-Some.i = search rules in
    let are = (sym (ap all_numbers c.as_slice.ensures.value) ∙ sym c.are_numbers.ensures) ∙ c.if-not-are_numbers.false in
    let found = (ap (sum_found (pos 0)) (sym c.as_slice-2.ensures.value) ∙ sym c.sum_of.ensures) ∙ c.in-Some.is in
    ends_then (λ table v. walk v sum_items) c.in_ok-sequence.ensures (λ table interned extends. refl)
    (ends_then (λ table items. sum_items items) c.in_ok-items.ensures
    (λ table interned extends. sum_is table items are ∙ (ap by_sum found ∙ ap (λ i. gives (int i)) (sym back))) c.value_answer.ensures)

pub returns : goal.returns
returns c =
    let items = c.in_ok-items.items.items in
    let are = (sym (ap all_numbers c.as_slice.ensures.value) ∙ sym c.are_numbers.ensures) ∙ c.if-not-are_numbers.false in
    let found = (ap (sum_found (pos 0)) (sym c.as_slice-2.ensures.value) ∙ sym c.sum_of.ensures) ∙ c.in-None.is in
    ends_then (λ table v. walk v sum_items) c.in_ok-sequence.ensures (λ table interned extends. refl)
    (ends_then (λ table items. sum_items items) c.in_ok-items.ensures (λ table interned extends. refl)
    (ends_fault (λ table. sum_items (map (contents table) items)) 3 _ c.fault-in-None.result c.fault-in-None.ensures
    (λ table interned extends. sum_is table items are ∙ ap by_sum found)))
