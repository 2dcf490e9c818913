use Rattle.std.proofs.Common.{rules, ◌≡◌, ◌∙◌, sym, ap, ℕ, ℤ, w64, to_z, of_z, [], ◌∷◌}
use Rattle.py_model.specs.Lists.{getitem, number_at}
use Rattle.py_model.specs.Numbers.{range_count}
use Rattle.py_model.specs.Operands.{gives}
use Rattle.py_model.specs.Plan.{Plan, looks}
use Rattle.py_value.specs.Contents.{contents, range}
use Rattle.op_work.specs.Work.{Ends}
use Rattle.op_work.proofs.Ending.{ends_then, ends_stop}
use Rattle.op_work.proofs.Going.{passes_err}
use Rattle.op_dicts.proofs.EndsEqual.{ends_equal}
use Rattle.op_lists.proofs.RangeNumbers.{of_three}
use Rattle.op_items.proofs.GetPlans.{placed}
use Rattle.op_items.proofs.gets.range_item.Goals as goal

abbrev part : ℤ → ℤ → ℕ → Plan
part start step p = looks 1 (gives (number_at start step p))

pub returns-in_err-p : goal.returns-in_err-p
returns-in_err-p c =
    let start_is : to_z w64 (of_z w64 c.args.start) ≡ c.args.start = search rules in
    let end_is : to_z w64 (of_z w64 c.args.end) ≡ c.args.end = search rules in
    let step_is : to_z w64 (of_z w64 c.args.step) ≡ c.args.step = search rules in
    let counted : range_count c.args.start c.args.end c.args.step ≡ c.range_count.result = of_three range_count (sym start_is) (sym end_is) (sym step_is) ∙ sym c.range_count.ensures in
    passes_err (λ result. Ends (λ table. getitem (range c.args.start c.args.end c.args.step ∷ contents table c.args.w ∷ [])) c.args.work.now c.index_place.new.work result) c.from_residual.result c.from_residual.ensures.1
    (ends_equal (λ table. getitem (range c.args.start c.args.end c.args.step ∷ contents table c.args.w ∷ [])) (λ table interned extends. ap (λ n. placed (contents table c.args.w) n (part c.args.start c.args.step)) counted)
    (ends_stop (λ table p. part c.args.start c.args.step p) _ c.in_err-p.ensures))

pub returns : goal.returns
returns c =
    let start_is : to_z w64 (of_z w64 c.args.start) ≡ c.args.start = search rules in
    let end_is : to_z w64 (of_z w64 c.args.end) ≡ c.args.end = search rules in
    let step_is : to_z w64 (of_z w64 c.args.step) ≡ c.args.step = search rules in
    let counted : range_count c.args.start c.args.end c.args.step ≡ c.range_count.result = of_three range_count (sym start_is) (sym end_is) (sym step_is) ∙ sym c.range_count.ensures in
    ends_equal (λ table. getitem (range c.args.start c.args.end c.args.step ∷ contents table c.args.w ∷ [])) (λ table interned extends. ap (λ n. placed (contents table c.args.w) n (part c.args.start c.args.step)) counted)
    (ends_then (λ table p. part c.args.start c.args.step p) c.in_ok-p.ensures
    (λ table interned extends. ap (λ (n : ℤ). part n c.args.step c.in_ok-p.p) (sym start_is) ∙ ap (λ (n : ℤ). part (to_z w64 (of_z w64 c.args.start)) n c.in_ok-p.p) (sym step_is)) c.number_answer.ensures)
