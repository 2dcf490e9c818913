use Rattle.std.proofs.Common.{rules, ◌≡◌, ◌∙◌, sym, ap, [], ◌∷◌, pos, ℕ, ℤ, w64, to_z, of_z}
use Rattle.py_model.specs.Lists.{next, number_at}
use Rattle.py_model.specs.Numbers.{range_count}
use Rattle.py_model.specs.Operands.{gives}
use Rattle.py_model.specs.Plan.{Plan, looks}
use Rattle.py_value.specs.Contents.{int, range}
use Rattle.op_work.proofs.Ending.{ends_at_end}
use Rattle.op_dicts.proofs.EndsEqual.{ends_equal}
use Rattle.op_lists.proofs.RangeNumbers.{of_three}
use Rattle.op_items.proofs.TurnPlans.{before, is_before, not_before}
use Rattle.op_items.proofs.turns.next_in_range.Goals as goal

abbrev part : ℤ → ℤ → ℕ → Plan
part start step p = looks 1 (gives (number_at start step p))

pub returns-then-n-range_count : goal.returns-then-n-range_count
returns-then-n-range_count c = λ file_line begun.
    let start_is : to_z w64 (of_z w64 c.args.start) ≡ c.args.start = search rules in
    let end_is : to_z w64 (of_z w64 c.args.end) ≡ c.args.end = search rules in
    let step_is : to_z w64 (of_z w64 c.args.step) ≡ c.args.step = search rules in
    let counted : range_count c.args.start c.args.end c.args.step ≡ c.range_count.result = of_three range_count (sym start_is) (sym end_is) (sym step_is) ∙ sym c.range_count.ensures in
    ends_equal (λ table. next file_line (range c.args.start c.args.end c.args.step ∷ int (pos c.args.n) ∷ begun ∷ []))
    (λ table interned extends. ap (λ m. before c.args.n m (part c.args.start c.args.step c.args.n)) counted ∙ (is_before c.args.n c.range_count.result (part c.args.start c.args.step c.args.n) c.if-n-range_count.true
    ∙ (ap (λ (k : ℤ). part k c.args.step c.args.n) (sym start_is) ∙ ap (λ (k : ℤ). part (to_z w64 (of_z w64 c.args.start)) k c.args.n) (sym step_is)))) c.number_answer.ensures

pub returns : goal.returns
returns c = λ file_line begun.
    let start_is : to_z w64 (of_z w64 c.args.start) ≡ c.args.start = search rules in
    let end_is : to_z w64 (of_z w64 c.args.end) ≡ c.args.end = search rules in
    let step_is : to_z w64 (of_z w64 c.args.step) ≡ c.args.step = search rules in
    let counted : range_count c.args.start c.args.end c.args.step ≡ c.range_count.result = of_three range_count (sym start_is) (sym end_is) (sym step_is) ∙ sym c.range_count.ensures in
    ends_at_end (λ table. next file_line (range c.args.start c.args.end c.args.step ∷ int (pos c.args.n) ∷ begun ∷ [])) c.args.work.now c.requires.fresh
    (λ table interned extends. ap (λ m. before c.args.n m (part c.args.start c.args.step c.args.n)) counted ∙ not_before c.args.n c.range_count.result (part c.args.start c.args.step c.args.n) c.if-n-range_count.false)
