use Rattle.std.proofs.Common.{rules, ◌≡◌, ◌∙◌, sym, ap, w64, to_z, of_z}
use Rattle.op_work.specs.Work.{Comes}
use Rattle.op_lists.specs.ValuesSeen.{values_seen}
use Rattle.py_model.specs.Numbers.{range_count}
use Rattle.py_model.specs.Plan.{looks}
use Rattle.py_model.specs.Walks.{numbers_from, walk}
use Rattle.py_value.specs.Contents.{range}
use Rattle.py_value.specs.Values.{AreNamed}
use Rattle.op_work.proofs.Going.{comes_stop, comes_as, comes_same, passes_err}
use Rattle.op_lists.proofs.RangeNumbers.{of_three}
use Rattle.op_lists.proofs.ranges.walk_range.Goals as goal

pub returns-in_err-look : goal.returns-in_err-look
returns-in_err-look c =
    let start_is : to_z w64 (of_z w64 c.args.start) ≡ c.args.start = search rules in
    let end_is : to_z w64 (of_z w64 c.args.end) ≡ c.args.end = search rules in
    let step_is : to_z w64 (of_z w64 c.args.step) ≡ c.args.step = search rules in
    let count : c.range_count.result ≡ range_count c.args.start c.args.end c.args.step = c.range_count.ensures ∙ of_three range_count start_is end_is step_is in
    let numbers = numbers_from (range_count c.args.start c.args.end c.args.step) c.args.start c.args.step in
    passes_err
    (λ result. Comes (λ values vs. AreNamed values vs.items) (λ table vs. values_seen table vs.items) (λ table. walk (range c.args.start c.args.end c.args.step)) c.args.work.now c.look.new.self result)
    c.from_residual.result c.from_residual.ensures.1
    (comes_same (λ table. walk (range c.args.start c.args.end c.args.step)) (λ table interned extends go. ap (λ n. looks n (go numbers)) (sym count))
    (comes_stop (λ table done go. go numbers) c.in_err-look.ensures))

pub returns : goal.returns
returns c =
    let start_is : to_z w64 (of_z w64 c.args.start) ≡ c.args.start = search rules in
    let end_is : to_z w64 (of_z w64 c.args.end) ≡ c.args.end = search rules in
    let step_is : to_z w64 (of_z w64 c.args.step) ≡ c.args.step = search rules in
    let count : c.range_count.result ≡ range_count c.args.start c.args.end c.args.step = c.range_count.ensures ∙ of_three range_count start_is end_is step_is in
    let numbers = numbers_from (range_count c.args.start c.args.end c.args.step) c.args.start c.args.step in
    comes_same (λ table. walk (range c.args.start c.args.end c.args.step)) (λ table interned extends go. ap (λ n. looks n (go numbers)) (sym count))
    (comes_as (λ table done go. go numbers) c.in_ok-numbers.numbers c.in_ok-look.ensures (c.in_ok-numbers.ensures.named c.look.new.self.values)
    (λ table interned extends go. ap go (sym (c.in_ok-numbers.ensures.seen table ∙ of_three (λ a b d. numbers_from (range_count a b d) a d) start_is end_is step_is))))
