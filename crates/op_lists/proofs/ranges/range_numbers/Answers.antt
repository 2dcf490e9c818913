use Rattle.std.proofs.Common.{rules, sym, subst, ◌≡◌, ◌∙◌, arith, suc, ◌-◌, ◌+◌, w64, to_z, of_z, FitsSigned}
use Rattle.py_model.specs.Numbers.{range_count}
use Rattle.py_model.specs.Walks.{numbers_from}
use Rattle.py_value.specs.Values.{AreNamed}
use Rattle.op_lists.specs.ValuesSeen.{values_seen}
use Rattle.op_lists.proofs.NamedValues.{named_behind}
use Rattle.op_lists.proofs.RangeNumbers.{next_number, taken, all_taken, of_three}
use Rattle.op_lists.proofs.ranges.range_numbers.Goals as goal

pub loop-i-preserved : goal.loop-i-preserved
loop-i-preserved c =
    let n = range_count (to_z w64 (of_z w64 c.args.start)) (to_z w64 (of_z w64 c.args.end)) (to_z w64 (of_z w64 c.args.step)) in
    let end_fits : FitsSigned w64 (to_z w64 (of_z w64 c.args.end)) = search rules in
    let number_fits : FitsSigned w64 (to_z w64 c.loop-i.number-bits) = search rules in
    let fewer : n - c.loop-i.i ≡ suc (n - (c.loop-i.i + 1)) = omega (arith, c.range_count-i-end.ensures, c.loop-i-test.true) in
    let back : to_z w64 (of_z w64 c.saturating_add-number.result) ≡ c.saturating_add-number.result = search rules in
    let next = next_number _ (to_z w64 (of_z w64 c.saturating_add-number.result)) _ _ (n - (c.loop-i.i + 1)) number_fits end_fits (sym c.loop-i.invariant.0 ∙ fewer) (back ∙ c.saturating_add-number.ensures) in (
      sym next.0,
      (
        (λ table. taken table c.loop-i.numbers.items c.push.new.self.items _ (to_z w64 (of_z w64 c.saturating_add-number.result)) _ n c.loop-i.i _ _ c.in_ok-push.ensures.items fewer next.1 (c.loop-i.invariant.1.0 table)),
        (λ values. subst (AreNamed values) (sym c.in_ok-push.ensures.items) (named_behind values c.loop-i.numbers.items _ (c.loop-i.invariant.1.1 values) tt)),
      ),
    )

pub returns-clause-seen : goal.returns-clause-seen
returns-clause-seen c =
    let start_is : to_z w64 (of_z w64 c.args.start) ≡ c.args.start = search rules in
    let end_is : to_z w64 (of_z w64 c.args.end) ≡ c.args.end = search rules in
    let step_is : to_z w64 (of_z w64 c.args.step) ≡ c.args.step = search rules in
    λ table. all_taken (values_seen table c.loop-i.numbers.items) _ _ _ c.loop-i.i _ (omega (arith, c.range_count-i-end.ensures, c.loop-i-test.false)) (c.loop-i.invariant.1.0 table)
    ∙ of_three (λ a b d. numbers_from (range_count a b d) a d) start_is end_is step_is

pub returns-clause-named : goal.returns-clause-named
returns-clause-named c = c.loop-i.invariant.1.1
