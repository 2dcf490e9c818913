use Rattle.std.proofs.Common.{rules, ◌≡◌, ◌∙◌, sym, arith, ◌-ℤ◌, pos, neg_ℤ, w64, to_z, of_z}
use Rattle.std.proofs.lemmas.Int.{ints}
use Rattle.op_lists.proofs.RangeNumbers.{of_three}
use Rattle.py_model.specs.Numbers.{range_count}
use Rattle.op_compare.proofs.InRanges.{place_up, place_down, count_as}
use Rattle.op_compare.proofs.numbers.numbers_to.Goals as goal

pub returns-then-step-gt0 : goal.returns-then-step-gt0
returns-then-step-gt0 c =
    let a_is : to_z w64 (of_z w64 c.args.start) ≡ c.args.start = search rules in
    let b_is : to_z w64 (of_z w64 c.args.end) ≡ c.args.end = search rules in
    let s_is : to_z w64 (of_z w64 c.args.step) ≡ c.args.step = search rules in
    let count = c.range_count-n.ensures ∙ of_three range_count a_is b_is s_is in
    let far : c.args.i -ℤ c.args.start ≡ pos c.abs_diff.result = omega (arith, ints, c.abs_diff.ensures, c.if-i-start.false) in
    let step : c.args.step ≡ pos c.unsigned_abs.result = omega (arith, ints, c.unsigned_abs.ensures.value, c.if-step-gt0.true) in
    c.up_to.ensures ∙ sym (count_as (c.args.i -ℤ c.args.start) c.args.step c.abs_diff.result c.unsigned_abs.result c.range_count-n.result _ count (place_up (c.args.i -ℤ c.args.start) c.args.step c.abs_diff.result c.unsigned_abs.result c.range_count-n.result far step
    (λ none. c.if-step-eq0.false (omega (arith, ints, step, none)))))

pub returns : goal.returns
returns c =
    let a_is : to_z w64 (of_z w64 c.args.start) ≡ c.args.start = search rules in
    let b_is : to_z w64 (of_z w64 c.args.end) ≡ c.args.end = search rules in
    let s_is : to_z w64 (of_z w64 c.args.step) ≡ c.args.step = search rules in
    let count = c.range_count-n.ensures ∙ of_three range_count a_is b_is s_is in
    let far : c.args.i -ℤ c.args.start ≡ neg_ℤ (pos c.abs_diff-2.result) = omega (arith, ints, c.abs_diff-2.ensures, c.if-start-i.false) in
    let step : c.args.step ≡ neg_ℤ (pos c.unsigned_abs-2.result) = omega (arith, ints, c.unsigned_abs-2.ensures.value, c.if-step-gt0.false) in
    c.up_to-2.ensures ∙ sym (count_as (c.args.i -ℤ c.args.start) c.args.step c.abs_diff-2.result c.unsigned_abs-2.result c.range_count-n.result _ count (place_down (c.args.i -ℤ c.args.start) c.args.step c.abs_diff-2.result c.unsigned_abs-2.result c.range_count-n.result far step
    (λ none. c.if-step-eq0.false (omega (arith, ints, step, none)))))
