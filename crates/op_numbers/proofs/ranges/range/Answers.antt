use Rattle.std.proofs.Common.{rules, ◌≡◌, ◌∙◌, refl, sym, ap, subst, map, Some, ℤ, w64, to_z, of_z}
use Rattle.op_work.specs.Work.{Ends}
use Rattle.py_model.specs.Arithmetic.{a_range, range_plan}
use Rattle.py_model.specs.Operands.{with_number}
use Rattle.py_value.specs.Contents.{contents}
use Rattle.op_work.proofs.Ending.{ends_then, ends_stop, ends_fault}
use Rattle.op_work.proofs.Going.{passes_err}
use Rattle.op_numbers.specs.RangeBounds.{of_bounds}
use Rattle.op_numbers.proofs.EndsAlike.{ends_as}
use Rattle.op_numbers.proofs.RangePlans.{bounds_plan}
use Rattle.op_numbers.proofs.ranges.range.Goals as goal

pub returns-in_err-start-in-Some : goal.returns-in_err-start-in-Some
returns-in_err-start-in-Some c = passes_err (λ result. Ends (λ table. range_plan (map (contents table) c.args.operands.now)) c.args.work.now c.number.new.work result) c.from_residual.result c.from_residual.ensures.1
    (ends_as (λ table. range_plan (map (contents table) c.args.operands.now)) (λ table. of_bounds table (Some (c.in-Some.v, (c.in-Some.w, c.in-Some.x))) a_range)
    (λ table interned extends. bounds_plan table c.args.operands.now ∙ ap (λ b. of_bounds table b a_range) (sym c.bounds.ensures ∙ c.in-Some.is))
    (ends_stop (λ table i. with_number (contents table c.in-Some.w) (λ j. with_number (contents table c.in-Some.x) (λ k. a_range i j k))) _ c.in_err-start-in-Some.ensures))

pub returns-in_err-end-in-Some : goal.returns-in_err-end-in-Some
returns-in_err-end-in-Some c = passes_err (λ result. Ends (λ table. range_plan (map (contents table) c.args.operands.now)) c.args.work.now c.number-in-Some.new.work result) c.from_residual-in_err-end-in-Some.result c.from_residual-in_err-end-in-Some.ensures.1
    (ends_as (λ table. range_plan (map (contents table) c.args.operands.now)) (λ table. of_bounds table (Some (c.in-Some.v, (c.in-Some.w, c.in-Some.x))) a_range)
    (λ table interned extends. bounds_plan table c.args.operands.now ∙ ap (λ b. of_bounds table b a_range) (sym c.bounds.ensures ∙ c.in-Some.is))
    (ends_then (λ table i. with_number (contents table c.in-Some.w) (λ j. with_number (contents table c.in-Some.x) (λ k. a_range i j k))) c.in_ok-start-in-Some.ensures (λ table interned extends. refl)
    (ends_stop (λ table j. with_number (contents table c.in-Some.x) (λ k. a_range c.in_ok-start-in-Some.start j k)) _ c.in_err-end-in-Some.ensures)))

pub returns-in_err-step-in-Some : goal.returns-in_err-step-in-Some
returns-in_err-step-in-Some c = passes_err (λ result. Ends (λ table. range_plan (map (contents table) c.args.operands.now)) c.args.work.now c.number-in-Some-2.new.work result) c.from_residual-in_err-step-in-Some.result c.from_residual-in_err-step-in-Some.ensures.1
    (ends_as (λ table. range_plan (map (contents table) c.args.operands.now)) (λ table. of_bounds table (Some (c.in-Some.v, (c.in-Some.w, c.in-Some.x))) a_range)
    (λ table interned extends. bounds_plan table c.args.operands.now ∙ ap (λ b. of_bounds table b a_range) (sym c.bounds.ensures ∙ c.in-Some.is))
    (ends_then (λ table i. with_number (contents table c.in-Some.w) (λ j. with_number (contents table c.in-Some.x) (λ k. a_range i j k))) c.in_ok-start-in-Some.ensures (λ table interned extends. refl)
    (ends_then (λ table j. with_number (contents table c.in-Some.x) (λ k. a_range c.in_ok-start-in-Some.start j k)) c.in_ok-end-in-Some.ensures (λ table interned extends. refl)
    (ends_stop (λ table k. a_range c.in_ok-start-in-Some.start c.in_ok-end-in-Some.end k) _ c.in_err-step-in-Some.ensures))))

pub returns-in_ok-step-in-Some : goal.returns-in_ok-step-in-Some
returns-in_ok-step-in-Some c =
    let first : to_z w64 (of_z w64 c.in_ok-start-in-Some.start) ≡ c.in_ok-start-in-Some.start = search rules in
    let second : to_z w64 (of_z w64 c.in_ok-end-in-Some.end) ≡ c.in_ok-end-in-Some.end = search rules in
    let third : to_z w64 (of_z w64 c.in_ok-step-in-Some.step) ≡ c.in_ok-step-in-Some.step = search rules in
    let one = subst (λ (i : ℤ). Ends (λ table. a_range i (to_z w64 (of_z w64 c.in_ok-end-in-Some.end)) (to_z w64 (of_z w64 c.in_ok-step-in-Some.step))) c.number-in-Some-2.new.work c.range_answer.new.work c.range_answer.result) first c.range_answer.ensures in
    let two = subst (λ (j : ℤ). Ends (λ table. a_range c.in_ok-start-in-Some.start j (to_z w64 (of_z w64 c.in_ok-step-in-Some.step))) c.number-in-Some-2.new.work c.range_answer.new.work c.range_answer.result) second one in
    let all = subst (λ (k : ℤ). Ends (λ table. a_range c.in_ok-start-in-Some.start c.in_ok-end-in-Some.end k) c.number-in-Some-2.new.work c.range_answer.new.work c.range_answer.result) third two in
    ends_as (λ table. range_plan (map (contents table) c.args.operands.now)) (λ table. of_bounds table (Some (c.in-Some.v, (c.in-Some.w, c.in-Some.x))) a_range)
    (λ table interned extends. bounds_plan table c.args.operands.now ∙ ap (λ b. of_bounds table b a_range) (sym c.bounds.ensures ∙ c.in-Some.is))
    (ends_then (λ table i. with_number (contents table c.in-Some.w) (λ j. with_number (contents table c.in-Some.x) (λ k. a_range i j k))) c.in_ok-start-in-Some.ensures (λ table interned extends. refl)
    (ends_then (λ table j. with_number (contents table c.in-Some.x) (λ k. a_range c.in_ok-start-in-Some.start j k)) c.in_ok-end-in-Some.ensures (λ table interned extends. refl)
    (ends_then (λ table k. a_range c.in_ok-start-in-Some.start c.in_ok-end-in-Some.end k) c.in_ok-step-in-Some.ensures (λ table interned extends. refl) all)))

pub returns-in-None : goal.returns-in-None
returns-in-None c = ends_fault (λ table. range_plan (map (contents table) c.args.operands.now)) 9 _ c.fault.result c.fault.ensures
    (λ table interned extends. bounds_plan table c.args.operands.now ∙ ap (λ b. of_bounds table b a_range) (sym c.bounds.ensures ∙ c.in-None.is))
