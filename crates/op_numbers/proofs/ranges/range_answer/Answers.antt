use Rattle.std.proofs.Common.{rules, ◌≡◌, ◌∙◌, sym, ap, ℤ, w64, to_z, of_z}
use Rattle.py_model.specs.Arithmetic.{a_range}
use Rattle.op_work.proofs.Ending.{ends_fault}
use Rattle.op_numbers.proofs.ranges.range_answer.Goals as goal

pub returns-then-step-eq0 : goal.returns-then-step-eq0
returns-then-step-eq0 c =
    let back : to_z w64 (of_z w64 c.args.step) ≡ c.args.step = search rules in
    ends_fault (λ table. a_range c.args.start c.args.end c.args.step) 10 _ c.fault.result c.fault.ensures
    (λ table interned extends. ap (λ (k : ℤ). a_range c.args.start c.args.end k) (sym back ∙ ap (to_z w64) c.if-step-eq0.true))
