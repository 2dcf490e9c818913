use Rattle.std.proofs.Common.{rules, ◌≡◌, refl, subst, map, ℤ, neg_ℤ, w64, to_z, of_z, SomeIff, pos, unsigned_abs, FitsSigned}
use Rattle.op_work.specs.Work.{Ends}
use Rattle.py_model.specs.Arithmetic.{abs_plan}
use Rattle.py_model.specs.Operands.{gives_int}
use Rattle.py_value.specs.Contents.{contents}
use Rattle.op_work.proofs.Ending.{ends_then, ends_stop}
use Rattle.op_work.proofs.Going.{passes_err}
use Rattle.py_model.specs.Numbers.{absolute}
use Rattle.op_numbers.proofs.NumberPlans.{absolute_found}
use Rattle.op_numbers.proofs.arithmetic.abs.Goals as goal

pub returns-in_err-i : goal.returns-in_err-i
returns-in_err-i c = passes_err (λ result. Ends (λ table. abs_plan (map (contents table) c.args.operands.now)) c.args.work.now c.one_number.new.work result)
    c.from_residual.result c.from_residual.ensures.1 (ends_stop (λ table i. gives_int (absolute i)) _ c.in_err-i.ensures)

pub returns : goal.returns
returns c =
    let back : to_z w64 (of_z w64 c.in_ok-i.i) ≡ c.in_ok-i.i = search rules in
    let fits : FitsSigned w64 c.in_ok-i.i = search rules in
    let found = subst (λ (k : ℤ). SomeIff c.checked_abs.result (FitsSigned w64 (neg_ℤ k)) (pos (unsigned_abs k))) back c.checked_abs.ensures in
    ends_then (λ table i. gives_int (absolute i)) c.in_ok-i.ensures (λ table interned extends. refl)
    (c.int_answer.ensures (absolute c.in_ok-i.i) (absolute_found c.in_ok-i.i c.checked_abs.result fits found))
