use Rattle.std.proofs.Common.{rules, ◌≡◌, refl, subst, map, ℤ, neg_ℤ, w64, to_z, of_z, SomeIff, FitsSigned}
use Rattle.op_work.specs.Work.{Ends}
use Rattle.py_model.specs.Arithmetic.{neg_plan}
use Rattle.py_model.specs.Operands.{gives_int}
use Rattle.py_value.specs.Contents.{contents}
use Rattle.op_work.proofs.Ending.{ends_then, ends_stop}
use Rattle.op_work.proofs.Going.{passes_err}
use Rattle.op_numbers.proofs.arithmetic.neg.Goals as goal

pub returns-in_err-i : goal.returns-in_err-i
returns-in_err-i c = passes_err (λ result. Ends (λ table. neg_plan (map (contents table) c.args.operands.now)) c.args.work.now c.one_number.new.work result)
    c.from_residual.result c.from_residual.ensures.1 (ends_stop (λ table i. gives_int (neg_ℤ i)) _ c.in_err-i.ensures)

pub returns : goal.returns
returns c =
    let back : to_z w64 (of_z w64 c.in_ok-i.i) ≡ c.in_ok-i.i = search rules in
    let found = subst (λ (k : ℤ). SomeIff c.checked_neg.result (FitsSigned w64 (neg_ℤ k)) (neg_ℤ k)) back c.checked_neg.ensures in
    ends_then (λ table i. gives_int (neg_ℤ i)) c.in_ok-i.ensures (λ table interned extends. refl) (c.int_answer.ensures (neg_ℤ c.in_ok-i.i) found)
