use Rattle.std.proofs.Common.{rules, ◌≡◌, refl, subst, ℤ, ◌+ℤ◌, w64, to_z, of_z, SomeIff, FitsSigned}
use Rattle.op_work.specs.Work.{Ends}
use Rattle.py_model.specs.Operands.{with_number, with_numbers, gives_int}
use Rattle.py_value.specs.Contents.{contents}
use Rattle.op_work.proofs.Ending.{ends_then, ends_stop}
use Rattle.op_work.proofs.Going.{passes_err}
use Rattle.op_numbers.proofs.arithmetic.add_numbers.Goals as goal

pub returns-in_err-i : goal.returns-in_err-i
returns-in_err-i c = passes_err (λ result. Ends (λ table. with_numbers (contents table c.args.v) (contents table c.args.w) (λ i j. gives_int (i +ℤ j))) c.args.work.now c.number.new.work result)
    c.from_residual.result c.from_residual.ensures.1 (ends_stop (λ table i. with_number (contents table c.args.w) (λ j. gives_int (i +ℤ j))) _ c.in_err-i.ensures)

pub returns-in_err-j : goal.returns-in_err-j
returns-in_err-j c = passes_err (λ result. Ends (λ table. with_numbers (contents table c.args.v) (contents table c.args.w) (λ i j. gives_int (i +ℤ j))) c.args.work.now c.number-2.new.work result)
    c.from_residual-in_err-j.result c.from_residual-in_err-j.ensures.1
    (ends_then (λ table i. with_number (contents table c.args.w) (λ j. gives_int (i +ℤ j))) c.in_ok-i.ensures (λ table interned extends. refl)
    (ends_stop (λ table j. gives_int (c.in_ok-i.i +ℤ j)) _ c.in_err-j.ensures))

pub returns : goal.returns
returns c =
    let first : to_z w64 (of_z w64 c.in_ok-i.i) ≡ c.in_ok-i.i = search rules in
    let second : to_z w64 (of_z w64 c.in_ok-j.j) ≡ c.in_ok-j.j = search rules in
    let half = subst (λ (k : ℤ). SomeIff c.checked_add.result (FitsSigned w64 (k +ℤ to_z w64 (of_z w64 c.in_ok-j.j))) (k +ℤ to_z w64 (of_z w64 c.in_ok-j.j))) first c.checked_add.ensures in
    let found = subst (λ (k : ℤ). SomeIff c.checked_add.result (FitsSigned w64 (c.in_ok-i.i +ℤ k)) (c.in_ok-i.i +ℤ k)) second half in
    ends_then (λ table i. with_number (contents table c.args.w) (λ j. gives_int (i +ℤ j))) c.in_ok-i.ensures (λ table interned extends. refl)
    (ends_then (λ table j. gives_int (c.in_ok-i.i +ℤ j)) c.in_ok-j.ensures (λ table interned extends. refl)
    (c.int_answer.ensures (c.in_ok-i.i +ℤ c.in_ok-j.j) found))
