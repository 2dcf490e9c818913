use Rattle.std.proofs.Common.{rules, ◌≡◌, ◌∙◌, refl, sym, ap, subst, map, ℤ, pos, w64, to_z, of_z, SomeIff, FitsSigned, if◌then◌else◌, codes}
use Rattle.std.specs.Ordering.{int_eq}
use Rattle.op_work.specs.Work.{Ends}
use Rattle.py_model.specs.Arithmetic.{floor_div_plan}
use Rattle.py_model.specs.Faults.{fault, zero_division}
use Rattle.py_model.specs.Numbers.{floor_div}
use Rattle.py_model.specs.Operands.{gives_int}
use Rattle.py_value.specs.Contents.{contents}
use Rattle.op_work.proofs.Ending.{ends_then, ends_stop, ends_fault}
use Rattle.op_work.proofs.Going.{passes_err}
use Rattle.op_numbers.proofs.Division.{not_zero}
use Rattle.op_numbers.proofs.divisions.floor_div.Goals as goal

pub returns-in_err-i : goal.returns-in_err-i
returns-in_err-i c = passes_err (λ result. Ends (λ table. floor_div_plan (map (contents table) c.args.operands.now)) c.args.work.now c.two_numbers.new.work result)
    c.from_residual.result c.from_residual.ensures.1
    (ends_stop (λ table x. if int_eq x.1 (pos 0) then fault zero_division (codes "division by zero") else gives_int (floor_div x.0 x.1)) _ c.in_err-i.ensures)

pub returns-then-j-eq0 : goal.returns-then-j-eq0
returns-then-j-eq0 c =
    let second : to_z w64 (of_z w64 c.in_ok-i.j) ≡ c.in_ok-i.j = search rules in
    ends_then (λ table x. if int_eq x.1 (pos 0) then fault zero_division (codes "division by zero") else gives_int (floor_div x.0 x.1)) c.in_ok-i.ensures (λ table interned extends. refl)
    (ends_fault (λ table. if int_eq c.in_ok-i.j (pos 0) then fault zero_division (codes "division by zero") else gives_int (floor_div c.in_ok-i.i c.in_ok-i.j)) 2 _ c.fault.result c.fault.ensures
    (λ table interned extends. ap (λ (k : ℤ). if int_eq k (pos 0) then fault zero_division (codes "division by zero") else gives_int (floor_div c.in_ok-i.i c.in_ok-i.j)) (sym second ∙ ap (to_z w64) c.if-j-eq0.true)))

pub returns : goal.returns
returns c =
    let first : to_z w64 (of_z w64 c.in_ok-i.i) ≡ c.in_ok-i.i = search rules in
    let second : to_z w64 (of_z w64 c.in_ok-i.j) ≡ c.in_ok-i.j = search rules in
    let half = subst (λ (k : ℤ). SomeIff c.floor_quotient.result (FitsSigned w64 (floor_div k (to_z w64 (of_z w64 c.in_ok-i.j)))) (floor_div k (to_z w64 (of_z w64 c.in_ok-i.j)))) first c.floor_quotient.ensures in
    let found = subst (λ (k : ℤ). SomeIff c.floor_quotient.result (FitsSigned w64 (floor_div c.in_ok-i.i k)) (floor_div c.in_ok-i.i k)) second half in
    ends_then (λ table x. if int_eq x.1 (pos 0) then fault zero_division (codes "division by zero") else gives_int (floor_div x.0 x.1)) c.in_ok-i.ensures
    (λ table interned extends. not_zero c.in_ok-i.j (fault zero_division (codes "division by zero")) (gives_int (floor_div c.in_ok-i.i c.in_ok-i.j)) (λ is. c.if-j-eq0.false (ap (of_z w64) is)))
    (c.int_answer.ensures (floor_div c.in_ok-i.i c.in_ok-i.j) found)
