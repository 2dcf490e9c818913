use Rattle.std.proofs.Common.{rules, ◌≡◌, refl, sym, subst, map, ℤ, w64, to_z, of_z, Ok}
use Rattle.op_numbers.specs.Numbers.{of_numbers}
use Rattle.op_work.specs.Work.{Comes, is_any, as_is}
use Rattle.py_model.specs.Operands.{with_number, with_numbers}
use Rattle.py_value.specs.Contents.{contents}
use Rattle.op_work.proofs.Going.{comes_then, comes_stop, comes_as, passes_err}
use Rattle.op_numbers.proofs.operands.two_numbers.Goals as goal

pub returns-in_err-v : goal.returns-in_err-v
returns-in_err-v c = passes_err (λ result. Comes is_any as_is (λ table. of_numbers (map (contents table) c.args.operands.now)) c.args.work.now c.two.new.work result)
    c.from_residual.result c.from_residual.ensures.1 (comes_stop (λ table x go. with_numbers x.0 x.1 (λ i j. go (i, j))) c.in_err-v.ensures)

pub returns-in_err-i : goal.returns-in_err-i
returns-in_err-i c = passes_err (λ result. Comes is_any as_is (λ table. of_numbers (map (contents table) c.args.operands.now)) c.args.work.now c.number.new.work result)
    c.from_residual-in_err-i.result c.from_residual-in_err-i.ensures.1 (comes_then (λ table x go. with_numbers x.0 x.1 (λ i j. go (i, j))) c.in_ok-v.ensures (λ table interned extends go. refl)
    (comes_stop (λ table i go. with_number (contents table c.in_ok-v.w) (λ j. go (i, j))) c.in_err-i.ensures))

pub returns-in_err-j : goal.returns-in_err-j
returns-in_err-j c = passes_err (λ result. Comes is_any as_is (λ table. of_numbers (map (contents table) c.args.operands.now)) c.args.work.now c.number-2.new.work result)
    c.from_residual-in_err-j.result c.from_residual-in_err-j.ensures.1 (comes_then (λ table x go. with_numbers x.0 x.1 (λ i j. go (i, j))) c.in_ok-v.ensures (λ table interned extends go. refl)
    (comes_then (λ table i go. with_number (contents table c.in_ok-v.w) (λ j. go (i, j))) c.in_ok-i.ensures (λ table interned extends go. refl)
    (comes_stop (λ table j go. go (c.in_ok-i.i, j)) c.in_err-j.ensures)))

pub returns : goal.returns
returns c =
    let first : to_z w64 (of_z w64 c.in_ok-i.i) ≡ c.in_ok-i.i = search rules in
    let second : to_z w64 (of_z w64 c.in_ok-j.j) ≡ c.in_ok-j.j = search rules in
    let came = comes_then (λ table x go. with_numbers x.0 x.1 (λ i j. go (i, j))) c.in_ok-v.ensures (λ table interned extends go. refl)
    (comes_then (λ table i go. with_number (contents table c.in_ok-v.w) (λ j. go (i, j))) c.in_ok-i.ensures (λ table interned extends go. refl)
    (comes_as (λ table j go. go (c.in_ok-i.i, j)) (c.in_ok-i.i, c.in_ok-j.j) c.in_ok-j.ensures tt (λ table interned extends go. refl))) in
    subst (λ (i : ℤ). Comes is_any as_is (λ table. of_numbers (map (contents table) c.args.operands.now)) c.args.work.now c.number-2.new.work (Ok (i, to_z w64 (of_z w64 c.in_ok-j.j)))) (sym first)
    (subst (λ (j : ℤ). Comes is_any as_is (λ table. of_numbers (map (contents table) c.args.operands.now)) c.args.work.now c.number-2.new.work (Ok (c.in_ok-i.i, j))) (sym second) came)
