use Rattle.std.proofs.Common.{rules, w64, to_z, of_z, ◌≡◌, ◌∙◌, refl, sym, ap, true, false}
use Rattle.py_value.specs.Numbers.{number_of_value}
use Rattle.op_compare.specs.Places.{looked_up_to}
use Rattle.op_lists.proofs.RangeNumbers.{of_three}
use Rattle.py_model.specs.Arithmetic.{contained}
use Rattle.py_model.specs.Numbers.{range_count}
use Rattle.py_model.specs.Plan.{looks}
use Rattle.py_value.specs.Contents.{contents, range}
use Rattle.op_work.specs.Work.{Comes, is_any, as_is}
use Rattle.op_work.proofs.Going.{comes_same, comes_stop, comes_as, passes_err}
use Rattle.op_compare.proofs.InRanges.{looked, range_is}
use Rattle.op_compare.proofs.numbers.in_range.Goals as goal

pub returns-in_err-look-in-Some : goal.returns-in_err-look-in-Some
returns-in_err-look-in-Some c =
    let v = c.args.v in let a = c.args.start in let b = c.args.end in let s = c.args.step in
    let a_is : to_z w64 (of_z w64 a) ≡ a = search rules in
    let b_is : to_z w64 (of_z w64 b) ≡ b = search rules in
    let s_is : to_z w64 (of_z w64 s) ≡ s = search rules in
    let found = sym (c.value_to.ensures ∙ of_three (λ x y z. looked_up_to x y z (number_of_value v)) a_is b_is s_is) in
    passes_err (λ result. Comes is_any as_is (λ table. contained (contents table v) (range a b s)) c.args.work.now c.look.new.self result) c.from_residual.result c.from_residual.ensures.1
    (comes_same (λ table. contained (contents table v) (range a b s))
    (λ table interned extends go. range_is table v a b s go ∙ ap (λ m. looked m (range_count a b s) go) (found ∙ c.in-Some.is))
    (comes_stop (λ table done go. go true) c.in_err-look-in-Some.ensures))

pub returns-in_ok-look-in-Some : goal.returns-in_ok-look-in-Some
returns-in_ok-look-in-Some c =
    let v = c.args.v in let a = c.args.start in let b = c.args.end in let s = c.args.step in
    let a_is : to_z w64 (of_z w64 a) ≡ a = search rules in
    let b_is : to_z w64 (of_z w64 b) ≡ b = search rules in
    let s_is : to_z w64 (of_z w64 s) ≡ s = search rules in
    let found = sym (c.value_to.ensures ∙ of_three (λ x y z. looked_up_to x y z (number_of_value v)) a_is b_is s_is) in
    comes_same (λ table. contained (contents table v) (range a b s))
    (λ table interned extends go. range_is table v a b s go ∙ ap (λ m. looked m (range_count a b s) go) (found ∙ c.in-Some.is))
    (comes_as (λ table done go. go true) true c.in_ok-look-in-Some.ensures tt (λ table interned extends go. refl))

pub returns-in_err-look-in-None : goal.returns-in_err-look-in-None
returns-in_err-look-in-None c =
    let v = c.args.v in let a = c.args.start in let b = c.args.end in let s = c.args.step in
    let a_is : to_z w64 (of_z w64 a) ≡ a = search rules in
    let b_is : to_z w64 (of_z w64 b) ≡ b = search rules in
    let s_is : to_z w64 (of_z w64 s) ≡ s = search rules in
    let found = sym (c.value_to.ensures ∙ of_three (λ x y z. looked_up_to x y z (number_of_value v)) a_is b_is s_is) in
    passes_err (λ result. Comes is_any as_is (λ table. contained (contents table v) (range a b s)) c.args.work.now c.look-in-None.new.self result)
    c.from_residual-in_err-look-in-None.result c.from_residual-in_err-look-in-None.ensures.1
    (comes_same (λ table. contained (contents table v) (range a b s))
    (λ table interned extends go. range_is table v a b s go ∙ (ap (λ m. looked m (range_count a b s) go) (found ∙ c.in-None.is) ∙ ap (λ n. looks n (go false)) (sym (c.range_count.ensures ∙ of_three range_count a_is b_is s_is))))
    (comes_stop (λ table done go. go false) c.in_err-look-in-None.ensures))

pub returns-in_ok-look-in-None : goal.returns-in_ok-look-in-None
returns-in_ok-look-in-None c =
    let v = c.args.v in let a = c.args.start in let b = c.args.end in let s = c.args.step in
    let a_is : to_z w64 (of_z w64 a) ≡ a = search rules in
    let b_is : to_z w64 (of_z w64 b) ≡ b = search rules in
    let s_is : to_z w64 (of_z w64 s) ≡ s = search rules in
    let found = sym (c.value_to.ensures ∙ of_three (λ x y z. looked_up_to x y z (number_of_value v)) a_is b_is s_is) in
    comes_same (λ table. contained (contents table v) (range a b s))
    (λ table interned extends go. range_is table v a b s go ∙ (ap (λ m. looked m (range_count a b s) go) (found ∙ c.in-None.is) ∙ ap (λ n. looks n (go false)) (sym (c.range_count.ensures ∙ of_three range_count a_is b_is s_is))))
    (comes_as (λ table done go. go false) false c.in_ok-look-in-None.ensures tt (λ table interned extends go. refl))
