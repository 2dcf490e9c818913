use Rattle.std.proofs.Common.{rules, ◌≡◌, ◌∙◌, sym, ap, subst, ℤ, w64, to_z, of_z, Ok}
use Rattle.py_model.specs.Operands.{with_number}
use Rattle.py_value.specs.Contents.{contents}
use Rattle.op_work.specs.Work.{Comes, is_any, as_is}
use Rattle.op_work.proofs.Going.{at_once, fault_comes}
use Rattle.op_texts.proofs.Taken.{number_is, number_or_wrong}
use Rattle.op_texts.proofs.widths.number.Goals as goal

pub returns-in-Some : goal.returns-in-Some
returns-in-Some c =
    let back : to_z w64 (of_z w64 c.in-Some.i) ≡ c.in-Some.i = search rules in
    subst (λ (i : ℤ). Comes is_any as_is (λ table. with_number (contents table c.args.v)) c.args.work.now c.args.work.now (Ok i)) (sym back)
    (at_once (λ table. with_number (contents table c.args.v)) c.args.work.now c.in-Some.i tt
    (λ table interned extends go. number_is table c.args.v go ∙ ap (λ i. number_or_wrong i go) (sym c.number_of.ensures ∙ c.in-Some.is)))

pub returns-in-None : goal.returns-in-None
returns-in-None c = fault_comes (λ table. with_number (contents table c.args.v)) 9 _ c.fault.result c.fault.ensures
    (λ table interned extends go. number_is table c.args.v go ∙ ap (λ i. number_or_wrong i go) (sym c.number_of.ensures ∙ c.in-None.is))
