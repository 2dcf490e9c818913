use Rattle.std.proofs.Common.{rules, ◌≡◌, ◌∙◌, sym, ap, subst, ℤ, None, Ok, w64, to_z, of_z}
use Rattle.py_model.specs.Lists.{answer_place}
use Rattle.py_model.specs.declared.moment.Answer.TheVariants.{Value as ValueAnswer}
use Rattle.py_model.specs.Operands.{gives}
use Rattle.py_value.specs.Contents.{int}
use Rattle.py_value.specs.declared.value.Value.TheVariants.{Int}
use Rattle.op_work.specs.Work.{Ends}
use Rattle.op_work.proofs.Ending.{ends_fault, ends_gives}
use Rattle.op_compare.proofs.finding.place_answer.Goals as goal

pub returns-in_default : goal.returns-in_default
returns-in_default c =
    let none : c.args.place ≡ None = search rules in
    ends_fault (λ table. answer_place c.args.place) 10 _ c.fault.result c.fault.ensures (λ table interned extends. ap answer_place none)

pub returns : goal.returns
returns c =
    let back : to_z w64 (of_z w64 c.in-Ok.i) ≡ c.in-Ok.i = search rules in
    subst (λ (i : ℤ). Ends (λ table. answer_place c.args.place) c.args.work.now c.args.work.now (Ok (ValueAnswer (Int i)))) (sym back)
    (ends_gives (λ table. answer_place c.args.place) c.args.work.now (Int c.in-Ok.i) c.requires.fresh tt
    (λ table interned extends. ap answer_place c.in-Some.is ∙ ap (λ (i : ℤ). gives (int i)) (sym c.in-Ok.ensures.1)))
