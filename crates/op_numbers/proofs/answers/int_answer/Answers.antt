use Rattle.std.proofs.Common.{rules, ◌≡◌, ◌∙◌, sym, ap, subst, w64, to_z, of_z, FitsSigned, SomeIff}
use Rattle.py_model.specs.Operands.{gives, gives_int}
use Rattle.py_value.specs.Contents.{int}
use Rattle.op_work.proofs.Ending.{ends_gives, ends_fault}
use Rattle.op_numbers.proofs.NumberPlans.{int_gives, int_out}
use Rattle.op_numbers.proofs.answers.int_answer.Goals as goal

pub returns-in-Some : goal.returns-in-Some
returns-in-Some c = λ i is.
    let back : to_z w64 (of_z w64 c.in-Some.i) ≡ c.in-Some.i = search rules in
    let known : FitsSigned w64 i × (c.in-Some.i ≡ i) = subst (λ found. SomeIff found (FitsSigned w64 i) i) c.in-Some.is is in
    ends_gives (λ table. gives_int i) c.args.work.now _ c.requires.fresh tt
    (λ table interned extends. int_gives i known.0 ∙ ap (λ k. gives (int k)) (sym (back ∙ known.1)))

pub returns-in-None : goal.returns-in-None
returns-in-None c = λ i is. ends_fault (λ table. gives_int i) 3 _ c.fault.result c.fault.ensures
    (λ table interned extends. int_out i (subst (λ found. SomeIff found (FitsSigned w64 i) i) c.in-None.is is))
