use Rattle.std.proofs.Common.{rules, ◌≡◌, ◌∙◌, sym, ap, subst, map, None, Option, ℤ, to_z, of_z, w64}
use Rattle.std.specs.Option.{option_copied}
use Rattle.capture.specs.declared.answer.Ask.{Ask as Question}
use Rattle.op_devices.specs.Asking.{answered_by}
use Rattle.op_devices.specs.Draws.{many_below}
use Rattle.op_devices.specs.Given.{IsGiven}
use Rattle.op_devices.proofs.DrawPlans.{randrange_count, randrange_other, randrange_none, randrange_some, randrange_word}
use Rattle.op_dicts.proofs.EndsEqual.{ends_equal}
use Rattle.op_work.proofs.Ending.{ends_fault}
use Rattle.py_model.specs.Files.{randrange_plan}
use Rattle.py_value.specs.Contents.{contents}
use Rattle.op_devices.proofs.draws.randrange.Goals as goal

pub returns-then-operands-ne2 : goal.returns-then-operands-ne2
returns-then-operands-ne2 c = λ k given_is. ends_fault (λ table. answered_by k (randrange_plan (map (contents table) c.args.operands.now))) 9 _ c.fault.result c.fault.ensures
    (λ table interned extends. ap (answered_by k) (randrange_count (contents table) c.args.operands.now c.if-operands-ne2.true))

pub returns-in_default : goal.returns-in_default
returns-in_default c = λ k given_is.
    let none : c.number_of.result ≡ None = search rules in
    ends_fault (λ table. answered_by k (randrange_plan (map (contents table) c.args.operands.now))) 9 _ c.fault-in_default.result c.fault-in_default.ensures
    (λ table interned extends. ap (answered_by k) (randrange_other table c.args.operands.now c.if-operands-ne2.false (sym c.number_of.ensures ∙ none)))

pub returns-in_default-below : goal.returns-in_default-below
returns-in_default-below c = λ k given_is.
    let none : c.below.result ≡ None = search rules in
    let back : to_z w64 (of_z w64 c.in-Some.bound) ≡ c.in-Some.bound = search rules in
    ends_fault (λ table. answered_by k (randrange_plan (map (contents table) c.args.operands.now))) 10 _ c.fault-in_default-below.result c.fault-in_default-below.ensures
    (λ table interned extends. ap (answered_by k) (randrange_none table c.args.operands.now c.if-operands-ne2.false c.in-Some.bound (sym c.number_of.ensures ∙ c.in-Some.is) (ap (λ (i : ℤ). many_below i) (sym back) ∙ (sym c.below.ensures.many ∙ none))))

pub returns : goal.returns
returns c = λ k given_is.
    let back : to_z w64 (of_z w64 c.in-Some.bound) ≡ c.in-Some.bound = search rules in
    let many_is = ap (λ (i : ℤ). many_below i) (sym back) ∙ (sym c.below.ensures.many ∙ c.in-Some-below.is) in
    let bound_is = sym c.number_of.ensures ∙ c.in-Some.is in
    let word_is = randrange_word c.args.operands.now c.in-Some.bound c.in-Some-below.many c.if-operands-ne2.false bound_is many_is in
    ends_equal (λ table. answered_by k (randrange_plan (map (contents table) c.args.operands.now)))
    (λ table interned extends. ap (answered_by k) (randrange_some table c.args.operands.now c.if-operands-ne2.false c.in-Some.bound c.in-Some-below.many bound_is many_is))
    (c.drawn.ensures k (subst (λ (o : Option Question). IsGiven k o (option_copied c.args.given)) word_is given_is))
