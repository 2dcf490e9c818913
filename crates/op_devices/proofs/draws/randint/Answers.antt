use Rattle.std.proofs.Common.{rules, ◌≡◌, ◌∙◌, sym, ap, subst, map, None, Option, ℤ, to_z, of_z, w64}
use Rattle.std.specs.Option.{option_copied}
use Rattle.capture.specs.declared.answer.Ask.{Ask as Question}
use Rattle.op_devices.specs.Asking.{answered_by}
use Rattle.op_devices.specs.Draws.{many_between}
use Rattle.op_devices.specs.Given.{IsGiven}
use Rattle.op_devices.proofs.DrawPlans.{randint_count, randint_low, randint_high, randint_none, randint_some, randint_word}
use Rattle.op_dicts.proofs.EndsEqual.{ends_equal}
use Rattle.op_work.proofs.Ending.{ends_fault}
use Rattle.py_model.specs.Files.{drawn, randint_plan}
use Rattle.py_value.specs.Contents.{contents}
use Rattle.op_devices.proofs.draws.randint.Goals as goal

pub returns-then-operands-ne3 : goal.returns-then-operands-ne3
returns-then-operands-ne3 c = λ k given_is. ends_fault (λ table. answered_by k (randint_plan (map (contents table) c.args.operands.now))) 9 _ c.fault.result c.fault.ensures
    (λ table interned extends. ap (answered_by k) (randint_count (contents table) c.args.operands.now c.if-operands-ne3.true))

pub returns-in_default : goal.returns-in_default
returns-in_default c = λ k given_is.
    let none : c.number_of.result ≡ None = search rules in
    ends_fault (λ table. answered_by k (randint_plan (map (contents table) c.args.operands.now))) 9 _ c.fault-in_default.result c.fault-in_default.ensures
    (λ table interned extends. ap (answered_by k) (randint_low table c.args.operands.now c.if-operands-ne3.false (sym c.number_of.ensures ∙ none)))

pub returns-in_default-number_of : goal.returns-in_default-number_of
returns-in_default-number_of c = λ k given_is.
    ends_fault (λ table. answered_by k (randint_plan (map (contents table) c.args.operands.now))) 9 _ c.fault-in_default-number_of.result c.fault-in_default-number_of.ensures
    (λ table interned extends. ap (answered_by k) (randint_high table c.args.operands.now c.if-operands-ne3.false c.in-Some.low (sym c.number_of.ensures ∙ c.in-Some.is) (sym c.number_of-2.ensures ∙ c.in_default-number_of.is)))

pub returns-in_default-between : goal.returns-in_default-between
returns-in_default-between c = λ k given_is.
    let back_low : to_z w64 (of_z w64 c.in-Some.low) ≡ c.in-Some.low = search rules in
    let back_high : to_z w64 (of_z w64 c.in-Some-number_of.high) ≡ c.in-Some-number_of.high = search rules in
    let many_is = ap (λ (i : ℤ). many_between i c.in-Some-number_of.high) (sym back_low) ∙ (ap (λ (i : ℤ). many_between (to_z w64 (of_z w64 c.in-Some.low)) i) (sym back_high) ∙ (sym c.between.ensures.many ∙ c.in_default-between.is)) in
    ends_fault (λ table. answered_by k (randint_plan (map (contents table) c.args.operands.now))) 10 _ c.fault-in_default-between.result c.fault-in_default-between.ensures
    (λ table interned extends. ap (answered_by k) (randint_none table c.args.operands.now c.if-operands-ne3.false c.in-Some.low c.in-Some-number_of.high
    (sym c.number_of.ensures ∙ c.in-Some.is) (sym c.number_of-2.ensures ∙ c.in-Some-number_of.is) many_is))

pub returns : goal.returns
returns c = λ k given_is.
    let back_low : to_z w64 (of_z w64 c.in-Some.low) ≡ c.in-Some.low = search rules in
    let back_high : to_z w64 (of_z w64 c.in-Some-number_of.high) ≡ c.in-Some-number_of.high = search rules in
    let many_is = ap (λ (i : ℤ). many_between i c.in-Some-number_of.high) (sym back_low) ∙ (ap (λ (i : ℤ). many_between (to_z w64 (of_z w64 c.in-Some.low)) i) (sym back_high) ∙ (sym c.between.ensures.many ∙ c.in-Some-between.is)) in
    let low_is = sym c.number_of.ensures ∙ c.in-Some.is in
    let high_is = sym c.number_of-2.ensures ∙ c.in-Some-number_of.is in
    let word_is = randint_word c.args.operands.now c.in-Some.low c.in-Some-number_of.high c.in-Some-between.many c.if-operands-ne3.false low_is high_is many_is in
    ends_equal (λ table. answered_by k (randint_plan (map (contents table) c.args.operands.now)))
    (λ table interned extends. ap (answered_by k) (randint_some table c.args.operands.now c.if-operands-ne3.false c.in-Some.low c.in-Some-number_of.high c.in-Some-between.many low_is high_is many_is
    ∙ ap (λ (i : ℤ). drawn i c.in-Some-between.many) (sym back_low)))
    (c.drawn.ensures k (subst (λ (o : Option Question). IsGiven k o (option_copied c.args.given)) word_is given_is))
