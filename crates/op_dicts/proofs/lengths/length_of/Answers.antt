use Rattle.std.proofs.Common.{rules, ◌≡◌, ◌∙◌, sym, ap, unwrap_or, [], w64, to_z, of_z}
use Rattle.py_model.specs.Arithmetic.{length_of as plan_length}
use Rattle.py_model.specs.Texts.{size}
use Rattle.py_value.specs.Contents.{contents, range}
use Rattle.op_work.proofs.Going.{at_once, comes_same, fault_comes}
use Rattle.op_numbers.proofs.TruthPlans.{as_many}
use Rattle.op_lists.proofs.RangeNumbers.{of_three}
use Rattle.op_dicts.proofs.OtherLengths.{no_length}
use Rattle.op_dicts.proofs.lengths.length_of.Goals as goal

pub returns-in-Text : goal.returns-in-Text
returns-in-Text c = at_once (λ table. plan_length (contents table c.args.v)) c.args.work.now _ tt
    (λ table interned extends go. ap (λ v. plan_length (contents table v) go) c.in-Text.is
    ∙ (ap (λ bytes. go (size (unwrap_or bytes []))) (extends.texts c.in-Text.id c.text_of.result.now c.text_of.ensures) ∙ ap go (sym c.size.ensures.count)))

pub returns-in-Tuple : goal.returns-in-Tuple
returns-in-Tuple c = at_once (λ table. plan_length (contents table c.args.v)) c.args.work.now _ tt
    (λ table interned extends go. ap (λ v. plan_length (contents table v) go) c.in-Tuple.is
    ∙ (ap (λ x. plan_length x go) (c.tuples_are_their_parts.ensures table c.in-Tuple.id c.tuple_of.result.now interned (extends.tuples c.in-Tuple.id c.tuple_of.result.now c.tuple_of.ensures.items))
    ∙ ap go (as_many (contents table) c.tuple_of.result.now)))

pub returns-in-Range : goal.returns-in-Range
returns-in-Range c =
    let start_is : to_z w64 (of_z w64 c.in-Range.start) ≡ c.in-Range.start = search rules in
    let end_is : to_z w64 (of_z w64 c.in-Range.end) ≡ c.in-Range.end = search rules in
    let step_is : to_z w64 (of_z w64 c.in-Range.step) ≡ c.in-Range.step = search rules in
    at_once (λ table. plan_length (contents table c.args.v)) c.args.work.now _ tt
    (λ table interned extends go. ap (λ v. plan_length (contents table v) go) c.in-Range.is ∙ (of_three (λ a b d. plan_length (range a b d) go) (sym start_is) (sym end_is) (sym step_is)
    ∙ ap go (sym c.range_count.ensures)))

pub returns-in-Object : goal.returns-in-Object
returns-in-Object c = comes_same (λ table. plan_length (contents table c.args.v)) (λ table interned extends go. ap (λ v. plan_length (contents table v) go) c.in-Object.is) c.object_length.ensures

pub returns-in_default : goal.returns-in_default
returns-in_default c = fault_comes (λ table. plan_length (contents table c.args.v)) 9 _ c.fault.result c.fault.ensures
    (λ table interned extends go. no_length table c.args.v c.in_default.not-Text c.in_default.not-Tuple c.in_default.not-Range c.in_default.not-Object go)
