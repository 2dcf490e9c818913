use Rattle.std.proofs.Common.{refl, sym, ap, ◌∙◌, List, true, false}
use Rattle.py_model.specs.Classes.{answers_truth, first_hit}
use Rattle.py_model.specs.Classes.{isinstance as plan_isinstance, value_is}
use Rattle.py_value.specs.Contents.{contents, parts_by}
use Rattle.py_value.specs.declared.value.Value.{Value}
use Rattle.py_value.specs.declared.value.Value.TheVariants.{Bool as TruthValue, Tuple}
use Rattle.op_work.specs.Work.{Ends}
use Rattle.op_work.proofs.Ending.{ends_then, ends_stop, ends_gives, ends_fault}
use Rattle.op_work.proofs.Going.{passes_err}
use Rattle.op_classes.proofs.EndsSame.{ends_same}
use Rattle.op_classes.specs.ObjectKinds.{are_kinds}
use Rattle.op_classes.proofs.FirstKinds.{tuple_plan}
use Rattle.op_classes.proofs.kindred.is_of_tuple.Goals as goal

pub returns-in_err-hit : goal.returns-in_err-hit
returns-in_err-hit c =
    let items = c.tuple_of.result.now in
    let all = sym (ap are_kinds (c.as_slice.ensures.value ∙ c.in_ok-kinds.ensures.items)) ∙ (sym c.all_kinds-are_all.ensures ∙ c.if-are_all.true) in
    let same = c.as_slice-then-are_all.ensures.value ∙ c.in_ok-kinds.ensures.items in
    passes_err (λ result. Ends (λ table. plan_isinstance (contents table c.args.v) (contents table (Tuple c.args.id))) c.args.work.now c.is_of_one.new.work result)
    c.from_residual-in_err-hit.result c.from_residual-in_err-hit.ensures.1
    (ends_same (λ table. plan_isinstance (contents table c.args.v) (contents table (Tuple c.args.id)))
    (λ table interned extends. tuple_plan table (contents table c.args.v) c.args.id items
    (c.tuples_are_their_parts.ensures table c.args.id items interned (extends.tuples c.args.id items (c.is_of_one.ensures.kept.extends.tuples c.args.id items c.tuple_of.ensures.items))) true all ∙ ap (λ (vs : List Value). first_hit (value_is (contents table c.args.v)) (parts_by (contents table) vs) answers_truth) (sym same))
    (ends_stop (λ table b. answers_truth b) c.in_err-hit.field-0.0 c.in_err-hit.ensures))

pub returns-then-are_all : goal.returns-then-are_all
returns-then-are_all c =
    let items = c.tuple_of.result.now in
    let all = sym (ap are_kinds (c.as_slice.ensures.value ∙ c.in_ok-kinds.ensures.items)) ∙ (sym c.all_kinds-are_all.ensures ∙ c.if-are_all.true) in
    let same = c.as_slice-then-are_all.ensures.value ∙ c.in_ok-kinds.ensures.items in
    ends_same (λ table. plan_isinstance (contents table c.args.v) (contents table (Tuple c.args.id)))
    (λ table interned extends. tuple_plan table (contents table c.args.v) c.args.id items
    (c.tuples_are_their_parts.ensures table c.args.id items interned (extends.tuples c.args.id items (c.is_of_one.ensures.kept.extends.tuples c.args.id items c.tuple_of.ensures.items))) true all ∙ ap (λ (vs : List Value). first_hit (value_is (contents table c.args.v)) (parts_by (contents table) vs) answers_truth) (sym same))
    (ends_then (λ table b. answers_truth b) c.in_ok-hit.ensures (λ table interned extends. refl)
    (ends_gives (λ table. answers_truth c.in_ok-hit.hit) c.is_of_one.new.work (TruthValue c.in_ok-hit.hit) (c.in_ok-hit.ensures.kept.made_is ∙ c.requires.first) tt (λ table interned extends. refl)))

pub returns : goal.returns
returns c =
    let items = c.tuple_of.result.now in
    let all = sym (ap are_kinds (c.as_slice.ensures.value ∙ c.in_ok-kinds.ensures.items)) ∙ (sym c.all_kinds-are_all.ensures ∙ c.if-are_all.false) in
    ends_fault (λ table. plan_isinstance (contents table c.args.v) (contents table (Tuple c.args.id))) 9 _ c.fault.result c.fault.ensures
    (λ table interned extends. tuple_plan table (contents table c.args.v) c.args.id items
    (c.tuples_are_their_parts.ensures table c.args.id items interned (extends.tuples c.args.id items (c.fault.ensures.kept.extends.tuples c.args.id items c.tuple_of.ensures.items))) false all)
