use Rattle.std.proofs.Common.{rules, ◌≡◌, ◌∙◌, sym, ap, w64, to_z, of_z, [], ◌∷◌}
use Rattle.py_model.specs.Lists.{getitem}
use Rattle.py_value.specs.Contents.{contents, range}
use Rattle.op_work.proofs.Ending.{ends_fault}
use Rattle.op_dicts.proofs.EndsEqual.{ends_equal}
use Rattle.op_lists.proofs.RangeNumbers.{of_three}
use Rattle.op_items.proofs.GetPlans.{no_item}
use Rattle.op_items.proofs.gets.value_item.Goals as goal

pub returns-in-Text : goal.returns-in-Text
returns-in-Text c = ends_equal (λ table. getitem (contents table c.args.v ∷ contents table c.args.w ∷ [])) (λ table interned extends. ap (λ v. getitem (contents table v ∷ contents table c.args.w ∷ [])) c.in-Text.is) c.text_item.ensures

pub returns-in-Tuple : goal.returns-in-Tuple
returns-in-Tuple c = ends_equal (λ table. getitem (contents table c.args.v ∷ contents table c.args.w ∷ [])) (λ table interned extends. ap (λ v. getitem (contents table v ∷ contents table c.args.w ∷ [])) c.in-Tuple.is) c.tuple_item.ensures

pub returns-in-Range : goal.returns-in-Range
returns-in-Range c =
    let start_is : to_z w64 (of_z w64 c.in-Range.start) ≡ c.in-Range.start = search rules in
    let end_is : to_z w64 (of_z w64 c.in-Range.end) ≡ c.in-Range.end = search rules in
    let step_is : to_z w64 (of_z w64 c.in-Range.step) ≡ c.in-Range.step = search rules in
    ends_equal (λ table. getitem (contents table c.args.v ∷ contents table c.args.w ∷ []))
    (λ table interned extends. ap (λ v. getitem (contents table v ∷ contents table c.args.w ∷ [])) c.in-Range.is
    ∙ of_three (λ a b d. getitem (range a b d ∷ contents table c.args.w ∷ [])) (sym start_is) (sym end_is) (sym step_is)) c.range_item.ensures

pub returns-in-Object : goal.returns-in-Object
returns-in-Object c = ends_equal (λ table. getitem (contents table c.args.v ∷ contents table c.args.w ∷ [])) (λ table interned extends. ap (λ v. getitem (contents table v ∷ contents table c.args.w ∷ [])) c.in-Object.is) c.object_item.ensures

pub returns-in_default : goal.returns-in_default
returns-in_default c = ends_fault (λ table. getitem (contents table c.args.v ∷ contents table c.args.w ∷ [])) 9 _ c.fault.result c.fault.ensures
    (λ table interned extends. no_item table c.args.v (contents table c.args.w) c.in_default.not-Text c.in_default.not-Tuple c.in_default.not-Range c.in_default.not-Object)
