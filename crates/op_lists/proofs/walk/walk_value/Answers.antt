use Rattle.std.proofs.Common.{rules, ◌≡◌, ◌∙◌, sym, ap, w64, to_z, of_z}
use Rattle.py_model.specs.Walks.{walk}
use Rattle.py_value.specs.Contents.{contents, range}
use Rattle.op_work.proofs.Going.{comes_same, fault_comes}
use Rattle.op_lists.proofs.OtherKinds.{no_walk}
use Rattle.op_lists.proofs.RangeNumbers.{of_three}
use Rattle.op_lists.proofs.walk.walk_value.Goals as goal

pub returns-in-Text : goal.returns-in-Text
returns-in-Text c = comes_same (λ table. walk (contents table c.args.v)) (λ table interned extends go. ap (λ v. walk (contents table v) go) c.in-Text.is) c.walk_text.ensures

pub returns-in-Tuple : goal.returns-in-Tuple
returns-in-Tuple c = comes_same (λ table. walk (contents table c.args.v)) (λ table interned extends go. ap (λ v. walk (contents table v) go) c.in-Tuple.is) c.walk_tuple.ensures

pub returns-in-Range : goal.returns-in-Range
returns-in-Range c =
    let start_is : to_z w64 (of_z w64 c.in-Range.start) ≡ c.in-Range.start = search rules in
    let end_is : to_z w64 (of_z w64 c.in-Range.end) ≡ c.in-Range.end = search rules in
    let step_is : to_z w64 (of_z w64 c.in-Range.step) ≡ c.in-Range.step = search rules in
    comes_same (λ table. walk (contents table c.args.v))
    (λ table interned extends go. ap (λ v. walk (contents table v) go) c.in-Range.is ∙ of_three (λ a b d. walk (range a b d) go) (sym start_is) (sym end_is) (sym step_is)) c.walk_range.ensures

pub returns-in-Object : goal.returns-in-Object
returns-in-Object c = comes_same (λ table. walk (contents table c.args.v)) (λ table interned extends go. ap (λ v. walk (contents table v) go) c.in-Object.is) c.walk_object.ensures

pub returns-in_default : goal.returns-in_default
returns-in_default c = fault_comes (λ table. walk (contents table c.args.v)) 9 _ c.fault.result c.fault.ensures
    (λ table interned extends go. no_walk table c.args.v c.in_default.not-Text c.in_default.not-Tuple c.in_default.not-Range c.in_default.not-Object go)
