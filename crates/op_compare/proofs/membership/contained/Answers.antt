use Rattle.std.proofs.Common.{rules, ◌≡◌, ◌∙◌, sym, ap, w64, to_z, of_z}
use Rattle.py_model.specs.Arithmetic.{contained}
use Rattle.py_value.specs.Contents.{contents, range}
use Rattle.op_work.proofs.Going.{comes_same, fault_comes}
use Rattle.op_lists.proofs.RangeNumbers.{of_three}
use Rattle.op_compare.proofs.OtherKinds.{not_sought}
use Rattle.op_compare.proofs.membership.contained.Goals as goal

pub returns-in-Text : goal.returns-in-Text
returns-in-Text c = comes_same (λ table. contained (contents table c.args.v) (contents table c.args.w)) (λ table interned extends go. ap (λ w. contained (contents table c.args.v) (contents table w) go) c.in-Text.is) c.in_text.ensures

pub returns-in-Tuple : goal.returns-in-Tuple
returns-in-Tuple c = comes_same (λ table. contained (contents table c.args.v) (contents table c.args.w)) (λ table interned extends go. ap (λ w. contained (contents table c.args.v) (contents table w) go) c.in-Tuple.is) c.in_tuple.ensures

pub returns-in-Range : goal.returns-in-Range
returns-in-Range c =
    let a_is : to_z w64 (of_z w64 c.in-Range.start) ≡ c.in-Range.start = search rules in
    let b_is : to_z w64 (of_z w64 c.in-Range.end) ≡ c.in-Range.end = search rules in
    let s_is : to_z w64 (of_z w64 c.in-Range.step) ≡ c.in-Range.step = search rules in
    comes_same (λ table. contained (contents table c.args.v) (contents table c.args.w))
    (λ table interned extends go. ap (λ w. contained (contents table c.args.v) (contents table w) go) c.in-Range.is
    ∙ of_three (λ a b s. contained (contents table c.args.v) (range a b s) go) (sym a_is) (sym b_is) (sym s_is)) c.in_range.ensures

pub returns-in-Object : goal.returns-in-Object
returns-in-Object c = comes_same (λ table. contained (contents table c.args.v) (contents table c.args.w)) (λ table interned extends go. ap (λ w. contained (contents table c.args.v) (contents table w) go) c.in-Object.is) c.in_object.ensures

pub returns-in_default : goal.returns-in_default
returns-in_default c = fault_comes (λ table. contained (contents table c.args.v) (contents table c.args.w)) 9 _ c.fault.result c.fault.ensures
    (λ table interned extends go. not_sought table (contents table c.args.v) c.args.w c.in_default.not-Text c.in_default.not-Tuple c.in_default.not-Range c.in_default.not-Object go)
