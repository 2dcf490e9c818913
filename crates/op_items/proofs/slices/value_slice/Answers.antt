use Rattle.std.proofs.Common.{ap, [], ◌∷◌}
use Rattle.py_model.specs.Lists.{slice}
use Rattle.py_value.specs.Contents.{contents}
use Rattle.op_work.proofs.Ending.{ends_fault}
use Rattle.op_dicts.proofs.EndsEqual.{ends_equal}
use Rattle.op_items.proofs.SlicePlans.{no_slice}
use Rattle.op_items.proofs.slices.value_slice.Goals as goal

pub returns-in-Text : goal.returns-in-Text
returns-in-Text c = ends_equal (λ table. slice (contents table c.args.v ∷ contents table c.args.low ∷ contents table c.args.high ∷ []))
    (λ table interned extends. ap (λ v. slice (contents table v ∷ contents table c.args.low ∷ contents table c.args.high ∷ [])) c.in-Text.is) c.text_slice.ensures

pub returns-in-Tuple : goal.returns-in-Tuple
returns-in-Tuple c = ends_equal (λ table. slice (contents table c.args.v ∷ contents table c.args.low ∷ contents table c.args.high ∷ []))
    (λ table interned extends. ap (λ v. slice (contents table v ∷ contents table c.args.low ∷ contents table c.args.high ∷ [])) c.in-Tuple.is) c.tuple_slice.ensures

pub returns-in-Object : goal.returns-in-Object
returns-in-Object c = ends_equal (λ table. slice (contents table c.args.v ∷ contents table c.args.low ∷ contents table c.args.high ∷ []))
    (λ table interned extends. ap (λ v. slice (contents table v ∷ contents table c.args.low ∷ contents table c.args.high ∷ [])) c.in-Object.is) c.list_slice.ensures

pub returns-in_default : goal.returns-in_default
returns-in_default c = ends_fault (λ table. slice (contents table c.args.v ∷ contents table c.args.low ∷ contents table c.args.high ∷ [])) 9 _ c.fault.result c.fault.ensures
    (λ table interned extends. no_slice table c.args.v (contents table c.args.low) (contents table c.args.high) c.in_default.not-Text c.in_default.not-Tuple c.in_default.not-Object)
