use Rattle.std.proofs.Common.{◌∙◌, ap, [], ◌∷◌}
use Rattle.py_model.specs.Lists.{iter}
use Rattle.py_value.specs.Contents.{contents}
use Rattle.op_work.proofs.Ending.{ends_fault}
use Rattle.op_dicts.proofs.EndsEqual.{ends_equal}
use Rattle.op_items.proofs.StartPlans.{start_of, tuple_start, no_start}
use Rattle.op_items.proofs.starts.iter_value.Goals as goal

pub returns-in-Text : goal.returns-in-Text
returns-in-Text c = ends_equal (λ table. iter (contents table c.args.v ∷ [])) (λ table interned extends. ap (λ v. start_of (contents table v)) c.in-Text.is) c.value_answer.ensures

pub returns-in-Tuple : goal.returns-in-Tuple
returns-in-Tuple c = ends_equal (λ table. iter (contents table c.args.v ∷ [])) (λ table interned extends. ap (λ v. start_of (contents table v)) c.in-Tuple.is ∙ tuple_start table c.in-Tuple.field-0) c.value_answer-in-Tuple.ensures

pub returns-in-Range : goal.returns-in-Range
returns-in-Range c = ends_equal (λ table. iter (contents table c.args.v ∷ [])) (λ table interned extends. ap (λ v. start_of (contents table v)) c.in-Range.is) c.value_answer-in-Range.ensures

pub returns-in-Object : goal.returns-in-Object
returns-in-Object c = ends_equal (λ table. iter (contents table c.args.v ∷ [])) (λ table interned extends. ap (λ v. start_of (contents table v)) c.in-Object.is) c.iter_object.ensures

pub returns-in_default : goal.returns-in_default
returns-in_default c = ends_fault (λ table. iter (contents table c.args.v ∷ [])) 9 _ c.fault.result c.fault.ensures
    (λ table interned extends. no_start table c.args.v c.in_default.not-Text c.in_default.not-Tuple c.in_default.not-Range c.in_default.not-Object)
