use Rattle.std.proofs.Common.{ap, [], ◌∷◌}
use Rattle.py_model.specs.Lists.{unpack}
use Rattle.py_value.specs.Contents.{contents}
use Rattle.op_work.proofs.Ending.{ends_fault}
use Rattle.op_dicts.proofs.EndsEqual.{ends_equal}
use Rattle.op_items.proofs.UnpackPlans.{parts_for, no_parts_of}
use Rattle.op_items.proofs.unpacks.unpack_value.Goals as goal

pub returns-in-Tuple : goal.returns-in-Tuple
returns-in-Tuple c = ends_equal (λ table. unpack c.args.targets (contents table c.args.v ∷ [])) (λ table interned extends. ap (λ v. parts_for c.args.targets (contents table v)) c.in-Tuple.is) c.unpack_tuple.ensures

pub returns-in-Object : goal.returns-in-Object
returns-in-Object c = ends_equal (λ table. unpack c.args.targets (contents table c.args.v ∷ [])) (λ table interned extends. ap (λ v. parts_for c.args.targets (contents table v)) c.in-Object.is) c.unpack_list.ensures

pub returns-in_default : goal.returns-in_default
returns-in_default c = ends_fault (λ table. unpack c.args.targets (contents table c.args.v ∷ [])) 9 _ c.fault.result c.fault.ensures
    (λ table interned extends. no_parts_of table c.args.targets c.args.v c.in_default.not-Tuple c.in_default.not-Object)
