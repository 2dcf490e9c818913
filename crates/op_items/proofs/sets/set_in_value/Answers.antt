use Rattle.std.proofs.Common.{ap, [], ◌∷◌}
use Rattle.py_model.specs.Lists.{setitem}
use Rattle.py_value.specs.Contents.{contents}
use Rattle.op_work.proofs.Ending.{ends_fault}
use Rattle.op_dicts.proofs.EndsEqual.{ends_equal}
use Rattle.op_items.proofs.SetPlans.{no_set}
use Rattle.op_items.proofs.sets.set_in_value.Goals as goal

pub returns-in-Object : goal.returns-in-Object
returns-in-Object c = ends_equal (λ table. setitem (contents table c.args.v ∷ contents table c.args.w ∷ contents table c.args.x ∷ []))
    (λ table interned extends. ap (λ v. setitem (contents table v ∷ contents table c.args.w ∷ contents table c.args.x ∷ [])) c.in-Object.is) c.set_in_object.ensures

pub returns-in_default : goal.returns-in_default
returns-in_default c = ends_fault (λ table. setitem (contents table c.args.v ∷ contents table c.args.w ∷ contents table c.args.x ∷ [])) 9 _ c.fault.result c.fault.ensures
    (λ table interned extends. no_set table c.args.v (contents table c.args.w) (contents table c.args.x) c.in_default.not-Object)
