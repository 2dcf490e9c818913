use Rattle.std.proofs.Common.{ap, [], ◌∷◌}
use Rattle.py_model.specs.Lists.{delitem}
use Rattle.py_value.specs.Contents.{contents}
use Rattle.op_work.proofs.Ending.{ends_fault}
use Rattle.op_dicts.proofs.EndsEqual.{ends_equal}
use Rattle.op_mutations.proofs.Operands.{no_del}
use Rattle.op_mutations.proofs.taking.del_in_value.Goals as goal

pub returns-in-Object : goal.returns-in-Object
returns-in-Object c = ends_equal (λ table. delitem (contents table c.args.v ∷ contents table c.args.w ∷ []))
    (λ table interned extends. ap (λ v. delitem (contents table v ∷ contents table c.args.w ∷ [])) c.in-Object.is) c.del_in_object.ensures

pub returns-in_default : goal.returns-in_default
returns-in_default c = ends_fault (λ table. delitem (contents table c.args.v ∷ contents table c.args.w ∷ [])) 9 _ c.fault.result c.fault.ensures
    (λ table interned extends. no_del table c.args.v (contents table c.args.w) c.in_default.not-Object)
