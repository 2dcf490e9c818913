use Rattle.std.proofs.Common.{ap}
use Rattle.py_model.specs.Arithmetic.{add_in_place, added}
use Rattle.py_value.specs.Contents.{contents, object}
use Rattle.op_numbers.proofs.EndsAlike.{ends_as}
use Rattle.op_joins.proofs.InPlacePlans.{no_object}
use Rattle.op_joins.proofs.changing.in_place.Goals as goal

pub returns-in-Object : goal.returns-in-Object
returns-in-Object c = ends_as (λ table. add_in_place (contents table c.args.v) (contents table c.args.w)) (λ table. add_in_place (object c.in-Object.o) (contents table c.args.w))
    (λ table interned extends. ap (λ v. add_in_place (contents table v) (contents table c.args.w)) c.in-Object.is) c.object_in_place.ensures

pub returns-in_default : goal.returns-in_default
returns-in_default c = ends_as (λ table. add_in_place (contents table c.args.v) (contents table c.args.w)) (λ table. added (contents table c.args.v) (contents table c.args.w))
    (λ table interned extends. no_object table c.args.v (contents table c.args.w) c.in_default.not-Object) c.added.ensures
