use Rattle.std.proofs.Common.{sym, ap, ◌∙◌}
use Rattle.py_model.specs.Classes.{isinstance as plan_isinstance}
use Rattle.py_value.specs.Contents.{contents}
use Rattle.op_classes.proofs.EndsSame.{ends_same}
use Rattle.op_classes.proofs.FirstKinds.{tuple_is}
use Rattle.op_classes.proofs.kindred.isinstance.Goals as goal

pub returns-in-Some : goal.returns-in-Some
returns-in-Some c = ends_same (λ table. plan_isinstance (contents table c.args.v) (contents table c.args.sought))
    (λ table interned extends. ap (λ s. plan_isinstance (contents table c.args.v) (contents table s)) (tuple_is c.args.sought c.in-Some.id (sym c.tuple_number.ensures ∙ c.in-Some.is))) c.is_of_tuple.ensures
