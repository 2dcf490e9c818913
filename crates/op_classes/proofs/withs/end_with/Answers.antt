use Rattle.std.proofs.Common.{sym, ap, ◌∙◌}
use Rattle.py_model.specs.Names.{end_with as plan_end}
use Rattle.py_value.specs.Contents.{contents}
use Rattle.op_work.proofs.Ending.{ends_fault}
use Rattle.op_classes.proofs.EndsSame.{ends_same}
use Rattle.op_classes.proofs.WithFiles.{object_is, end_other}
use Rattle.op_classes.proofs.withs.end_with.Goals as goal

pub returns-in-Some : goal.returns-in-Some
returns-in-Some c = ends_same (λ table. plan_end (contents table c.args.v))
    (λ table interned extends. ap (λ v. plan_end (contents table v)) (object_is c.args.v c.in-Some.o (sym c.object_of.ensures ∙ c.in-Some.is))) c.end_of_object.ensures

pub returns-in-None : goal.returns-in-None
returns-in-None c = ends_fault (λ table. plan_end (contents table c.args.v)) 9 _ c.fault.result c.fault.ensures
    (λ table interned extends. end_other table c.args.v (sym c.object_of.ensures ∙ c.in-None.is))
