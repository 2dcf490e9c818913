use Rattle.std.proofs.Common.{sym, ap, ◌∙◌}
use Rattle.py_model.specs.Names.{begin_with as plan_begin}
use Rattle.py_value.specs.Contents.{contents}
use Rattle.op_work.proofs.Ending.{ends_fault}
use Rattle.op_classes.proofs.EndsSame.{ends_same}
use Rattle.op_classes.proofs.WithFiles.{object_is, begin_other}
use Rattle.op_classes.proofs.withs.begin_with.Goals as goal

pub returns-in-Some : goal.returns-in-Some
returns-in-Some c = ends_same (λ table. plan_begin (contents table c.args.v))
    (λ table interned extends. ap (λ v. plan_begin (contents table v)) (object_is c.args.v c.in-Some.o (sym c.object_of.ensures ∙ c.in-Some.is))) c.begin_of_object.ensures

pub returns-in-None : goal.returns-in-None
returns-in-None c = ends_fault (λ table. plan_begin (contents table c.args.v)) 9 _ c.fault.result c.fault.ensures
    (λ table interned extends. begin_other table c.args.v (sym c.object_of.ensures ∙ c.in-None.is))
