use Rattle.std.proofs.Common.{sym, ap, ◌∙◌}
use Rattle.py_model.specs.Raising.{raise as plan_raise, raise_class}
use Rattle.py_value.specs.Contents.{contents}
use Rattle.op_classes.proofs.WithFiles.{object_is}
use Rattle.op_work.proofs.Ending.{ends_fault}
use Rattle.op_classes.proofs.EndsSame.{ends_same}
use Rattle.op_classes.proofs.OfClasses.{raise_other, when_class}
use Rattle.op_classes.proofs.raises.raise.Goals as goal

pub returns-in-Some : goal.returns-in-Some
returns-in-Some c = ends_same (λ table. plan_raise (contents table c.args.v))
    (λ table interned extends. ap (λ v. plan_raise (contents table v)) (object_is c.args.v c.in-Some.o (sym c.object_of.ensures ∙ c.in-Some.is))) c.raise_object.ensures

pub returns-then-there : goal.returns-then-there
returns-then-there c = ends_same (λ table. plan_raise (contents table c.args.v))
    (λ table interned extends. raise_other table c.args.v (sym c.object_of.ensures ∙ c.in_default.is)
    ∙ ap (when_class (raise_class (contents table c.args.v))) (sym c.is_class-there.ensures ∙ c.if-there.true)) c.raise_class.ensures

pub returns : goal.returns
returns c = ends_fault (λ table. plan_raise (contents table c.args.v)) 9 _ c.fault.result c.fault.ensures
    (λ table interned extends. raise_other table c.args.v (sym c.object_of.ensures ∙ c.in_default.is)
    ∙ ap (when_class (raise_class (contents table c.args.v))) (sym c.is_class-there.ensures ∙ c.if-there.false))
