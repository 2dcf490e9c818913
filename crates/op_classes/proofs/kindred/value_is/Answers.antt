use Rattle.std.proofs.Common.{refl, sym, ap, ◌∙◌}
use Rattle.py_model.specs.Classes.{value_is as plan_value_is}
use Rattle.py_value.specs.Contents.{contents}
use Rattle.op_work.proofs.Going.{at_once, comes_same}
use Rattle.op_classes.proofs.WithFiles.{object_is}
use Rattle.op_classes.specs.ObjectKinds.{builtin_in}
use Rattle.op_classes.proofs.OfKinds.{plain_is}
use Rattle.op_classes.proofs.kindred.value_is.Goals as goal

pub returns-in-Some : goal.returns-in-Some
returns-in-Some c = comes_same (λ table. plan_value_is (contents table c.args.v) (contents table c.args.sought))
    (λ table interned extends go. ap (λ v. plan_value_is (contents table v) (contents table c.args.sought) go) (object_is c.args.v c.in-Some.o (sym c.object_of.ensures ∙ c.in-Some.is)))
    c.object_is.ensures

pub returns-in-None : goal.returns-in-None
returns-in-None c = at_once (λ table. plan_value_is (contents table c.args.v) (contents table c.args.sought)) c.args.work.now c.plain_is.result tt
    (λ table interned extends go. plain_is table c.args.v c.args.sought go (sym c.object_of.ensures ∙ c.in-None.is) (builtin_in c.args.sought) refl ∙ ap go (sym c.plain_is.ensures))
