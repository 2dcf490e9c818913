use Rattle.std.proofs.Common.{sym, ap, ◌∙◌}
use Rattle.py_model.specs.Classes.{object_is as plan_object_is}
use Rattle.py_value.specs.Contents.{contents}
use Rattle.op_work.specs.Work.{seen_kind}
use Rattle.op_work.proofs.Going.{comes_as}
use Rattle.op_classes.proofs.OfKinds.{by_object, builtin_is, object_named}
use Rattle.op_classes.proofs.kindred.object_is.Goals as goal

pub returns-in-Some : goal.returns-in-Some
returns-in-Some c = comes_as (by_object c.args.sought) c.object_names.result c.kind.ensures tt
    (λ table interned extends go. ap (λ s. plan_object_is (contents table s) go (seen_kind table c.kind.result)) (builtin_is c.args.sought c.in-Some.number (sym c.builtin_of.ensures ∙ c.in-Some.is))
    ∙ (object_named table c.kind.result c.in-Some.number go ∙ ap go (sym c.object_names.ensures)))
