use Rattle.std.proofs.Common.{refl, sym, ◌∙◌, true, false}
use Rattle.py_model.specs.Classes.{answers_truth}
use Rattle.py_model.specs.Classes.{isinstance as plan_isinstance}
use Rattle.py_value.specs.Contents.{contents}
use Rattle.py_value.specs.declared.value.Value.TheVariants.{Bool as TruthValue}
use Rattle.op_work.specs.Work.{Ends}
use Rattle.op_work.proofs.Ending.{ends_then, ends_stop, ends_gives, ends_fault}
use Rattle.op_work.proofs.Going.{passes_err}
use Rattle.op_classes.proofs.EndsSame.{ends_same}
use Rattle.op_classes.proofs.FirstKinds.{kind_plan}
use Rattle.op_classes.proofs.kindred.is_of_kind.Goals as goal

pub returns-in_err-hit : goal.returns-in_err-hit
returns-in_err-hit c = passes_err (λ result. Ends (λ table. plan_isinstance (contents table c.args.v) (contents table c.args.sought)) c.args.work.now c.value_is.new.work result)
    c.from_residual.result c.from_residual.ensures.1
    (ends_same (λ table. plan_isinstance (contents table c.args.v) (contents table c.args.sought))
    (λ table interned extends. kind_plan table (contents table c.args.v) c.args.sought c.requires.single true (sym c.is_kind-there.ensures ∙ c.if-there.true))
    (ends_stop (λ table b. answers_truth b) c.in_err-hit.field-0.0 c.in_err-hit.ensures))

pub returns-then-there : goal.returns-then-there
returns-then-there c = ends_same (λ table. plan_isinstance (contents table c.args.v) (contents table c.args.sought))
    (λ table interned extends. kind_plan table (contents table c.args.v) c.args.sought c.requires.single true (sym c.is_kind-there.ensures ∙ c.if-there.true))
    (ends_then (λ table b. answers_truth b) c.in_ok-hit.ensures (λ table interned extends. refl)
    (ends_gives (λ table. answers_truth c.in_ok-hit.hit) c.value_is.new.work (TruthValue c.in_ok-hit.hit) (c.in_ok-hit.ensures.kept.made_is ∙ c.requires.first) tt (λ table interned extends. refl)))

pub returns : goal.returns
returns c = ends_fault (λ table. plan_isinstance (contents table c.args.v) (contents table c.args.sought)) 9 _ c.fault.result c.fault.ensures
    (λ table interned extends. kind_plan table (contents table c.args.v) c.args.sought c.requires.single false (sym c.is_kind-there.ensures ∙ c.if-there.false))
