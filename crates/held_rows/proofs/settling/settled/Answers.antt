use Rattle.std.proofs.Common.{◌≡◌, ap, subst, ◌∙◌, take, [], arith}
use Rattle.std.proofs.lemmas.List.{take_all}
use Rattle.slice_things.specs.Counts.{often}
use Rattle.held_rows.specs.Settled.{left, Settles}
use Rattle.held_rows.specs.Steps.{keys_after, IsNamedStep}
use Rattle.held_rows.proofs.SettledLaws.{none_settled, all_left}
use Rattle.held_rows.proofs.StepLaws.{if_ok, steps_next, each_in}
use Rattle.held_rows.proofs.settling.settled.Goals as goal

pub loop-step-init : goal.loop-step-init
loop-step-init c = (c.new-settling.ensures.few, λ view are named. none_settled view c.args.forms.now are c.new-settling.result c.new-settling.ensures.slots c.new-settling.ensures.there c.new-settling.ensures.out)

pub step-requires : goal.step-requires
step-requires c = record { few = c.loop-step.invariant.0 }

pub loop-step-preserved : goal.loop-step-preserved
loop-step-preserved c = (
  c.in_ok-step.ensures.few,
  λ view are named.
      let steps = c.args.steps.now in
      let i = c.loop-step.step-index in
      subst (Settles view c.args.forms.now c.step.new.self) (steps_next view steps i _ c.loop-step-test.true)
      (c.in_ok-step.ensures.keys view (keys_after view (take i steps) []) are (each_in (IsNamedStep view) steps i _ named c.loop-step-test.true) (c.loop-step.invariant.1 view are named)),
)

pub returns : goal.returns
returns c = λ view are named.
    let steps = c.args.steps.now in
    let all : take c.loop-step.step-index steps ≡ steps = take_all c.loop-step.step-index steps (omega (arith, c.loop-step-test.false)) in
    if_ok c.keys_left.result c.keys_left.ensures (λ keys is.
    all_left view c.args.forms.now are c.loop-step.settling (keys_after view steps []) keys.items
    (subst (λ these. Settles view c.args.forms.now c.loop-step.settling (keys_after view these [])) all (c.loop-step.invariant.1 view are named))
    (is ∙ ap (λ these. left c.args.forms.now.numbers.items (λ f. often f c.loop-step.settling.out) these) c.as_slice.ensures.value))
