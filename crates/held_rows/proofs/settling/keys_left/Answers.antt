use Rattle.std.proofs.Common.{◌++◌, drop, ap, sym, ◌∙◌, ◌+◌}
use Rattle.slice_things.specs.Counts.{often}
use Rattle.held_rows.specs.Settled.{left}
use Rattle.held_rows.proofs.StepLaws.{drop_next}
use Rattle.held_rows.proofs.settling.keys_left.Goals as goal

pub loop-key-preserved : goal.loop-key-preserved
loop-key-preserved c =
    let slots = c.args.slots.now in
    let i = c.loop-key.key-index in
    c.in_ok-keep_left.ensures (drop (i + 1) slots)
    ∙ ap (λ these. c.loop-key.keys.items ++ left c.args.forms.now.numbers.items (λ f. often f c.loop-key.taken) these) (sym (drop_next slots i _ c.loop-key-test.true)) ∙ c.loop-key.invariant
