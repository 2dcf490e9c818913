use Rattle.std.proofs.Common.{◌≡◌, ◌++◌, drop}
use Rattle.slice_things.specs.Counts.{often}
use Rattle.held_rows.specs.Settled.{left}
use Rattle.held_rows.proofs.settling.keys_left.Given as goal

abbrev pub invariant-loop-key : goal.invariant-loop-key
invariant-loop-key l = l.keys.items ++ left l.forms.numbers.items (λ f. often f l.taken) (drop l.key-index l.slots) ≡ left l.forms.numbers.items (λ f. often f l.fn.out) l.slots
