use Rattle.std.proofs.Common.{◌≡◌, ◌+◌, drop}
use Rattle.py_value.specs.declared.value.Value.{Value}
use Rattle.slice_things.specs.Counts.{often, count_of}
use Rattle.slice_things.proofs.counts.Counts.of.Given as goal

abbrev pub invariant-loop-key : goal.invariant-loop-key
invariant-loop-key l = (f : Value) → often f l.counts + count_of l.forms.numbers.items f (drop l.key-index l.keys) ≡ count_of l.forms.numbers.items f l.keys
