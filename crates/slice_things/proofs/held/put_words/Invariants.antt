use Rattle.std.proofs.Common.{◌≡◌}
use Rattle.py_value.specs.declared.access.Location.{Location}
use Rattle.slice_things.specs.Held.{noted_at, with_words}
use Rattle.slice_things.proofs.held.put_words.Given as goal

abbrev pub invariant-loop-i : goal.invariant-loop-i
invariant-loop-i l = (x : Location) → noted_at l.places.entries x ≡ with_words l.i x (noted_at l.fn.places.entries x)
