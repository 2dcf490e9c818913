use Rattle.std.proofs.Common.{◌≡◌, take, map}
use Rattle.slice_things.proofs.forms.put_tuples.Given as goal

abbrev pub invariant-loop-tuple : goal.invariant-loop-tuple
invariant-loop-tuple l = (l.values.texts ≡ l.initial.values.texts) × (l.values.tuples ≡ take l.tuple-index (map (λ k. k.now) l.tuples))
