use Rattle.std.proofs.Common.{map}
use Rattle.slice_things.specs.Forms.{AreFormsOf}
use Rattle.slice_things.proofs.forms.Forms.of.Given as goal

abbrev pub invariant-loop-tuple : goal.invariant-loop-tuple
invariant-loop-tuple l = AreFormsOf (record { texts = map (λ k. k.now) l.names; tuples = map (λ k. k.now) l.tuples }) l.tuple-index l.forms
