use Rattle.std.proofs.Common.{ap, ◌∙◌, map}
use Rattle.slicer.proofs.least.least_up_to.Goals as goal

pub least_by-requires-clause-texts : goal.least_by-requires-clause-texts
least_by-requires-clause-texts c = ap (map (λ k. k.now)) c.as_slice-names.ensures.value ∙ c.in_ok-texts.ensures

pub least_by-requires-clause-tuples : goal.least_by-requires-clause-tuples
least_by-requires-clause-tuples c = ap (map (λ k. k.now)) c.as_slice-parts.ensures.value ∙ c.in_ok-tuples.ensures
