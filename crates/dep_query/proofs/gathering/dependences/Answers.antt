use Rattle.std.proofs.Common.{ap, ◌∙◌, map}
use Rattle.dep_query.proofs.gathering.dependences.Goals as goal

pub dependences_by-requires-clause-texts : goal.dependences_by-requires-clause-texts
dependences_by-requires-clause-texts c = ap (map (λ k. k.now)) c.as_slice-names.ensures.value ∙ c.in_ok-texts.ensures

pub dependences_by-requires-clause-tuples : goal.dependences_by-requires-clause-tuples
dependences_by-requires-clause-tuples c = ap (map (λ k. k.now)) c.as_slice-parts.ensures.value ∙ c.in_ok-tuples.ensures
