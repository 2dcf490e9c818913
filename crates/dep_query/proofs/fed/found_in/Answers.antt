use Rattle.std.proofs.Common.{ap, ◌∙◌, map}
use Rattle.dep_query.proofs.fed.found_in.Goals as goal

pub found_by-requires-clause-texts : goal.found_by-requires-clause-texts
found_by-requires-clause-texts c = ap (map (λ k. k.now)) c.as_slice-names.ensures.value ∙ c.in_ok-texts.ensures

pub found_by-requires-clause-tuples : goal.found_by-requires-clause-tuples
found_by-requires-clause-tuples c = ap (map (λ k. k.now)) c.as_slice-parts.ensures.value ∙ c.in_ok-tuples.ensures
