use Rattle.slice_simulation.proofs.BoundRuns.{NameLaws, own_names, reached_bound}
use Rattle.slice_simulation.proofs.laws.local_names_are_of_their_activation.Goals as goal

pub returns-clause-own : goal.returns-clause-own
returns-clause-own c =
    let laws : NameLaws = record {
      alike = c.corresponding_operands_have_alike_plans.ensures;
      locations = c.tests_are_equality.ensures.locations;
      numbers = c.numbers_and_places.ensures.numbers;
      standings = c.numbers_and_places.ensures.places;
    } in
    λ script capture path arguments steps well. own_names laws script capture path arguments steps well

pub returns-clause-reached : goal.returns-clause-reached
returns-clause-reached c =
    let laws : NameLaws = record {
      alike = c.corresponding_operands_have_alike_plans.ensures;
      locations = c.tests_are_equality.ensures.locations;
      numbers = c.numbers_and_places.ensures.numbers;
      standings = c.numbers_and_places.ensures.places;
    } in
    λ script capture path arguments steps well. reached_bound laws script capture path arguments steps well
