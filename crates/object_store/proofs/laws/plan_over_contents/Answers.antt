use Rattle.object_store.proofs.Naming.{named_does_all}
use Rattle.object_store.proofs.OverContents.{ValueLaws, does_all_over}
use Rattle.object_store.proofs.laws.plan_over_contents.Goals as goal

pub returns-clause-contents : goal.returns-clause-contents
returns-clause-contents c = λ values table plan old new interned texts before after named does suits.
    let laws : ValueLaws table = record {
      values_same = c.equality_is_same.ensures.values;
      locations_same = c.equality_is_same.ensures.locations;
      contents_tested = c.tests_are_equality.ensures.values;
      places_tested = c.tests_are_equality.ensures.locations;
      back = λ l at. c.same_place_same_location.ensures.back table l interned at;
      seen = λ place l at. c.same_place_same_location.ensures.seen table place l interned at;
      tell = λ v w one other same. c.same_contents_same_value.ensures table v w interned one other same;
    } in
    does_all_over table laws values texts plan old new before after named does suits

pub returns-clause-named : goal.returns-clause-named
returns-clause-named c = λ values table plan old new after named does. named_does_all table c.equality_is_same.ensures.locations values plan old new after named does
