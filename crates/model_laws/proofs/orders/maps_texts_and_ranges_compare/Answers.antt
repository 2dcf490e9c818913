use Rattle.model_laws.proofs.orders.maps_texts_and_ranges_compare.Goals as goal
use Rattle.model_laws.proofs.CodePoints.{by_code_points}
use Rattle.model_laws.proofs.Maps.{dicts_are_maps}
use Rattle.model_laws.proofs.Sums.{ranges_same}

pub returns-clause-maps : goal.returns-clause-maps
returns-clause-maps c = λ inside pairs others one other. dicts_are_maps c.tests_are_equality.ensures.values inside pairs others one other

pub returns-clause-code_points : goal.returns-clause-code_points
returns-clause-code_points c = by_code_points

pub returns-clause-ranges : goal.returns-clause-ranges
returns-clause-ranges c = ranges_same
