use Rattle.std.proofs.Common.{◌≡◌, ◌||◌, drop}
use Rattle.dep_query.specs.declared.dependence.Dependence.{Dependence}
use Rattle.dep_query.specs.Noting.{is_found, some_told}
use Rattle.dep_query.proofs.gathering.note_asks.Given as goal

abbrev pub invariant-loop-ask : goal.invariant-loop-ask
invariant-loop-ask l = (d : Dependence) → (some_told l.places (drop l.ask-index l.asks) d || is_found l.found.keys d) ≡ (some_told l.places l.asks d || is_found l.fn.found.keys d)
