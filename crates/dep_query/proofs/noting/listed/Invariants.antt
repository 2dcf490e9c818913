use Rattle.std.proofs.Common.{◌≡◌, ◌++◌}
use Rattle.dep_query.proofs.noting.listed.Given as goal

abbrev pub invariant-loop-dependence : goal.invariant-loop-dependence
invariant-loop-dependence l = l.list.items ++ l.dependence-iterator ≡ l.found.keys
