use Rattle.std.proofs.Common.{◌≡◌, drop}
use Rattle.row_checks.specs.Heights.{highest as highest_in_table}
use Rattle.row_checks.proofs.heights.highest_of.Given as goal

abbrev pub invariant-loop-v : goal.invariant-loop-v
invariant-loop-v l = highest_in_table l.heights l.highest (drop l.v-index l.values) ≡ highest_in_table l.heights (record { plain = 0; normal = 0 }) l.values
