use Rattle.std.proofs.Common.{◌≡◌, ◌≤◌, ◌+◌, drop}
use Rattle.trial_show.specs.Functions.{activations}
use Rattle.trial_show.proofs.functions.activations.Given as goal

-- what is counted, and what is left to count; no more than was looked at
abbrev pub invariant-loop-row : goal.invariant-loop-row
invariant-loop-row l = (l.count + activations l.at (drop l.row-index l.rows) ≡ activations l.at l.rows) × (l.count ≤ l.row-index)
