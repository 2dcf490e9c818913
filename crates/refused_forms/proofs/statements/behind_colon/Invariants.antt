use Rattle.std.proofs.Common.{◌≡◌, ◌≤◌, ◌+◌, length}
use Rattle.refused_forms.specs.LineForms.{behind_colon}
use Rattle.refused_forms.proofs.statements.behind_colon.Given as goal

abbrev pub invariant-loop-token : goal.invariant-loop-token
invariant-loop-token l =
    (l.open + length l.rest ≤ length l.tokens)
    × (behind_colon l.open l.rest ≡ behind_colon 0 l.tokens)

abbrev pub decreases-loop-token : goal.decreases-loop-token
decreases-loop-token l = length l.rest
