use Rattle.std.proofs.Common.{◌≡◌, ◌≤◌, ◌+◌, length}
use Rattle.refused_forms.specs.LineForms.{last_part}
use Rattle.refused_forms.proofs.statements.last_part.Given as goal

abbrev pub invariant-loop-token : goal.invariant-loop-token
invariant-loop-token l =
    (l.open + length l.rest ≤ length l.tokens)
    × (last_part l.open l.part l.rest ≡ last_part 0 l.tokens l.tokens)

abbrev pub decreases-loop-token : goal.decreases-loop-token
decreases-loop-token l = length l.rest
