use Rattle.std.proofs.Common.{◌≡◌, length}
use Rattle.refused_forms.specs.LineForms.{behind_equals}
use Rattle.refused_forms.proofs.statements.behind_equals.Given as goal

abbrev pub invariant-loop-token : goal.invariant-loop-token
invariant-loop-token l = behind_equals l.rest ≡ behind_equals l.tokens

abbrev pub decreases-loop-token : goal.decreases-loop-token
decreases-loop-token l = length l.rest
