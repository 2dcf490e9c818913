use Rattle.std.proofs.Common.{◌≡◌, length}
use Rattle.refused_forms.specs.LineForms.{lacks_handler}
use Rattle.refused_forms.proofs.standing.lacks_handler.Given as goal

abbrev pub invariant-loop-line : goal.invariant-loop-line
invariant-loop-line l = lacks_handler l.indent l.rest ≡ lacks_handler l.indent l.before

abbrev pub decreases-loop-line : goal.decreases-loop-line
decreases-loop-line l = length l.rest
