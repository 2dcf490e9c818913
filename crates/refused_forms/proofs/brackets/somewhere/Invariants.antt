use Rattle.std.proofs.Common.{◌≡◌, None, option_map, length}
use Rattle.refused_forms.specs.LineForms.{somewhere, is_sought}
use Rattle.refused_forms.proofs.brackets.somewhere.Given as goal

abbrev pub invariant-loop-token : goal.invariant-loop-token
invariant-loop-token l =
    somewhere (is_sought l.sought) (option_map (λ kind. kind.now) l.before) l.rest ≡ somewhere (is_sought l.sought) None l.front

abbrev pub decreases-loop-token : goal.decreases-loop-token
decreases-loop-token l = length l.rest
