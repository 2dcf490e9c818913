use Rattle.std.proofs.Common.{◌≡◌, ◌≤◌, drop}
use Rattle.refused_forms.specs.LineForms.{closed, stops}
use Rattle.refused_forms.proofs.brackets.closed.Given as goal

abbrev pub invariant-loop-token : goal.invariant-loop-token
invariant-loop-token l =
    (l.open ≤ l.token-index)
    × (closed (stops l.stop) l.open (drop l.token-index l.tokens) ≡ closed (stops l.stop) 0 l.tokens)
