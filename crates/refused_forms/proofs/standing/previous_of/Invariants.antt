use Rattle.std.proofs.Common.{◌≡◌, None, option_map, drop}
use Rattle.refused_forms.specs.LineForms.{previous_of}
use Rattle.refused_forms.proofs.standing.previous_of.Given as goal

abbrev pub invariant-loop-line : goal.invariant-loop-line
invariant-loop-line l = previous_of l.indent (option_map (λ kind. kind.now) l.previous) (drop l.line-index l.before) ≡ previous_of l.indent None l.before
