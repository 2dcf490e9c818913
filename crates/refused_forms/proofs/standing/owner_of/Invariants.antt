use Rattle.std.proofs.Common.{◌≡◌, None, option_map, drop}
use Rattle.refused_forms.specs.LineForms.{owner_of}
use Rattle.refused_forms.proofs.standing.owner_of.Given as goal

abbrev pub invariant-loop-line : goal.invariant-loop-line
invariant-loop-line l = owner_of l.indent (option_map (λ kind. kind.now) l.owner) (drop l.line-index l.before) ≡ owner_of l.indent None l.before
