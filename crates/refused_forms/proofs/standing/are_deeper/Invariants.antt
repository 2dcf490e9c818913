use Rattle.std.proofs.Common.{◌≡◌, drop}
use Rattle.refused_forms.specs.LineForms.{all_deeper}
use Rattle.refused_forms.proofs.standing.are_deeper.Given as goal

abbrev pub invariant-loop-line : goal.invariant-loop-line
invariant-loop-line l = all_deeper l.indent (drop l.line-index l.lines) ≡ all_deeper l.indent l.lines
