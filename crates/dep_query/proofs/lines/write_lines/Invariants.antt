use Rattle.std.proofs.Common.{◌≡◌, ◌++◌, drop}
use Rattle.dep_query.specs.Lines.{dependence_lines}
use Rattle.dep_query.proofs.lines.write_lines.Given as goal

-- what is written, and what is left to write
abbrev pub invariant-loop-d : goal.invariant-loop-d
invariant-loop-d l = l.out.items ++ dependence_lines (drop l.d-index l.list) ≡ l.fn.out.items ++ dependence_lines l.list
