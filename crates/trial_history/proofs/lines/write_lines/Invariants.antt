use Rattle.std.proofs.Common.{◌≡◌, ◌+◌, ◌++◌, drop}
use Rattle.trial_history.specs.History.{lines_from}
use Rattle.trial_history.proofs.lines.write_lines.Given as goal

-- what is written, and what is left to write
abbrev pub invariant-loop-earlier : goal.invariant-loop-earlier
invariant-loop-earlier l = l.out.items ++ lines_from (l.earlier + 1) (drop l.earlier l.heads) (drop l.earlier l.marks) ≡ l.fn.out.items ++ lines_from 1 l.heads l.marks
