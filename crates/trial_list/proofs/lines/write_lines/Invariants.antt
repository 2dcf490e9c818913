use Rattle.std.proofs.Common.{◌≡◌, ◌+◌, ◌++◌, drop}
use Rattle.trial_list.specs.Lines.{list_bytes, lines_from}
use Rattle.trial_list.proofs.lines.write_lines.Given as goal

-- what is written, and what is left to write
abbrev pub invariant-loop-earlier : goal.invariant-loop-earlier
invariant-loop-earlier l = l.out.items ++ lines_from (l.earlier + 1) (drop l.earlier l.heads) ≡ l.fn.out.items ++ list_bytes l.heads
