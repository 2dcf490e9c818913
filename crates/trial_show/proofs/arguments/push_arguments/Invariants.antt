use Rattle.std.proofs.Common.{◌≡◌, ◌++◌, drop}
use Rattle.trial_show.specs.Shown.{argument_lines}
use Rattle.trial_show.proofs.arguments.push_arguments.Given as goal

-- what is written, and what is left to write
abbrev pub invariant-loop-argument : goal.invariant-loop-argument
invariant-loop-argument l = l.out.items ++ argument_lines (drop l.argument-index l.arguments) ≡ l.fn.out.items ++ argument_lines l.arguments
