use Rattle.std.proofs.Common.{◌≡◌, ◌++◌, drop}
use Rattle.trial_show.specs.Shown.{final_lines}
use Rattle.trial_show.proofs.contents.push_finals.Given as goal

-- what is written, and what is left to write
abbrev pub invariant-loop-file : goal.invariant-loop-file
invariant-loop-file l = l.out.items ++ final_lines (drop l.file-index l.files) ≡ l.fn.out.items ++ final_lines l.files
