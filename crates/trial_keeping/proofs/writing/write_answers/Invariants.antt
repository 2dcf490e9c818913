use Rattle.std.proofs.Common.{◌≡◌, ◌++◌, drop}
use Rattle.row_words.specs.Bytes.{each_bytes, list_bytes}
use Rattle.trial_keeping.specs.RecordBytes.{answer_bytes}
use Rattle.trial_keeping.proofs.writing.write_answers.Given as goal

-- what is written, and what is left to write
abbrev pub invariant-loop-asked : goal.invariant-loop-asked
invariant-loop-asked l = l.out.items ++ each_bytes answer_bytes (drop l.asked-index l.answers) ≡ l.fn.out.items ++ list_bytes answer_bytes l.answers
