use Rattle.std.proofs.Common.{◌≡◌, ◌++◌, drop}
use Rattle.row_words.specs.Bytes.{each_bytes, list_bytes}
use Rattle.trial_keeping.specs.RecordBytes.{final_bytes}
use Rattle.trial_keeping.proofs.writing.write_finals.Given as goal

-- what is written, and what is left to write
abbrev pub invariant-loop-written : goal.invariant-loop-written
invariant-loop-written l = l.out.items ++ each_bytes final_bytes (drop l.written-index l.finals) ≡ l.fn.out.items ++ list_bytes final_bytes l.finals
