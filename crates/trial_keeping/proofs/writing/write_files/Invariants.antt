use Rattle.std.proofs.Common.{◌≡◌, ◌++◌, drop}
use Rattle.row_words.specs.Bytes.{each_bytes, list_bytes}
use Rattle.trial_keeping.specs.RecordBytes.{file_bytes}
use Rattle.trial_keeping.proofs.writing.write_files.Given as goal

-- what is written, and what is left to write
abbrev pub invariant-loop-file : goal.invariant-loop-file
invariant-loop-file l = l.out.items ++ each_bytes file_bytes (drop l.file-index l.files) ≡ l.fn.out.items ++ list_bytes file_bytes l.files
