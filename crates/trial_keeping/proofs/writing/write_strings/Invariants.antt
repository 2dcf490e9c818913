use Rattle.std.proofs.Common.{◌≡◌, ◌++◌, drop}
use Rattle.row_words.specs.Bytes.{each_bytes, list_bytes, text_bytes}
use Rattle.trial_keeping.proofs.writing.write_strings.Given as goal

-- what is written, and what is left to write
abbrev pub invariant-loop-string : goal.invariant-loop-string
invariant-loop-string l = l.out.items ++ each_bytes text_bytes (drop l.string-index l.strings) ≡ l.fn.out.items ++ list_bytes text_bytes l.strings
