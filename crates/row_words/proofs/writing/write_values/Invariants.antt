use Rattle.std.proofs.Common.{◌≡◌, ◌++◌, drop}
use Rattle.row_words.specs.Bytes.{each_bytes, value_bytes, values_bytes}
use Rattle.row_words.proofs.writing.write_values.Given as goal

-- what is written, and what is left to write
abbrev pub invariant-loop-value : goal.invariant-loop-value
invariant-loop-value l = l.out.items ++ each_bytes value_bytes (drop l.value-index l.values) ≡ l.fn.out.items ++ values_bytes l.values
