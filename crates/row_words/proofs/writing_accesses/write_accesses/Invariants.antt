use Rattle.std.proofs.Common.{◌≡◌, ◌++◌, drop}
use Rattle.row_words.specs.Bytes.{each_bytes}
use Rattle.row_words.specs.AccessBytes.{access_bytes, accesses_bytes}
use Rattle.row_words.proofs.writing_accesses.write_accesses.Given as goal

-- what is written, and what is left to write
abbrev pub invariant-loop-access : goal.invariant-loop-access
invariant-loop-access l = l.out.items ++ each_bytes access_bytes (drop l.access-index l.accesses) ≡ l.fn.out.items ++ accesses_bytes l.accesses
