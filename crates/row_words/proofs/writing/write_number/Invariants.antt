use Rattle.std.proofs.Common.{◌≡◌, ◌++◌}
use Rattle.row_words.specs.Bytes.{number_bytes}
use Rattle.row_words.proofs.writing.write_number.Given as goal

abbrev pub invariant-loop-rest : goal.invariant-loop-rest
invariant-loop-rest l = l.out.items ++ number_bytes l.rest ≡ l.fn.out.items ++ number_bytes l.n

abbrev pub decreases-loop-rest : goal.decreases-loop-rest
decreases-loop-rest l = l.rest
