use Rattle.std.proofs.Common.{◌≡◌, ◌++◌, drop}
use Rattle.trace_rows.specs.RowBytes.{rows_bytes}
use Rattle.trace_rows.proofs.page.encode_page.Given as goal

-- what is written, and what is left to write
abbrev pub invariant-loop-row : goal.invariant-loop-row
invariant-loop-row l = l.out.items ++ rows_bytes (drop l.row-index l.rows) ≡ rows_bytes l.rows
