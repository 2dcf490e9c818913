use Rattle.std.proofs.Common.{◌≡◌, ℕ, Some, length, slice_get}
use Rattle.capture.specs.declared.ended.FileOut.{FileOut}
use Rattle.op_state.specs.Finals.{IsFileOf}
use Rattle.op_state.proofs.finals.files_of.Given as goal

abbrev pub invariant-loop-path : goal.invariant-loop-path
invariant-loop-path l = (length l.files.items ≡ l.path-index) × ((i path : ℕ) (file : FileOut) → slice_get l.paths i ≡ Some path → slice_get l.files.items i ≡ Some file → IsFileOf l.work path file)
