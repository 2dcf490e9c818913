use Rattle.std.proofs.Common.{◌≡◌, ◌++◌, ℕ, List, length, string_bytes, Ok}
use Rattle.std.specs.Str.{IsUtf8}
use Rattle.op_pieces.specs.Counted.{Counted}
use Rattle.py_model.specs.Texts.{joined_by, pieces}
use Rattle.op_pieces.proofs.replacing.put_replaced.Given as goal

abbrev pub invariant-loop-front : goal.invariant-loop-front
invariant-loop-front l = (done : List ℕ) × (Counted (λ table. done) (string_bytes l.fn.out) (string_bytes l.out) l.initial.work l.work (Ok tt)
    × (done ++ joined_by l.other (pieces l.sought l.rest) ≡ joined_by l.other (pieces l.sought l.bytes) × IsUtf8 l.rest))

abbrev pub decreases-loop-front : goal.decreases-loop-front
decreases-loop-front l = length l.rest
