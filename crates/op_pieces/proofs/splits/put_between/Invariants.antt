use Rattle.std.proofs.Common.{◌≡◌, ◌++◌, ℕ, List, length, Ok}
use Rattle.std.specs.Str.{IsUtf8}
use Rattle.py_model.specs.Texts.{pieces}
use Rattle.op_pieces.specs.Puts.{Puts}
use Rattle.op_pieces.proofs.splits.put_between.Given as goal

abbrev pub invariant-loop-front : goal.invariant-loop-front
invariant-loop-front l = (done : List (List ℕ)) × (Puts done l.fn.made.items l.made.items l.initial.work l.work (Ok tt)
    × (done ++ pieces l.separator l.rest ≡ pieces l.separator l.bytes × IsUtf8 l.rest))

abbrev pub decreases-loop-front : goal.decreases-loop-front
decreases-loop-front l = length l.rest
