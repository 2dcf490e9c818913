use Rattle.std.proofs.Common.{◌≡◌, ◌<◌, ◌++◌, ℕ, List, length, Ok}
use Rattle.std.specs.Str.{IsUtf8}
use Rattle.py_model.specs.Texts.{words_of}
use Rattle.op_pieces.specs.Puts.{Puts, word_end}
use Rattle.op_pieces.proofs.splits.put_words_of.Given as goal

abbrev pub invariant-loop-rest : goal.invariant-loop-rest
invariant-loop-rest l = (done : List (List ℕ)) × (Puts done l.fn.made.items l.made.items l.initial.work l.work (Ok tt)
    × (done ++ words_of l.rest ≡ words_of l.bytes × (IsUtf8 l.rest × (0 < length l.rest → 0 < word_end l.rest))))

abbrev pub decreases-loop-rest : goal.decreases-loop-rest
decreases-loop-rest l = length l.rest
