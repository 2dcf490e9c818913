use Rattle.std.proofs.Common.{map, drop, ◌++◌, List, encode_utf8}
use Rattle.op_lists.specs.ValuesSeen.{values_seen}
use Rattle.op_work.specs.Turns.{Turns}
use Rattle.py_model.specs.Plan.{Plan}
use Rattle.py_value.specs.Contents.{Contents, text}
use Rattle.py_value.specs.Values.{AreNamed}
use Rattle.op_lists.proofs.texts.letter_texts.Given as goal

abbrev pub invariant-loop-letter : goal.invariant-loop-letter
invariant-loop-letter l =
    Turns (λ table (go : List Contents → Plan). go (map text (map encode_utf8 l.fn.letters))) (λ table (go : List Contents → Plan). go (values_seen table l.items.items ++ map text (map encode_utf8 (drop l.letter-index l.fn.letters)))) l.initial.work l.work
    × AreNamed l.work.values l.items.items
