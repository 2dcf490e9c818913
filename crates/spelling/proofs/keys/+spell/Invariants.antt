use Rattle.std.proofs.Common.{◌≡◌, ◌+◌, ◌*◌, ◌++◌, ◌==◌, codes, drop, string_bytes}
use Rattle.spelling.specs.Spelling.{follow}
use Rattle.py_model.specs.Printing.{key_texts, commas}
use Rattle.py_value.specs.Contents.{contents, parts_by}
use Rattle.spelling.proofs.keys.+spell.Given as goal

abbrev pub decreases-key_text : goal.decreases-key_text
decreases-key_text l = 2 * l.levels

abbrev pub decreases-key_tuple : goal.decreases-key_tuple
decreases-key_tuple l = 2 * l.levels + 1

abbrev pub invariant-key_tuple-loop-i : goal.invariant-key_tuple-loop-i
invariant-key_tuple-loop-i l = string_bytes l.text ++ follow (l.i == 0) (key_texts (parts_by (contents l.values) (drop l.i l.items)))
    ≡ codes "(" ++ commas (key_texts (parts_by (contents l.values) l.items))
