use Rattle.std.proofs.Common.{◌∙◌, sym, subst}
use Rattle.op_work.specs.Work.{Extends}
use Rattle.op_work.proofs.Going.{extends_then}
use Rattle.op_pieces.specs.Counted.{word_bytes}
use Rattle.op_pieces.proofs.Counting.{counted_same}
use Rattle.op_pieces.proofs.texts.put_word.Goals as goal

pub returns : goal.returns
returns c = counted_same (λ table. word_bytes table c.args.piece) c.put_words.result c.put_words.ensures
    (λ table interned extends. c.as_str.ensures.value
    ∙ sym (c.in_ok-words.ensures table (subst (λ values. Extends values table) (sym c.values.ensures.values) (extends_then c.put_words.ensures.comes.kept.extends extends))))
