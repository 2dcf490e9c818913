use Rattle.std.proofs.Common.{refl, sym, ap, ◌∙◌, subst, [], ◌++◌, ◌+◌, ◌<◌, ◌≤◌, ◌==◌, length, drop, codes, string_bytes}
use Rattle.std.proofs.lemmas.List.{append_assoc}
use Rattle.py_model.specs.Printing.{key_text, key_texts}
use Rattle.py_value.specs.Contents.{contents, parts_by}
use Rattle.py_value.specs.Values.{IsNamed}
use Rattle.spelling.specs.Spelling.{follow, end_words}
use Rattle.op_work.proofs.Going.{extends_then, passes_err}
use Rattle.op_pieces.specs.Counted.{Counted, keys_row}
use Rattle.op_lists.specs.Parts.{items_at, part_in}
use Rattle.op_pieces.proofs.Counting.{counted_same, counted_then, counted_stop, counted_none}
use Rattle.op_pieces.proofs.KeyRows.{leaf_is, tuple_is_key, row_more, row_done}
use Rattle.op_lists.proofs.TupleParts.{items_are, part_stays, tuple_is, more_tuples}
use Rattle.op_pieces.proofs.texts.+key.Goals as goal

-- a key
pub put_key-put_word-requires : goal.put_key-put_word-requires
put_key-put_word-requires t c = c.leaf.ensures.named c.args.work.now.values c.requires

pub put_key-returns-in_default : goal.put_key-returns-in_default
put_key-returns-in_default t c = counted_same (λ table. key_text (contents table c.args.v)) c.put_word.result c.put_word.ensures
    (λ table interned extends. c.leaf.ensures.bytes table ∙ leaf_is table c.args.v c.in_default.not-Tuple)

pub put_key-returns-in-Tuple : goal.put_key-returns-in-Tuple
put_key-returns-in-Tuple t c =
    let id = c.in-Tuple.id in let values = c.args.work.now.values in
    counted_same (λ table. key_text (contents table c.args.v)) c.put_key_tuple.result c.put_key_tuple.ensures
    (λ table interned extends. tuple_is_key (contents table) (items_at table id) ∙ sym (ap key_text (ap (contents table) c.in-Tuple.is
    ∙ tuple_is c.tuples_are_their_parts.ensures table interned id (more_tuples (extends_then c.put_key_tuple.ensures.comes.kept.extends extends) id (subst (IsNamed values) c.in-Tuple.is c.requires)))))

-- a tuple
pub put_key_tuple-returns-in_err-put_words : goal.put_key_tuple-returns-in_err-put_words
put_key_tuple-returns-in_err-put_words t c = passes_err
    (λ result. Counted (λ table. codes "(" ++ (keys_row table c.args.id ++ end_words (length (items_at table c.args.id)))) (string_bytes c.args.text.now) (string_bytes c.put_words.new.text) c.args.work.now c.put_words.new.work result)
    c.from_residual.result c.from_residual.ensures.1
    (counted_stop (λ table. keys_row table c.args.id ++ end_words (length (items_at table c.args.id))) c.in_err-put_words.ensures)

pub put_key_tuple-returns-in_err-put_key_parts : goal.put_key_tuple-returns-in_err-put_key_parts
put_key_tuple-returns-in_err-put_key_parts t c = passes_err
    (λ result. Counted (λ table. codes "(" ++ (keys_row table c.args.id ++ end_words (length (items_at table c.args.id)))) (string_bytes c.args.text.now) (string_bytes c.put_key_parts.new.text) c.args.work.now c.put_key_parts.new.work result)
    c.from_residual-in_err-put_key_parts.result c.from_residual-in_err-put_key_parts.ensures.1
    (counted_then c.in_ok-put_words.ensures (counted_stop (λ table. end_words (length (items_at table c.args.id))) c.in_err-put_key_parts.ensures))

pub put_key_tuple-returns : goal.put_key_tuple-returns
put_key_tuple-returns t c =
    let id = c.args.id in let items = c.tuple_of.result.now in
    counted_same (λ table. codes "(" ++ (keys_row table id ++ end_words (length (items_at table id)))) c.put_words-2.result
    (counted_then c.in_ok-put_words.ensures (counted_then c.in_ok-put_key_parts.ensures c.put_words-2.ensures))
    (λ table interned extends. ap (λ end. codes "(" ++ (keys_row table id ++ end)) (c.tuple_end-end.ensures ∙ sym (ap (λ vs. end_words (length vs))
    (items_are table id items ((extends_then c.in_ok-put_words.ensures.comes.kept.extends (extends_then c.in_ok-put_key_parts.ensures.comes.kept.extends (extends_then c.put_words-2.ensures.comes.kept.extends extends))).tuples id items c.tuple_of.ensures.items)))))

-- parts of a tuple
pub put_key_parts-loop-i-init : goal.put_key_parts-loop-i-init
put_key_parts-loop-i-init t c = ((λ table. []), (counted_none (string_bytes c.args.text.now) c.args.work.now, (λ table extends. refl)))

pub put_key_parts-returns-in_err-put_words : goal.put_key_parts-returns-in_err-put_words
put_key_parts-returns-in_err-put_words t c =
    let id = c.args.id in let i = c.loop-i.i in let items = c.tuple_of-i-end.result.now in let bytes = c.loop-i.invariant.0 in let one = c.loop-i.invariant.1.0 in
    passes_err (λ result. Counted (λ table. keys_row table id) (string_bytes c.args.text.now) (string_bytes c.put_words.new.text) c.args.work.now c.put_words.new.work result)
    c.from_residual.result c.from_residual.ensures.1
    (counted_same (λ table. keys_row table id) _ (counted_stop (λ table. key_text (contents table (part_in table id i)) ++ follow ((i + 1) == 0) (key_texts (parts_by (contents table) (drop (i + 1) (items_at table id))))) (counted_then one c.in_err-put_words.ensures))
    (λ table interned extends. sym (append_assoc (bytes table ++ c.comma.result.now) (key_text (contents table (part_in table id i))) (follow ((i + 1) == 0) (key_texts (parts_by (contents table) (drop (i + 1) (items_at table id))))))
    ∙ row_more (contents table) (items_at table id) i (part_in table id i) (bytes table) c.comma.result.now (keys_row table id)
    (subst (λ vs. i < length vs) (sym (items_are table id items ((extends_then one.comes.kept.extends (extends_then c.put_words.ensures.comes.kept.extends extends)).tuples id items c.tuple_of-i-end.ensures.items))) c.loop-i-test.true) refl c.comma.ensures (c.loop-i.invariant.1.1 table (extends_then c.put_words.ensures.comes.kept.extends extends))))

pub put_key_parts-returns-in_err-put_key : goal.put_key_parts-returns-in_err-put_key
put_key_parts-returns-in_err-put_key t c =
    let id = c.args.id in let i = c.loop-i.i in let items = c.tuple_of-i-end.result.now in let bytes = c.loop-i.invariant.0 in let one = c.loop-i.invariant.1.0 in
    passes_err (λ result. Counted (λ table. keys_row table id) (string_bytes c.args.text.now) (string_bytes c.put_key.new.text) c.args.work.now c.put_key.new.work result)
    c.from_residual-in_err-put_key.result c.from_residual-in_err-put_key.ensures.1
    (counted_same (λ table. keys_row table id) _ (counted_stop (λ table. follow ((i + 1) == 0) (key_texts (parts_by (contents table) (drop (i + 1) (items_at table id))))) (counted_then (counted_then one c.in_ok-put_words.ensures) c.in_err-put_key.ensures))
    (λ table interned extends. row_more (contents table) (items_at table id) i c.part_at-v.result (bytes table) c.comma.result.now (keys_row table id)
    (subst (λ vs. i < length vs) (sym (items_are table id items ((extends_then one.comes.kept.extends (extends_then c.put_words.ensures.comes.kept.extends (extends_then c.put_key.ensures.comes.kept.extends extends))).tuples id items c.tuple_of-i-end.ensures.items))) c.loop-i-test.true) (c.part_at-v.ensures.part ∙ sym (part_stays (extends_then c.put_key.ensures.comes.kept.extends extends) id i (more_tuples (extends_then one.comes.kept.extends c.put_words.ensures.comes.kept.extends) id c.requires))) c.comma.ensures (c.loop-i.invariant.1.1 table (extends_then c.put_words.ensures.comes.kept.extends (extends_then c.put_key.ensures.comes.kept.extends extends)))))

pub put_key_parts-loop-i-preserved : goal.put_key_parts-loop-i-preserved
put_key_parts-loop-i-preserved t c =
    let id = c.args.id in let i = c.loop-i.i in let items = c.tuple_of-i-end.result.now in let bytes = c.loop-i.invariant.0 in let one = c.loop-i.invariant.1.0 in (
      (λ table. (bytes table ++ c.comma.result.now) ++ key_text (contents table c.part_at-v.result)),
      (
        counted_then (counted_then one c.in_ok-put_words.ensures) c.in_ok-put_key.ensures,
        (λ table extends. row_more (contents table) (items_at table id) i c.part_at-v.result (bytes table) c.comma.result.now (keys_row table id)
            (subst (λ vs. i < length vs) (sym (items_are table id items ((extends_then one.comes.kept.extends (extends_then c.put_words.ensures.comes.kept.extends (extends_then c.put_key.ensures.comes.kept.extends extends))).tuples id items c.tuple_of-i-end.ensures.items))) c.loop-i-test.true) (c.part_at-v.ensures.part ∙ sym (part_stays (extends_then c.put_key.ensures.comes.kept.extends extends) id i (more_tuples (extends_then one.comes.kept.extends c.put_words.ensures.comes.kept.extends) id c.requires))) c.comma.ensures (c.loop-i.invariant.1.1 table (extends_then c.put_words.ensures.comes.kept.extends (extends_then c.put_key.ensures.comes.kept.extends extends)))),
      ),
    )

pub put_key_parts-returns : goal.put_key_parts-returns
put_key_parts-returns t c =
    let id = c.args.id in let i = c.loop-i.i in let items = c.tuple_of-i-end.result.now in let bytes = c.loop-i.invariant.0 in let one = c.loop-i.invariant.1.0 in
    counted_same (λ table. keys_row table id) _ one
    (λ table interned extends. row_done (contents table) (items_at table id) i (bytes table) (keys_row table id)
    (subst (λ vs. length vs ≤ i) (sym (items_are table id items ((extends_then one.comes.kept.extends (extends)).tuples id items c.tuple_of-i-end.ensures.items))) c.loop-i-test.false) (c.loop-i.invariant.1.1 table extends))
