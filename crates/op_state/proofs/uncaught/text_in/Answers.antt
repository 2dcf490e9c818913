use Rattle.std.proofs.Common.{ap, ◌∙◌, slice_index_or}
use Rattle.op_state.proofs.UncaughtHeld.{alone, one_item, first_named, not_one, text_named}
use Rattle.op_state.specs.Uncaught.{one_text}
use Rattle.py_value.specs.Contents.{contents, tuple}
use Rattle.py_value.specs.declared.value.Value.TheVariants.{None as NoneValue}
use Rattle.op_state.proofs.uncaught.text_in.Goals as goal

pub returns-then-items-ne1-clause-words : goal.returns-then-items-ne1-clause-words
returns-then-items-ne1-clause-words c = λ table whole extends.
    ap one_text (ap (contents table) c.in-Tuple.is ∙ c.tuples_are_their_parts.ensures table c.in-Tuple.args c.tuple_of-items.result.now whole (extends.tuples c.in-Tuple.args c.tuple_of-items.result.now c.tuple_of-items.ensures.items))
    ∙ not_one (contents table) c.tuple_of-items.result.now c.if-items-ne1.true

pub returns-clause-words : goal.returns-clause-words
returns-clause-words c = λ table whole extends.
    ap one_text (ap (contents table) c.in-Tuple.is ∙ c.tuples_are_their_parts.ensures table c.in-Tuple.args c.tuple_of-items.result.now whole (extends.tuples c.in-Tuple.args c.tuple_of-items.result.now c.tuple_of-items.ensures.items))
    ∙ (ap (λ ps. one_text (tuple ps)) (one_item (contents table) c.tuple_of-items.result.now NoneValue c.if-items-ne1.false)
    ∙ alone table (slice_index_or c.tuple_of-items.result.now 0 NoneValue) c.text_number.result c.text_number.ensures)

pub returns-clause-named : goal.returns-clause-named
returns-clause-named c = text_named c.args.work.now.values (slice_index_or c.tuple_of-items.result.now 0 NoneValue) c.text_number.result
    (first_named c.args.work.now.values c.tuple_of-items.result.now NoneValue c.if-items-ne1.false c.tuple_of-items.ensures.named) c.text_number.ensures
