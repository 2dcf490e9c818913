use Rattle.std.proofs.Common.{refl, map, slice_index_or}
use Rattle.op_numbers.proofs.EndsAlike.{ends_as}
use Rattle.op_texts.specs.Operands.{with_two_texts}
use Rattle.op_work.proofs.Ending.{ends_then, ends_stop}
use Rattle.op_work.proofs.Going.{passes_err}
use Rattle.op_work.specs.Work.{Ends}
use Rattle.py_model.specs.Operands.{with_text}
use Rattle.py_model.specs.TextMethods.{split_plan}
use Rattle.py_value.specs.Contents.{contents}
use Rattle.py_value.specs.declared.value.Value.TheVariants.{None as NoneValue}
use Rattle.op_pieces.proofs.Splitting.{of_words, of_pieces, one_is_split, one_is_named, two_are_split}
use Rattle.op_pieces.proofs.splits.split.Goals as goal

pub text-requires : goal.text-requires
text-requires c = one_is_named c.args.work.now.values c.args.operands.now NoneValue c.if-operands-eq1.true c.requires.named

pub returns-in_err-id : goal.returns-in_err-id
returns-in_err-id c =
    let ops = c.args.operands.now in
    passes_err (λ result. Ends (λ table. split_plan (map (contents table) ops)) c.args.work.now c.text.new.work result) c.from_residual.result c.from_residual.ensures.1
    (ends_as (λ table. split_plan (map (contents table) ops)) (λ table. with_text (contents table (slice_index_or ops 0 NoneValue)) of_words) (λ table interned extends. one_is_split (contents table) ops NoneValue c.if-operands-eq1.true)
    (ends_stop (λ table bytes. of_words bytes) _ c.in_err-id.ensures))

pub returns-then-operands-eq1 : goal.returns-then-operands-eq1
returns-then-operands-eq1 c =
    let ops = c.args.operands.now in
    ends_as (λ table. split_plan (map (contents table) ops)) (λ table. with_text (contents table (slice_index_or ops 0 NoneValue)) of_words) (λ table interned extends. one_is_split (contents table) ops NoneValue c.if-operands-eq1.true)
    (ends_then (λ table bytes. of_words bytes) c.in_ok-id.ensures (λ table interned extends. refl) c.split_words.ensures)

pub returns-in_err-id-2 : goal.returns-in_err-id-2
returns-in_err-id-2 c =
    let ops = c.args.operands.now in
    passes_err (λ result. Ends (λ table. split_plan (map (contents table) ops)) c.args.work.now c.two_texts.new.work result) c.from_residual-in_err-id-2.result c.from_residual-in_err-id-2.ensures.1
    (ends_as (λ table. split_plan (map (contents table) ops)) (λ table. with_two_texts (map (contents table) ops) of_pieces) (λ table interned extends. two_are_split (contents table) ops c.if-operands-eq1.false)
    (ends_stop (λ table two. of_pieces two) _ c.in_err-id-2.ensures))

pub returns : goal.returns
returns c =
    let ops = c.args.operands.now in
    ends_as (λ table. split_plan (map (contents table) ops)) (λ table. with_two_texts (map (contents table) ops) of_pieces) (λ table interned extends. two_are_split (contents table) ops c.if-operands-eq1.false)
    (ends_then (λ table two. of_pieces two) c.in_ok-id-2.ensures (λ table interned extends. refl) c.split_between.ensures)
