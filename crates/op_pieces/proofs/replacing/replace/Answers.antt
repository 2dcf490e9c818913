use Rattle.std.proofs.Common.{refl, map, slice_index_or}
use Rattle.py_model.specs.Operands.{with_text}
use Rattle.py_model.specs.TextMethods.{replaced, replace_plan}
use Rattle.py_value.specs.Contents.{contents}
use Rattle.py_value.specs.Seen.{bytes_of}
use Rattle.py_value.specs.declared.value.Value.TheVariants.{None as NoneValue}
use Rattle.op_numbers.proofs.EndsAlike.{ends_as}
use Rattle.op_texts.proofs.Taken.{named_stays}
use Rattle.op_work.specs.Work.{Ends}
use Rattle.op_work.proofs.Ending.{ends_then, ends_stop, ends_fault}
use Rattle.op_work.proofs.Going.{passes_err}
use Rattle.op_pieces.proofs.Replaced.{of_text, of_texts, not_three, three_are, three_named}
use Rattle.op_pieces.proofs.replacing.replace.Goals as goal

pub returns-then-operands-ne3 : goal.returns-then-operands-ne3
returns-then-operands-ne3 c = ends_fault (λ table. replace_plan (map (contents table) c.args.operands.now)) 9 _ c.fault.result c.fault.ensures
    (λ table interned extends. not_three (contents table) c.args.operands.now c.if-operands-ne3.true)

pub text-requires : goal.text-requires
text-requires c = (three_named c.args.work.now.values c.args.operands.now NoneValue c.if-operands-ne3.false c.requires.named).0

pub returns-in_err-id : goal.returns-in_err-id
returns-in_err-id c = passes_err (λ result. Ends (λ table. replace_plan (map (contents table) c.args.operands.now)) c.args.work.now c.text.new.work result)
    c.from_residual.result c.from_residual.ensures.1
    (ends_as (λ table. replace_plan (map (contents table) c.args.operands.now)) (λ table. with_text (contents table (slice_index_or c.args.operands.now 0 NoneValue)) (of_text (contents table (slice_index_or c.args.operands.now 1 NoneValue)) (contents table (slice_index_or c.args.operands.now 2 NoneValue))))
    (λ table interned extends. three_are (contents table) c.args.operands.now NoneValue c.if-operands-ne3.false)
    (ends_stop (λ table bytes. of_text (contents table (slice_index_or c.args.operands.now 1 NoneValue)) (contents table (slice_index_or c.args.operands.now 2 NoneValue)) bytes) _ c.in_err-id.ensures))

pub text-requires-2 : goal.text-requires-2
text-requires-2 c = named_stays c.args.work.now.values c.text.new.work.values c.in_ok-id.ensures.kept.extends _ (three_named c.args.work.now.values c.args.operands.now NoneValue c.if-operands-ne3.false c.requires.named).1.0

pub returns-in_err-sought : goal.returns-in_err-sought
returns-in_err-sought c = passes_err (λ result. Ends (λ table. replace_plan (map (contents table) c.args.operands.now)) c.args.work.now c.text-2.new.work result)
    c.from_residual-in_err-sought.result c.from_residual-in_err-sought.ensures.1
    (ends_as (λ table. replace_plan (map (contents table) c.args.operands.now)) (λ table. with_text (contents table (slice_index_or c.args.operands.now 0 NoneValue)) (of_text (contents table (slice_index_or c.args.operands.now 1 NoneValue)) (contents table (slice_index_or c.args.operands.now 2 NoneValue))))
    (λ table interned extends. three_are (contents table) c.args.operands.now NoneValue c.if-operands-ne3.false)
    (ends_then (λ table bytes. of_text (contents table (slice_index_or c.args.operands.now 1 NoneValue)) (contents table (slice_index_or c.args.operands.now 2 NoneValue)) bytes) c.in_ok-id.ensures (λ table interned extends. refl)
    (ends_stop (λ table bytes. of_texts (contents table (slice_index_or c.args.operands.now 2 NoneValue)) (bytes_of table c.in_ok-id.id) bytes) _ c.in_err-sought.ensures)))

pub text-requires-3 : goal.text-requires-3
text-requires-3 c = named_stays c.text.new.work.values c.text-2.new.work.values c.in_ok-sought.ensures.kept.extends _ (named_stays c.args.work.now.values c.text.new.work.values c.in_ok-id.ensures.kept.extends _ (three_named c.args.work.now.values c.args.operands.now NoneValue c.if-operands-ne3.false c.requires.named).1.1)

pub returns-in_err-other : goal.returns-in_err-other
returns-in_err-other c = passes_err (λ result. Ends (λ table. replace_plan (map (contents table) c.args.operands.now)) c.args.work.now c.text-3.new.work result)
    c.from_residual-in_err-other.result c.from_residual-in_err-other.ensures.1
    (ends_as (λ table. replace_plan (map (contents table) c.args.operands.now)) (λ table. with_text (contents table (slice_index_or c.args.operands.now 0 NoneValue)) (of_text (contents table (slice_index_or c.args.operands.now 1 NoneValue)) (contents table (slice_index_or c.args.operands.now 2 NoneValue))))
    (λ table interned extends. three_are (contents table) c.args.operands.now NoneValue c.if-operands-ne3.false)
    (ends_then (λ table bytes. of_text (contents table (slice_index_or c.args.operands.now 1 NoneValue)) (contents table (slice_index_or c.args.operands.now 2 NoneValue)) bytes) c.in_ok-id.ensures (λ table interned extends. refl)
    (ends_then (λ table bytes. of_texts (contents table (slice_index_or c.args.operands.now 2 NoneValue)) (bytes_of table c.in_ok-id.id) bytes) c.in_ok-sought.ensures (λ table interned extends. refl)
    (ends_stop (λ table bytes. replaced (bytes_of table c.in_ok-id.id) (bytes_of table c.in_ok-sought.sought) bytes) _ c.in_err-other.ensures))))

pub returns : goal.returns
returns c = ends_as (λ table. replace_plan (map (contents table) c.args.operands.now)) (λ table. with_text (contents table (slice_index_or c.args.operands.now 0 NoneValue)) (of_text (contents table (slice_index_or c.args.operands.now 1 NoneValue)) (contents table (slice_index_or c.args.operands.now 2 NoneValue))))
    (λ table interned extends. three_are (contents table) c.args.operands.now NoneValue c.if-operands-ne3.false)
    (ends_then (λ table bytes. of_text (contents table (slice_index_or c.args.operands.now 1 NoneValue)) (contents table (slice_index_or c.args.operands.now 2 NoneValue)) bytes) c.in_ok-id.ensures (λ table interned extends. refl)
    (ends_then (λ table bytes. of_texts (contents table (slice_index_or c.args.operands.now 2 NoneValue)) (bytes_of table c.in_ok-id.id) bytes) c.in_ok-sought.ensures (λ table interned extends. refl)
    (ends_then (λ table bytes. replaced (bytes_of table c.in_ok-id.id) (bytes_of table c.in_ok-sought.sought) bytes) c.in_ok-other.ensures (λ table interned extends. refl) c.replaced.ensures)))
