use Rattle.std.proofs.Common.{refl, sym, ap, ap₂, ◌∙◌, true}
use Rattle.py_model.specs.Arithmetic.{in_order, unless_apart}
use Rattle.py_model.specs.Walks.{compare_to}
use Rattle.py_value.specs.Contents.{contents, object}
use Rattle.op_work.specs.Work.{Comes, is_any}
use Rattle.op_work.proofs.Going.{comes_same, comes_then, comes_stop, fault_comes, passes_err}
use Rattle.op_compare.specs.Comparisons.{how_seen}
use Rattle.op_compare.proofs.OrderPlans.{text_other, tuple_other, object_other, two_tuples, others_order}
use Rattle.py_value.specs.Seen.{bytes_of}
use Rattle.op_compare.proofs.orders.in_order.Goals as goal

pub returns-in-Text-w : goal.returns-in-Text-w
returns-in-Text-w c = comes_same (λ table. in_order (contents table c.args.v) (contents table c.args.w))
    (λ table interned extends go. ap₂ (λ v w. in_order (contents table v) (contents table w) go) c.in-Text.is c.in-Text-w.is) c.ordered_texts.ensures

pub returns-in_default-w : goal.returns-in_default-w
returns-in_default-w c = fault_comes (λ table. in_order (contents table c.args.v) (contents table c.args.w)) 9 _ c.fault.result c.fault.ensures
    (λ table interned extends go. ap (λ v. in_order (contents table v) (contents table c.args.w) go) c.in-Text.is ∙ text_other table go (bytes_of table c.in-Text.a) c.args.w c.in_default-w.not-Text)

pub returns-in-Tuple-w : goal.returns-in-Tuple-w
returns-in-Tuple-w c = comes_same (λ table. in_order (contents table c.args.v) (contents table c.args.w))
    (λ table interned extends go. ap₂ (λ v w. in_order (contents table v) (contents table w) go) c.in-Tuple.is c.in-Tuple-w.is ∙ (two_tuples table go _ _
    ∙ sym (ap₂ (λ v w. compare_to true 100 (contents table v) (contents table w) (unless_apart go)) c.in-Tuple.is c.in-Tuple-w.is))) c.ordered.ensures

pub returns-in_default-w-2 : goal.returns-in_default-w-2
returns-in_default-w-2 c = fault_comes (λ table. in_order (contents table c.args.v) (contents table c.args.w)) 9 _ c.fault-in_default-w-2.result c.fault-in_default-w-2.ensures
    (λ table interned extends go. ap (λ v. in_order (contents table v) (contents table c.args.w) go) c.in-Tuple.is ∙ tuple_other table go c.in-Tuple.field-0 c.args.w c.in_default-w-2.not-Tuple)

pub returns-in_default-w-3 : goal.returns-in_default-w-3
returns-in_default-w-3 c = fault_comes (λ table. in_order (contents table c.args.v) (contents table c.args.w)) 9 _ c.fault-in_default-w-3.result c.fault-in_default-w-3.ensures
    (λ table interned extends go. ap (λ v. in_order (contents table v) (contents table c.args.w) go) c.in-Object.is ∙ object_other table go c.in-Object.o c.args.w c.in_default-w-3.not-Object)

pub returns-in_err-two_lists-in-Object-w : goal.returns-in_err-two_lists-in-Object-w
returns-in_err-two_lists-in-Object-w c =
    let o = c.in-Object.o in let p = c.in-Object-w.p in
    passes_err (λ result. Comes is_any how_seen (λ table. in_order (contents table c.args.v) (contents table c.args.w)) c.args.work.now c.two_lists.new.work result)
    c.from_residual.result c.from_residual.ensures.1
    (comes_same (λ table. in_order (contents table c.args.v) (contents table c.args.w))
    (λ table interned extends go. ap₂ (λ v w. in_order (contents table v) (contents table w) go) c.in-Object.is c.in-Object-w.is)
    (comes_stop (λ table done go. compare_to true 100 (object o) (object p) (unless_apart go)) c.in_err-two_lists-in-Object-w.ensures))

pub returns-in_ok-two_lists-in-Object-w : goal.returns-in_ok-two_lists-in-Object-w
returns-in_ok-two_lists-in-Object-w c =
    let o = c.in-Object.o in let p = c.in-Object-w.p in
    comes_same (λ table. in_order (contents table c.args.v) (contents table c.args.w))
    (λ table interned extends go. ap₂ (λ v w. in_order (contents table v) (contents table w) go) c.in-Object.is c.in-Object-w.is)
    (comes_then (λ table done go. compare_to true 100 (object o) (object p) (unless_apart go)) c.in_ok-two_lists-in-Object-w.ensures
    (λ table interned extends go. refl) c.ordered-in-Object-w.ensures)

pub returns-in_err-numbers_both-in_default : goal.returns-in_err-numbers_both-in_default
returns-in_err-numbers_both-in_default c =
    passes_err (λ result. Comes is_any how_seen (λ table. in_order (contents table c.args.v) (contents table c.args.w)) c.args.work.now c.numbers_both.new.work result)
    c.from_residual-in_err-numbers_both-in_default.result c.from_residual-in_err-numbers_both-in_default.ensures.1
    (comes_same (λ table. in_order (contents table c.args.v) (contents table c.args.w))
    (λ table interned extends go. others_order table go c.args.v c.args.w c.in_default.not-Text c.in_default.not-Tuple c.in_default.not-Object)
    (comes_stop (λ table done go. compare_to true 100 (contents table c.args.v) (contents table c.args.w) (unless_apart go)) c.in_err-numbers_both-in_default.ensures))

pub returns-in_ok-numbers_both-in_default : goal.returns-in_ok-numbers_both-in_default
returns-in_ok-numbers_both-in_default c =
    comes_same (λ table. in_order (contents table c.args.v) (contents table c.args.w))
    (λ table interned extends go. others_order table go c.args.v c.args.w c.in_default.not-Text c.in_default.not-Tuple c.in_default.not-Object)
    (comes_then (λ table done go. compare_to true 100 (contents table c.args.v) (contents table c.args.w) (unless_apart go)) c.in_ok-numbers_both-in_default.ensures
    (λ table interned extends go. refl) c.ordered-in_default.ensures)
