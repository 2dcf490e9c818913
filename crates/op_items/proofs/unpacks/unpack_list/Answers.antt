use Rattle.std.proofs.Common.{refl, sym, ap, ◌∷◌, [], map}
use Rattle.py_model.specs.Lists.{unpack, tuple_display}
use Rattle.py_model.specs.Plan.{read_len}
use Rattle.py_model.specs.Walks.{read_items}
use Rattle.py_value.specs.Contents.{contents, object}
use Rattle.op_work.specs.Work.{Ends}
use Rattle.op_work.proofs.Ending.{ends_then, ends_stop, ends_fault}
use Rattle.op_work.proofs.Going.{passes_err}
use Rattle.op_items.proofs.UnpackPlans.{list_items, so_many, not_so_many}
use Rattle.op_items.proofs.unpacks.unpack_list.Goals as goal

pub returns-in_err-list : goal.returns-in_err-list
returns-in_err-list c = passes_err (λ result. Ends (λ table. unpack c.args.targets (object c.args.o ∷ [])) c.args.work.now c.list.new.work result) c.from_residual.result c.from_residual.ensures.1
    (ends_stop (λ table x. read_len c.args.o (list_items c.args.targets c.args.o)) _ c.in_err-list.ensures.comes)

pub returns-in_err-n : goal.returns-in_err-n
returns-in_err-n c = passes_err (λ result. Ends (λ table. unpack c.args.targets (object c.args.o ∷ [])) c.args.work.now c.read_len.new.self result) c.from_residual-in_err-n.result c.from_residual-in_err-n.ensures.1
    (ends_then (λ table x. read_len c.args.o (list_items c.args.targets c.args.o)) c.in_ok-list.ensures.comes (λ table interned extends. refl)
    (ends_stop (λ table n. list_items c.args.targets c.args.o n) _ c.in_err-n.ensures))

pub returns-then-n-targets : goal.returns-then-n-targets
returns-then-n-targets c =
    ends_then (λ table x. read_len c.args.o (list_items c.args.targets c.args.o)) c.in_ok-list.ensures.comes (λ table interned extends. refl)
    (ends_then (λ table n. list_items c.args.targets c.args.o n) c.in_ok-n.ensures (λ table interned extends. refl)
    (ends_fault (λ table. list_items c.args.targets c.args.o c.in_ok-n.n) 10 _ c.fault.result c.fault.ensures
    (λ table interned extends. not_so_many c.in_ok-n.n c.args.targets (read_items c.in_ok-n.n c.args.o 0 tuple_display) c.if-n-targets.true)))

pub returns-in_err-items : goal.returns-in_err-items
returns-in_err-items c = passes_err (λ result. Ends (λ table. unpack c.args.targets (object c.args.o ∷ [])) c.args.work.now c.items_from.new.work result) c.from_residual-in_err-items.result c.from_residual-in_err-items.ensures.1
    (ends_then (λ table x. read_len c.args.o (list_items c.args.targets c.args.o)) c.in_ok-list.ensures.comes (λ table interned extends. refl)
    (ends_then (λ table n. list_items c.args.targets c.args.o n) c.in_ok-n.ensures (λ table interned extends. so_many c.in_ok-n.n c.args.targets (read_items c.in_ok-n.n c.args.o 0 tuple_display) c.if-n-targets.false)
    (ends_stop (λ table items. tuple_display items) _ c.in_err-items.ensures)))

pub returns : goal.returns
returns c =
    ends_then (λ table x. read_len c.args.o (list_items c.args.targets c.args.o)) c.in_ok-list.ensures.comes (λ table interned extends. refl)
    (ends_then (λ table n. list_items c.args.targets c.args.o n) c.in_ok-n.ensures (λ table interned extends. so_many c.in_ok-n.n c.args.targets (read_items c.in_ok-n.n c.args.o 0 tuple_display) c.if-n-targets.false)
    (ends_then (λ table items. tuple_display items) c.in_ok-items.ensures (λ table interned extends. ap (λ vs. tuple_display (map (contents table) vs)) (sym c.as_slice.ensures.value)) c.tuple_display.ensures))
