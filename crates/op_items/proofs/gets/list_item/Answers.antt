use Rattle.std.proofs.Common.{rules, ◌≡◌, refl, subst, ℤ, w64, to_z, of_z, Ok, Err}
use Rattle.op_lists.specs.Items.{item_at_index}
use Rattle.py_model.specs.Lists.{get_item}
use Rattle.py_model.specs.Operands.{gives}
use Rattle.py_model.specs.Places.{with_index}
use Rattle.py_value.specs.Contents.{contents}
use Rattle.py_value.specs.Values.{ValuesView, IsNamed}
use Rattle.op_work.specs.Work.{Comes, Ends}
use Rattle.op_work.proofs.Ending.{ends_then, ends_stop}
use Rattle.op_work.proofs.Going.{passes_err}
use Rattle.op_items.proofs.gets.list_item.Goals as goal

pub returns-in_err-i : goal.returns-in_err-i
returns-in_err-i c = passes_err (λ result. Ends (λ table. with_index (contents table c.args.w) (get_item c.args.o)) c.args.work.now c.index.new.work result) c.from_residual.result c.from_residual.ensures.1
    (ends_stop (λ table i. get_item c.args.o i) _ c.in_err-i.ensures)

pub returns-in_err-item : goal.returns-in_err-item
returns-in_err-item c =
    let back : to_z w64 (of_z w64 c.in_ok-i.i) ≡ c.in_ok-i.i = search rules in
    let got = subst (λ (i : ℤ). Comes IsNamed contents (λ (table : ValuesView). item_at_index c.args.o i) c.index.new.work c.get_item.new.work (Err c.in_err-item.field-0.0)) back c.in_err-item.ensures in
    passes_err (λ result. Ends (λ table. with_index (contents table c.args.w) (get_item c.args.o)) c.args.work.now c.get_item.new.work result) c.from_residual-in_err-item.result c.from_residual-in_err-item.ensures.1
    (ends_then (λ table i. get_item c.args.o i) c.in_ok-i.ensures (λ table interned extends. refl) (ends_stop (λ table v. gives v) _ got))

pub returns : goal.returns
returns c =
    let back : to_z w64 (of_z w64 c.in_ok-i.i) ≡ c.in_ok-i.i = search rules in
    let got = subst (λ (i : ℤ). Comes IsNamed contents (λ (table : ValuesView). item_at_index c.args.o i) c.index.new.work c.get_item.new.work (Ok c.in_ok-item.item)) back c.in_ok-item.ensures in
    ends_then (λ table i. get_item c.args.o i) c.in_ok-i.ensures (λ table interned extends. refl)
    (ends_then (λ table v. gives v) got (λ table interned extends. refl) c.value_answer.ensures)
