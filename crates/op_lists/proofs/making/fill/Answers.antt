use Rattle.std.proofs.Common.{refl, map, length}
use Rattle.py_model.specs.Making.{set_items}
use Rattle.py_model.specs.Plan.{write, done}
use Rattle.py_value.specs.Contents.{contents, object}
use Rattle.py_value.specs.Seen.{len_at, len_is}
use Rattle.py_value.specs.declared.value.Value.TheVariants.{Object}
use Rattle.op_work.specs.Work.{WroteAll}
use Rattle.op_work.proofs.Ending.{writes_then, writes_stop, writes_done}
use Rattle.op_work.proofs.Going.{passes_err}
use Rattle.op_lists.proofs.NamedValues.{all_named_stay}
use Rattle.op_lists.proofs.making.fill.Goals as goal

pub returns-in_err-set : goal.returns-in_err-set
returns-in_err-set c =
    passes_err (λ result. WroteAll (λ table. write (len_at c.args.o) (len_is (length c.args.items.now)) (set_items c.args.o 0 (map (contents table) c.args.items.now) (done (object c.args.o)))) c.args.work.now c.set.new.self result) c.from_residual.result c.from_residual.ensures.1
    (writes_stop (λ table. set_items c.args.o 0 (map (contents table) c.args.items.now) (done (object c.args.o))) c.in_err-set.field-0.0 c.in_err-set.ensures)

pub returns-in_err-set_items : goal.returns-in_err-set_items
returns-in_err-set_items c =
    passes_err (λ result. WroteAll (λ table. write (len_at c.args.o) (len_is (length c.args.items.now)) (set_items c.args.o 0 (map (contents table) c.args.items.now) (done (object c.args.o)))) c.args.work.now c.set_items.new.work result) c.from_residual-in_err-set_items.result c.from_residual-in_err-set_items.ensures.1
    (writes_then c.in_ok-set.ensures (writes_stop (λ table. done (object c.args.o)) c.in_err-set_items.field-0.0 c.in_err-set_items.ensures))

pub returns : goal.returns
returns c = writes_then c.in_ok-set.ensures (writes_then c.in_ok-set_items.ensures (writes_done c.set_items.new.work (Object c.args.o) (λ table. done (object c.args.o)) tt (λ table extends. refl)))

pub set_items-requires-clause-named : goal.set_items-requires-clause-named
set_items-requires-clause-named c = all_named_stay c.args.work.now.values c.set.new.self.values c.set.ensures.kept.extends.few c.args.items.now c.requires.named
