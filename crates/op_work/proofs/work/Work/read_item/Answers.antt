use Rattle.std.proofs.Common.{refl, sym, ap, subst, ◌∙◌}
use Rattle.object_store.specs.Store.{StoreView, item_at}
use Rattle.py_model.specs.Plan.{read_item as plan_item}
use Rattle.py_model.specs.Store.{item_of}
use Rattle.py_value.specs.declared.access.Location.TheVariants.{Item}
use Rattle.op_work.specs.Work.{WorkView, Comes, IsNamedMaybe, seen_maybe}
use Rattle.op_work.proofs.Going.{read_comes, read_stops, passes_err}
use Rattle.op_work.proofs.Reading.{item_read, item_named}
use Rattle.op_work.proofs.work.Work.read_item.Goals as goal

pub returns-in_err-note_read : goal.returns-in_err-note_read
returns-in_err-note_read c = passes_err (λ result. Comes IsNamedMaybe seen_maybe (λ table. plan_item c.args.o c.args.i) c.args.self.now c.note_read.new.self result) c.from_residual.result c.from_residual.ensures.1
    (read_stops (λ table. plan_item c.args.o c.args.i) (Item c.args.o c.args.i) (λ table store. item_of store c.args.o c.args.i) (λ table store go answers. refl)
    c.in_err-note_read.ensures.same c.in_err-note_read.field-0.0 c.in_err-note_read.ensures.unpaid)

pub returns : goal.returns
returns c = read_comes (λ table. plan_item c.args.o c.args.i) (Item c.args.o c.args.i) (λ table store. item_of store c.args.o c.args.i) (λ table store go answers. refl)
    c.in_ok-note_read.ensures.done c.item.result (subst (λ v. IsNamedMaybe c.note_read.new.self.values v) (sym c.item.ensures) (item_named c.note_read.new.self.values c.note_read.new.self.store c.note_read.ensures.named c.args.o c.args.i))
    (λ table store extends is_seen. item_read table c.args.self.now.store store is_seen c.args.o c.args.i
    ∙ ap (λ (held : StoreView). seen_maybe table (item_at held c.args.o c.args.i)) (sym (ap (λ (w : WorkView). w.store) c.in_ok-note_read.ensures.done))
    ∙ ap (seen_maybe table) (sym c.item.ensures))
