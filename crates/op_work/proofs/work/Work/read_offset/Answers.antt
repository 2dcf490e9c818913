use Rattle.std.proofs.Common.{refl, sym, ap, ◌∙◌}
use Rattle.object_store.specs.Store.{StoreView, content_at}
use Rattle.py_model.specs.Plan.{read_offset as plan_offset}
use Rattle.py_model.specs.Store.{offset_of}
use Rattle.py_value.specs.declared.access.Location.TheVariants.{Offset}
use Rattle.op_work.specs.Work.{WorkView, Comes, is_any, as_is, offset_in}
use Rattle.op_work.proofs.Going.{read_comes, read_stops, passes_err}
use Rattle.op_work.proofs.Reading.{offset_read}
use Rattle.op_work.proofs.work.Work.read_offset.Goals as goal

pub returns-in_err-note_read : goal.returns-in_err-note_read
returns-in_err-note_read c = passes_err (λ result. Comes is_any as_is (λ table. plan_offset c.args.o) c.args.self.now c.note_read.new.self result) c.from_residual.result c.from_residual.ensures.1
    (read_stops (λ table. plan_offset c.args.o) (Offset c.args.o) (λ table store. offset_of store c.args.o) (λ table store go answers. refl)
    c.in_err-note_read.ensures.same c.in_err-note_read.field-0.0 c.in_err-note_read.ensures.unpaid)

pub returns : goal.returns
returns c = read_comes (λ table. plan_offset c.args.o) (Offset c.args.o) (λ table store. offset_of store c.args.o) (λ table store go answers. refl)
    c.in_ok-note_read.ensures.done c.offset.result tt
    (λ table store extends is_seen. offset_read table c.args.self.now.store store is_seen c.args.o
    ∙ ap (λ (held : StoreView). offset_in (content_at held (Offset c.args.o))) (sym (ap (λ (w : WorkView). w.store) c.in_ok-note_read.ensures.done))
    ∙ (sym c.offset.ensures))
