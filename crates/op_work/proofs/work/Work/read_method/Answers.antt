use Rattle.std.proofs.Common.{refl, sym, ap, subst, ◌∙◌, ◌<◌, length}
use Rattle.object_store.specs.Store.{StoreView, content_at}
use Rattle.py_model.specs.Plan.{read_method as plan_method}
use Rattle.py_model.specs.Store.{method_of}
use Rattle.py_value.specs.Seen.{bytes_of}
use Rattle.py_value.specs.declared.access.Location.TheVariants.{Method}
use Rattle.op_work.specs.Work.{WorkView, Comes, is_any, as_is, method_in}
use Rattle.op_work.proofs.Going.{read_comes, read_stops, passes_err, text_stays}
use Rattle.op_work.proofs.Reading.{method_read}
use Rattle.op_work.proofs.work.Work.read_method.Goals as goal

pub returns-in_err-note_read : goal.returns-in_err-note_read
returns-in_err-note_read c = passes_err (λ result. Comes is_any as_is (λ table. plan_method c.args.place (bytes_of table c.args.name)) c.args.self.now c.note_read.new.self result) c.from_residual.result c.from_residual.ensures.1
    (read_stops (λ table. plan_method c.args.place (bytes_of table c.args.name)) (Method c.args.place c.args.name) (λ table store. method_of store c.args.place (bytes_of table c.args.name)) (λ table store go answers. refl)
    c.in_err-note_read.ensures.same c.in_err-note_read.field-0.0 c.in_err-note_read.ensures.unpaid)

pub returns : goal.returns
returns c = read_comes (λ table. plan_method c.args.place (bytes_of table c.args.name)) (Method c.args.place c.args.name) (λ table store. method_of store c.args.place (bytes_of table c.args.name)) (λ table store go answers. refl)
    c.in_ok-note_read.ensures.done c.method_there.result tt
    (λ table store extends is_seen. method_read table c.args.self.now.store store is_seen c.args.place c.args.name (text_stays c.note_read.new.self.values extends (subst (λ w. c.args.name < length w.values.texts) (sym c.in_ok-note_read.ensures.done) c.requires))
    ∙ ap (λ (held : StoreView). method_in (content_at held (Method c.args.place c.args.name))) (sym (ap (λ (w : WorkView). w.store) c.in_ok-note_read.ensures.done))
    ∙ (sym c.method_there.ensures))
