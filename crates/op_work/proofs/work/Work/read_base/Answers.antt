use Rattle.std.proofs.Common.{refl, sym, ap, subst, ◌∙◌}
use Rattle.object_store.specs.Store.{StoreView, content_at}
use Rattle.py_model.specs.Plan.{read_base as plan_base}
use Rattle.py_model.specs.Store.{base_of}
use Rattle.py_value.specs.declared.access.Location.TheVariants.{Base}
use Rattle.op_work.specs.Work.{WorkView, Comes, IsNamedMaybe, seen_maybe, base_in}
use Rattle.op_work.proofs.Going.{read_comes, read_stops, passes_err}
use Rattle.op_work.proofs.Reading.{base_read, base_named}
use Rattle.op_work.proofs.work.Work.read_base.Goals as goal

pub returns-in_err-note_read : goal.returns-in_err-note_read
returns-in_err-note_read c = passes_err (λ result. Comes IsNamedMaybe seen_maybe (λ table. plan_base c.args.place) c.args.self.now c.note_read.new.self result) c.from_residual.result c.from_residual.ensures.1
    (read_stops (λ table. plan_base c.args.place) (Base c.args.place) (λ table store. base_of store c.args.place) (λ table store go answers. refl)
    c.in_err-note_read.ensures.same c.in_err-note_read.field-0.0 c.in_err-note_read.ensures.unpaid)

pub returns : goal.returns
returns c = read_comes (λ table. plan_base c.args.place) (Base c.args.place) (λ table store. base_of store c.args.place) (λ table store go answers. refl)
    c.in_ok-note_read.ensures.done c.base.result (subst (λ v. IsNamedMaybe c.note_read.new.self.values v) (sym c.base.ensures) (base_named c.note_read.new.self.values c.note_read.new.self.store c.note_read.ensures.named c.args.place))
    (λ table store extends is_seen. base_read table c.args.self.now.store store is_seen c.args.place
    ∙ ap (λ (held : StoreView). seen_maybe table (base_in (content_at held (Base c.args.place)))) (sym (ap (λ (w : WorkView). w.store) c.in_ok-note_read.ensures.done))
    ∙ ap (seen_maybe table) (sym c.base.ensures))
