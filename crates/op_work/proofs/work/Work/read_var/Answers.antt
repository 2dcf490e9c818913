use Rattle.std.proofs.Common.{refl, sym, ap, subst, ◌∙◌, ◌<◌, length}
use Rattle.object_store.specs.Store.{StoreView, content_at}
use Rattle.py_model.specs.Plan.{read_var as plan_var}
use Rattle.py_model.specs.Store.{var_of}
use Rattle.py_value.specs.Seen.{bytes_of}
use Rattle.py_value.specs.declared.access.Location.TheVariants.{Var}
use Rattle.op_work.specs.Work.{WorkView, Comes, IsNamedMaybe, seen_maybe, var_in}
use Rattle.op_work.proofs.Going.{read_comes, read_stops, passes_err, text_stays}
use Rattle.op_work.proofs.Reading.{var_read, var_named}
use Rattle.op_work.proofs.work.Work.read_var.Goals as goal

pub returns-in_err-note_read : goal.returns-in_err-note_read
returns-in_err-note_read c = passes_err (λ result. Comes IsNamedMaybe seen_maybe (λ table. plan_var c.args.scope (bytes_of table c.args.name)) c.args.self.now c.note_read.new.self result) c.from_residual.result c.from_residual.ensures.1
    (read_stops (λ table. plan_var c.args.scope (bytes_of table c.args.name)) (Var c.args.scope c.args.name) (λ table store. var_of store c.args.scope (bytes_of table c.args.name)) (λ table store go answers. refl)
    c.in_err-note_read.ensures.same c.in_err-note_read.field-0.0 c.in_err-note_read.ensures.unpaid)

pub returns : goal.returns
returns c = read_comes (λ table. plan_var c.args.scope (bytes_of table c.args.name)) (Var c.args.scope c.args.name) (λ table store. var_of store c.args.scope (bytes_of table c.args.name)) (λ table store go answers. refl)
    c.in_ok-note_read.ensures.done c.var.result (subst (λ v. IsNamedMaybe c.note_read.new.self.values v) (sym c.var.ensures) (var_named c.note_read.new.self.values c.note_read.new.self.store c.note_read.ensures.named c.args.scope c.args.name))
    (λ table store extends is_seen. var_read table c.args.self.now.store store is_seen c.args.scope c.args.name (text_stays c.note_read.new.self.values extends (subst (λ w. c.args.name < length w.values.texts) (sym c.in_ok-note_read.ensures.done) c.requires))
    ∙ ap (λ (held : StoreView). seen_maybe table (var_in (content_at held (Var c.args.scope c.args.name)))) (sym (ap (λ (w : WorkView). w.store) c.in_ok-note_read.ensures.done))
    ∙ ap (seen_maybe table) (sym c.var.ensures))
