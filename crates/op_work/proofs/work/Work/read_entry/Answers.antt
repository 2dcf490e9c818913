use Rattle.std.proofs.Common.{refl, sym, ap, subst, ◌∙◌}
use Rattle.object_store.specs.Store.{StoreView, content_at}
use Rattle.py_model.specs.Plan.{read_entry as plan_entry}
use Rattle.py_model.specs.Store.{entry_of}
use Rattle.py_value.specs.Contents.{contents}
use Rattle.py_value.specs.KeyOf.{normal}
use Rattle.py_value.specs.Seen.{entry_at}
use Rattle.py_value.specs.declared.access.Location.TheVariants.{Entry}
use Rattle.op_work.specs.Entries.{IsKeyOf, IsNamedEntry, seen_entry, entry_in}
use Rattle.op_work.specs.Work.{WorkView, Comes}
use Rattle.op_work.proofs.EntryReads.{place_comes, place_stops, form_on, named_on, entry_read, entry_named}
use Rattle.op_work.proofs.Going.{passes_err}
use Rattle.op_work.proofs.work.Work.read_entry.Goals as goal

pub returns-in_err-note_read : goal.returns-in_err-note_read
returns-in_err-note_read c = passes_err (λ result. Comes IsNamedEntry seen_entry (λ table. plan_entry c.args.o (contents table c.args.v)) c.args.self.now c.note_read.new.self result) c.from_residual.result c.from_residual.ensures.1
    (place_stops (λ table. plan_entry c.args.o (contents table c.args.v)) (λ table. entry_at c.args.o (normal (contents table c.args.v))) (λ table store. entry_of store c.args.o (contents table c.args.v)) (λ table store go answers. refl)
    c.in_err-note_read.ensures.same c.in_err-note_read.field-0.0 c.in_err-note_read.ensures.unpaid)

pub returns : goal.returns
returns c =
    let is_key = subst (λ (w : WorkView). IsKeyOf c.args.v w.values c.args.key) (sym c.in_ok-note_read.ensures.done) c.requires in
    place_comes (λ table. plan_entry c.args.o (contents table c.args.v)) (λ table. entry_at c.args.o (normal (contents table c.args.v))) (λ table store. entry_of store c.args.o (contents table c.args.v)) (λ table store go answers. refl)
    (Entry c.args.o c.args.key) c.in_ok-note_read.ensures.done c.entry_there.result
    (subst (λ entry. IsNamedEntry c.note_read.new.self.values entry) (sym c.entry_there.ensures.entry) (entry_named c.note_read.new.self.values c.note_read.new.self.store c.note_read.ensures.named c.args.o c.args.key))
    (λ table store extends is_seen. ap (entry_at c.args.o) (form_on c.contents_stay.ensures c.entry_there.ensures.interned extends c.args.v c.args.key is_key))
    (λ table store extends is_seen. entry_read table c.args.self.now.store store is_seen c.args.o (contents table c.args.v) c.args.key (named_on extends c.args.key.value is_key.1.named)
    (form_on c.contents_stay.ensures c.entry_there.ensures.interned extends c.args.v c.args.key is_key)
    ∙ ap (λ (held : StoreView). seen_entry table (entry_in (content_at held (Entry c.args.o c.args.key)))) (sym (ap (λ (w : WorkView). w.store) c.in_ok-note_read.ensures.done))
    ∙ ap (seen_entry table) (sym c.entry_there.ensures.entry))
