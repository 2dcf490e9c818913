use Rattle.std.proofs.Common.{rules, ◌≡◌, ◌∙◌, refl, sym, ap, slice_get, ℕ, Option, None}
use Rattle.object_store.specs.Store.{kinds}
use Rattle.op_work.specs.Work.{seen_kind}
use Rattle.py_model.specs.Files.{write_to}
use Rattle.py_model.specs.Plan.{Plan, kind_of}
use Rattle.py_value.specs.Seen.{SeenKind, bytes_of}
use Rattle.py_value.specs.Values.{ValuesView}
use Rattle.op_numbers.proofs.EndsAlike.{ends_as}
use Rattle.op_work.proofs.Ending.{ends_then, ends_fault}
use Rattle.op_work.proofs.KindOf.{kind_comes}
use Rattle.op_files.specs.Written.{written_by}
use Rattle.op_files.proofs.FilePlans.{written_is, written_other}
use Rattle.op_files.proofs.ObjectOperands.{kind_is_file}
use Rattle.op_files.proofs.writing.object_write.Goals as goal

abbrev by_kind : ℕ → ℕ → ValuesView → Option SeenKind → Plan
by_kind o id table kind = written_by o (bytes_of table id) kind

pub file_write-requires-clause-path : goal.file_write-requires-clause-path
file_write-requires-clause-path c = c.open_file.ensures.named.kinds_named c.args.o _ (kind_is_file (slice_get (kinds c.args.work.now.store) c.args.o) c.in-Some.path c.in-Some.mode (sym c.open_file.ensures.file ∙ c.in-Some.is))

pub returns-in_default : goal.returns-in_default
returns-in_default c =
    let none : c.open_file.result ≡ None = search rules in
    let kind = slice_get (kinds c.args.work.now.store) c.args.o in
    ends_as (λ table. write_to c.args.o (bytes_of table c.args.id)) (λ table. kind_of c.args.o (written_by c.args.o (bytes_of table c.args.id))) (λ table interned extends. written_is c.args.o (bytes_of table c.args.id))
    (ends_then (by_kind c.args.o c.args.id) (kind_comes c.args.work.now c.args.o kind refl c.open_file.ensures.named) (λ table interned extends. refl)
    (ends_fault (λ table. written_by c.args.o (bytes_of table c.args.id) (seen_kind table kind)) 9 _ c.fault.result c.fault.ensures
    (λ table interned extends. written_other c.args.o (bytes_of table c.args.id) table kind (sym c.open_file.ensures.file ∙ none))))

pub returns : goal.returns
returns c =
    let kind = slice_get (kinds c.args.work.now.store) c.args.o in
    let is = kind_is_file kind c.in-Some.path c.in-Some.mode (sym c.open_file.ensures.file ∙ c.in-Some.is) in
    ends_as (λ table. write_to c.args.o (bytes_of table c.args.id)) (λ table. kind_of c.args.o (written_by c.args.o (bytes_of table c.args.id))) (λ table interned extends. written_is c.args.o (bytes_of table c.args.id))
    (ends_then (by_kind c.args.o c.args.id) (kind_comes c.args.work.now c.args.o kind refl c.open_file.ensures.named)
    (λ table interned extends. ap (λ k. written_by c.args.o (bytes_of table c.args.id) (seen_kind table k)) is) c.file_write.ensures)
