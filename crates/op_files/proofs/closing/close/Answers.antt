use Rattle.std.proofs.Common.{rules, ◌≡◌, ◌∙◌, refl, sym, ap, map, slice_get, true, ℕ, Option, Some, None}
use Rattle.object_store.specs.Store.{kinds}
use Rattle.op_work.specs.Work.{Ends, seen_kind}
use Rattle.py_model.specs.Files.{close_plan}
use Rattle.py_model.specs.Plan.{Plan, write, done}
use Rattle.py_value.specs.Contents.{contents, nothing}
use Rattle.py_value.specs.Seen.{SeenKind, closed_at, closed_is}
use Rattle.py_value.specs.Values.{ValuesView}
use Rattle.py_value.specs.declared.access.Kind.TheVariants.{File as FileKind}
use Rattle.op_dicts.proofs.EndsEqual.{ends_equal}
use Rattle.op_work.proofs.Ending.{ends_then, ends_stop, ends_fault, ends_writes}
use Rattle.op_work.proofs.Going.{passes_err}
use Rattle.op_work.proofs.KindOf.{kind_comes}
use Rattle.op_files.specs.Written.{closed_by}
use Rattle.op_files.proofs.FilePlans.{closing, close_is, closed_other}
use Rattle.op_files.proofs.ObjectOperands.{kind_is_file}
use Rattle.op_files.proofs.closing.close.Goals as goal

abbrev rest : ValuesView → ℕ → Plan
rest table o = closing o

abbrev by_kind : ℕ → ValuesView → Option SeenKind → Plan
by_kind o table kind = closed_by o kind

pub returns-in_err-o : goal.returns-in_err-o
returns-in_err-o c = passes_err (λ result. Ends (λ table. close_plan (map (contents table) c.args.operands.now)) c.args.work.now c.one_object.new.work result) c.from_residual.result c.from_residual.ensures.1
    (ends_equal (λ table. close_plan (map (contents table) c.args.operands.now)) (λ table interned extends. close_is (map (contents table) c.args.operands.now))
    (ends_stop rest _ c.in_err-o.ensures))

pub returns-in_default : goal.returns-in_default
returns-in_default c =
    let none : c.open_file.result ≡ None = search rules in
    let kind = slice_get (kinds c.one_object.new.work.store) c.in_ok-o.o in
    ends_equal (λ table. close_plan (map (contents table) c.args.operands.now)) (λ table interned extends. close_is (map (contents table) c.args.operands.now))
    (ends_then rest c.in_ok-o.ensures (λ table interned extends. refl)
    (ends_then (by_kind c.in_ok-o.o) (kind_comes c.one_object.new.work c.in_ok-o.o kind refl c.open_file.ensures.named) (λ table interned extends. refl)
    (ends_fault (λ table. closed_by c.in_ok-o.o (seen_kind table kind)) 9 _ c.fault.result c.fault.ensures
    (λ table interned extends. closed_other c.in_ok-o.o table kind (sym c.open_file.ensures.file ∙ none)))))

pub returns : goal.returns
returns c =
    let kind = slice_get (kinds c.one_object.new.work.store) c.in_ok-o.o in
    let is = kind_is_file kind c.in-Some.path c.in-Some.mode (sym c.open_file.ensures.file ∙ c.in-Some.is) in
    let none = c.one_object.ensures.kept.made_is ∙ c.requires.fresh in
    ends_equal (λ table. close_plan (map (contents table) c.args.operands.now)) (λ table interned extends. close_is (map (contents table) c.args.operands.now))
    (ends_then rest c.in_ok-o.ensures (λ table interned extends. refl)
    (ends_then (by_kind c.in_ok-o.o) (kind_comes c.one_object.new.work c.in_ok-o.o kind refl c.open_file.ensures.named)
    (λ table interned extends. ap (λ k. closed_by c.in_ok-o.o (seen_kind table k)) is)
    (ends_writes (λ table. closed_by c.in_ok-o.o (seen_kind table (Some (FileKind c.in-Some.path c.in-Some.mode)))) none (λ table. write (closed_at c.in_ok-o.o) (closed_is true) (done nothing)) (λ table interned extends. refl) c.set_closed.ensures)))
