use Rattle.std.proofs.Common.{rules, ◌≡◌, ◌∙◌, refl, sym, ap, slice_get, Bool, ℕ, Option, None}
use Rattle.object_store.specs.Store.{kinds}
use Rattle.op_work.specs.Work.{seen_kind}
use Rattle.py_model.specs.Plan.{Plan, kind_of}
use Rattle.py_value.specs.Seen.{SeenKind}
use Rattle.py_value.specs.Values.{ValuesView}
use Rattle.op_numbers.proofs.EndsAlike.{ends_as}
use Rattle.op_work.proofs.Ending.{ends_then, ends_fault}
use Rattle.op_work.proofs.KindOf.{kind_comes}
use Rattle.op_files.specs.Pieces.{piece_by, piece_plan}
use Rattle.op_files.proofs.FilePlans.{piece_is, piece_other}
use Rattle.op_files.proofs.ObjectOperands.{kind_is_file}
use Rattle.op_files.proofs.reading.object_piece.Goals as goal

abbrev by_kind : Bool → ℕ → ValuesView → Option SeenKind → Plan
by_kind whole o table kind = piece_by whole o kind

pub file_piece-requires-clause-named : goal.file_piece-requires-clause-named
file_piece-requires-clause-named c = c.open_file.ensures.named.kinds_named c.args.o _ (kind_is_file (slice_get (kinds c.args.work.now.store) c.args.o) c.in-Some.path c.in-Some.mode (sym c.open_file.ensures.file ∙ c.in-Some.is))

pub file_piece-requires-clause-kind : goal.file_piece-requires-clause-kind
file_piece-requires-clause-kind c = kind_is_file (slice_get (kinds c.args.work.now.store) c.args.o) c.in-Some.path c.in-Some.mode (sym c.open_file.ensures.file ∙ c.in-Some.is)

pub returns-in_default : goal.returns-in_default
returns-in_default c =
    let none : c.open_file.result ≡ None = search rules in
    let kind = slice_get (kinds c.args.work.now.store) c.args.o in
    ends_as (λ table. piece_plan c.args.whole c.args.o) (λ table. kind_of c.args.o (piece_by c.args.whole c.args.o)) (λ table interned extends. piece_is c.args.whole c.args.o)
    (ends_then (by_kind c.args.whole c.args.o) (kind_comes c.args.work.now c.args.o kind refl c.open_file.ensures.named) (λ table interned extends. refl)
    (ends_fault (λ table. piece_by c.args.whole c.args.o (seen_kind table kind)) 9 _ c.fault.result c.fault.ensures
    (λ table interned extends. piece_other c.args.whole c.args.o table kind (sym c.open_file.ensures.file ∙ none))))

pub returns : goal.returns
returns c =
    let kind = slice_get (kinds c.args.work.now.store) c.args.o in
    let is = kind_is_file kind c.in-Some.path c.in-Some.mode (sym c.open_file.ensures.file ∙ c.in-Some.is) in
    ends_as (λ table. piece_plan c.args.whole c.args.o) (λ table. kind_of c.args.o (piece_by c.args.whole c.args.o)) (λ table interned extends. piece_is c.args.whole c.args.o)
    (ends_then (by_kind c.args.whole c.args.o) (kind_comes c.args.work.now c.args.o kind refl c.open_file.ensures.named)
    (λ table interned extends. ap (λ k. piece_by c.args.whole c.args.o (seen_kind table k)) is) c.file_piece.ensures)
