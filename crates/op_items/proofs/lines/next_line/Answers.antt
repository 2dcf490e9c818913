use Rattle.std.proofs.Common.{◌∙◌, refl, sym, ap, Option, Some, None, ℕ}
use Rattle.op_work.specs.Work.{seen_kind}
use Rattle.py_model.specs.Files.{next_line}
use Rattle.py_model.specs.Plan.{Plan}
use Rattle.py_value.specs.Seen.{SeenKind}
use Rattle.py_value.specs.Values.{ValuesView}
use Rattle.py_value.specs.declared.access.Kind.TheVariants.{List as ListKind, Dict as DictKind, Instance, File as FileKind}
use Rattle.op_work.proofs.Ending.{ends_then, ends_fault}
use Rattle.op_work.proofs.KindOf.{kind_comes}
use Rattle.op_numbers.proofs.EndsAlike.{ends_as}
use Rattle.py_model.specs.Plan.{kind_of}
use Rattle.op_items.specs.Lines.{line_of}
use Rattle.op_items.proofs.LinePlans.{line_is}
use Rattle.op_items.proofs.lines.next_line.Goals as goal

abbrev by_kind : ℕ → ValuesView → Option SeenKind → Plan
by_kind o table kind = line_of o kind

pub returns-in-Some-File : goal.returns-in-Some-File
returns-in-Some-File c = ends_as (λ table. next_line c.args.o) (λ table. kind_of c.args.o (line_of c.args.o)) (λ table interned extends. line_is c.args.o) (ends_then (by_kind c.args.o)
    (kind_comes c.args.work.now c.args.o (Some (FileKind c.in-Some-File.path c.in-Some-File.mode)) (sym (c.in-Some-File.is ∙ ap Some c.in-Some-File.field-0-is) ∙ c.kind_there.ensures.kind) c.kind_there.ensures.named) (λ table interned extends. refl) c.file_line.ensures)

pub file_line-requires-clause-named : goal.file_line-requires-clause-named
file_line-requires-clause-named c = c.kind_there.ensures.named.kinds_named c.args.o (FileKind c.in-Some-File.path c.in-Some-File.mode) (sym c.kind_there.ensures.kind ∙ (c.in-Some-File.is ∙ ap Some c.in-Some-File.field-0-is))

pub file_line-requires-clause-kind : goal.file_line-requires-clause-kind
file_line-requires-clause-kind c = sym c.kind_there.ensures.kind ∙ (c.in-Some-File.is ∙ ap Some c.in-Some-File.field-0-is)

pub returns-in-Some-List : goal.returns-in-Some-List
returns-in-Some-List c = ends_as (λ table. next_line c.args.o) (λ table. kind_of c.args.o (line_of c.args.o)) (λ table interned extends. line_is c.args.o) (ends_then (by_kind c.args.o)
    (kind_comes c.args.work.now c.args.o (Some ListKind) (sym (c.in-Some-List.is ∙ ap Some c.in-Some-List.field-0-is) ∙ c.kind_there.ensures.kind) c.kind_there.ensures.named) (λ table interned extends. refl)
    (ends_fault (λ table. by_kind c.args.o table (seen_kind table (Some ListKind))) 9 _ c.fault.result c.fault.ensures (λ table interned extends. refl)))

pub returns-in-Some-Dict : goal.returns-in-Some-Dict
returns-in-Some-Dict c = ends_as (λ table. next_line c.args.o) (λ table. kind_of c.args.o (line_of c.args.o)) (λ table interned extends. line_is c.args.o) (ends_then (by_kind c.args.o)
    (kind_comes c.args.work.now c.args.o (Some DictKind) (sym (c.in-Some-Dict.is ∙ ap Some c.in-Some-Dict.field-0-is) ∙ c.kind_there.ensures.kind) c.kind_there.ensures.named) (λ table interned extends. refl)
    (ends_fault (λ table. by_kind c.args.o table (seen_kind table (Some DictKind))) 9 _ c.fault-in-Some-Dict.result c.fault-in-Some-Dict.ensures (λ table interned extends. refl)))

pub returns-in-Some-Instance : goal.returns-in-Some-Instance
returns-in-Some-Instance c = ends_as (λ table. next_line c.args.o) (λ table. kind_of c.args.o (line_of c.args.o)) (λ table interned extends. line_is c.args.o) (ends_then (by_kind c.args.o)
    (kind_comes c.args.work.now c.args.o (Some (Instance c.in-Some-Instance.field-0-0)) (sym (c.in-Some-Instance.is ∙ ap Some c.in-Some-Instance.field-0-is) ∙ c.kind_there.ensures.kind) c.kind_there.ensures.named) (λ table interned extends. refl)
    (ends_fault (λ table. by_kind c.args.o table (seen_kind table (Some (Instance c.in-Some-Instance.field-0-0)))) 9 _ c.fault-in-Some-Instance.result c.fault-in-Some-Instance.ensures (λ table interned extends. refl)))

pub returns-in-None : goal.returns-in-None
returns-in-None c = ends_as (λ table. next_line c.args.o) (λ table. kind_of c.args.o (line_of c.args.o)) (λ table interned extends. line_is c.args.o) (ends_then (by_kind c.args.o)
    (kind_comes c.args.work.now c.args.o None (sym c.in-None.is ∙ c.kind_there.ensures.kind) c.kind_there.ensures.named) (λ table interned extends. refl)
    (ends_fault (λ table. by_kind c.args.o table (seen_kind table None)) 9 _ c.fault-in-None.result c.fault-in-None.ensures (λ table interned extends. refl)))
