use Rattle.std.proofs.Common.{◌∙◌, refl, sym, ap, Option, Some, None, ℕ}
use Rattle.op_work.specs.Work.{seen_kind}
use Rattle.py_model.specs.Lists.{del_of}
use Rattle.py_model.specs.Plan.{Plan}
use Rattle.py_value.specs.Contents.{contents}
use Rattle.py_value.specs.Seen.{SeenKind}
use Rattle.py_value.specs.Values.{ValuesView}
use Rattle.py_value.specs.declared.value.Value.{Value}
use Rattle.py_value.specs.declared.access.Kind.TheVariants.{List as ListKind, Dict as DictKind, Instance, File as FileKind}
use Rattle.op_work.proofs.Ending.{ends_then, ends_fault}
use Rattle.op_work.proofs.KindOf.{kind_comes, there}
use Rattle.op_mutations.proofs.taking.del_in_object.Goals as goal

abbrev by_kind : ℕ → Value → ValuesView → Option SeenKind → Plan
by_kind o w table kind = del_of o (contents table w) kind

pub returns-in-Some-List : goal.returns-in-Some-List
returns-in-Some-List c = ends_then (by_kind c.args.o c.args.w)
    (kind_comes c.args.work.now c.args.o (Some ListKind) (sym (c.in-Some-List.is ∙ ap Some c.in-Some-List.field-0-is) ∙ c.kind_there.ensures.kind) c.kind_there.ensures.named) (λ table interned extends. refl) c.del_in_list.ensures

pub returns-in-Some-Dict : goal.returns-in-Some-Dict
returns-in-Some-Dict c = ends_then (by_kind c.args.o c.args.w)
    (kind_comes c.args.work.now c.args.o (Some DictKind) (sym (c.in-Some-Dict.is ∙ ap Some c.in-Some-Dict.field-0-is) ∙ c.kind_there.ensures.kind) c.kind_there.ensures.named) (λ table interned extends. refl) c.del_entry.ensures

pub del_in_list-requires-clause-within : goal.del_in_list-requires-clause-within
del_in_list-requires-clause-within c = there c.args.work.now c.args.o ListKind (sym (c.in-Some-List.is ∙ ap Some c.in-Some-List.field-0-is) ∙ c.kind_there.ensures.kind)

pub del_entry-requires-clause-within : goal.del_entry-requires-clause-within
del_entry-requires-clause-within c = there c.args.work.now c.args.o DictKind (sym (c.in-Some-Dict.is ∙ ap Some c.in-Some-Dict.field-0-is) ∙ c.kind_there.ensures.kind)

pub returns-in-Some-Instance : goal.returns-in-Some-Instance
returns-in-Some-Instance c = ends_then (by_kind c.args.o c.args.w)
    (kind_comes c.args.work.now c.args.o (Some (Instance c.in-Some-Instance.field-0-0)) (sym (c.in-Some-Instance.is ∙ ap Some c.in-Some-Instance.field-0-is) ∙ c.kind_there.ensures.kind) c.kind_there.ensures.named) (λ table interned extends. refl)
    (ends_fault (λ table. by_kind c.args.o c.args.w table (seen_kind table (Some (Instance c.in-Some-Instance.field-0-0)))) 9 _ c.fault.result c.fault.ensures (λ table interned extends. refl))

pub returns-in-Some-File : goal.returns-in-Some-File
returns-in-Some-File c = ends_then (by_kind c.args.o c.args.w)
    (kind_comes c.args.work.now c.args.o (Some (FileKind c.in-Some-File.field-0-0 c.in-Some-File.field-0-1)) (sym (c.in-Some-File.is ∙ ap Some c.in-Some-File.field-0-is) ∙ c.kind_there.ensures.kind) c.kind_there.ensures.named) (λ table interned extends. refl)
    (ends_fault (λ table. by_kind c.args.o c.args.w table (seen_kind table (Some (FileKind c.in-Some-File.field-0-0 c.in-Some-File.field-0-1)))) 9 _ c.fault-in-Some-File.result c.fault-in-Some-File.ensures (λ table interned extends. refl))

pub returns-in-None : goal.returns-in-None
returns-in-None c = ends_then (by_kind c.args.o c.args.w)
    (kind_comes c.args.work.now c.args.o None (sym c.in-None.is ∙ c.kind_there.ensures.kind) c.kind_there.ensures.named) (λ table interned extends. refl)
    (ends_fault (λ table. by_kind c.args.o c.args.w table (seen_kind table None)) 9 _ c.fault-in-None.result c.fault-in-None.ensures (λ table interned extends. refl))
