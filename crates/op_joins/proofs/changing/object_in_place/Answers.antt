use Rattle.std.proofs.Common.{◌∙◌, refl, sym, ap, Some, None}
use Rattle.py_value.specs.Contents.{contents}
use Rattle.py_value.specs.declared.access.Kind.TheVariants.{List as ListKind, Dict as DictKind, Instance, File as FileKind}
use Rattle.op_work.proofs.Ending.{ends_then}
use Rattle.op_work.proofs.KindOf.{kind_comes, there}
use Rattle.op_joins.proofs.InPlacePlans.{by_kind}
use Rattle.op_joins.proofs.changing.object_in_place.Goals as goal

pub extend_list-requires-clause-within : goal.extend_list-requires-clause-within
extend_list-requires-clause-within c = there c.args.work.now c.args.o ListKind (sym (c.in-Some-List.is ∙ ap Some c.in-Some-List.field-0-is) ∙ c.kind_there.ensures.kind)

pub returns-in-Some-List : goal.returns-in-Some-List
returns-in-Some-List c = ends_then (λ table kind. by_kind c.args.o (contents table c.args.w) kind)
    (kind_comes c.args.work.now c.args.o (Some ListKind) (sym (c.in-Some-List.is ∙ ap Some c.in-Some-List.field-0-is) ∙ c.kind_there.ensures.kind) c.kind_there.ensures.named) (λ table interned extends. refl) c.extend_list.ensures

pub returns-in-Some-Dict : goal.returns-in-Some-Dict
returns-in-Some-Dict c = ends_then (λ table kind. by_kind c.args.o (contents table c.args.w) kind)
    (kind_comes c.args.work.now c.args.o (Some DictKind) (sym (c.in-Some-Dict.is ∙ ap Some c.in-Some-Dict.field-0-is) ∙ c.kind_there.ensures.kind) c.kind_there.ensures.named) (λ table interned extends. refl) c.added.ensures

pub returns-in-Some-Instance : goal.returns-in-Some-Instance
returns-in-Some-Instance c = ends_then (λ table kind. by_kind c.args.o (contents table c.args.w) kind)
    (kind_comes c.args.work.now c.args.o (Some (Instance c.in-Some-Instance.field-0-0)) (sym (c.in-Some-Instance.is ∙ ap Some c.in-Some-Instance.field-0-is) ∙ c.kind_there.ensures.kind) c.kind_there.ensures.named) (λ table interned extends. refl) c.added-in-Some-Instance.ensures

pub returns-in-Some-File : goal.returns-in-Some-File
returns-in-Some-File c = ends_then (λ table kind. by_kind c.args.o (contents table c.args.w) kind)
    (kind_comes c.args.work.now c.args.o (Some (FileKind c.in-Some-File.field-0-0 c.in-Some-File.field-0-1)) (sym (c.in-Some-File.is ∙ ap Some c.in-Some-File.field-0-is) ∙ c.kind_there.ensures.kind) c.kind_there.ensures.named) (λ table interned extends. refl) c.added-in-Some-File.ensures

pub returns-in-None : goal.returns-in-None
returns-in-None c = ends_then (λ table kind. by_kind c.args.o (contents table c.args.w) kind)
    (kind_comes c.args.work.now c.args.o None (sym c.in-None.is ∙ c.kind_there.ensures.kind) c.kind_there.ensures.named) (λ table interned extends. refl) c.added-in-None.ensures
