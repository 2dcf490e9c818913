use Rattle.std.proofs.Common.{refl, sym, ap, ◌∙◌, Some, None}
use Rattle.op_work.specs.Work.{seen_kind}
use Rattle.py_value.specs.declared.access.Kind.TheVariants.{List as ListKind, Dict as DictKind, Instance, File as FileKind}
use Rattle.op_work.proofs.Going.{comes_then, fault_comes}
use Rattle.op_work.proofs.KindOf.{kind_comes}
use Rattle.op_compare.proofs.SoughtIn.{found_by}
use Rattle.op_compare.proofs.objects.in_object.Goals as goal

pub returns-in-Some-List : goal.returns-in-Some-List
returns-in-Some-List c = comes_then (found_by c.args.o c.args.v) (kind_comes c.args.work.now c.args.o (Some ListKind) (sym (c.in-Some-List.is ∙ ap Some c.in-Some-List.field-0-is) ∙ c.kind_there.ensures.kind) c.kind_there.ensures.named)
    (λ table interned extends go. refl) c.in_list.ensures

pub returns-in-Some-Dict : goal.returns-in-Some-Dict
returns-in-Some-Dict c = comes_then (found_by c.args.o c.args.v) (kind_comes c.args.work.now c.args.o (Some DictKind) (sym (c.in-Some-Dict.is ∙ ap Some c.in-Some-Dict.field-0-is) ∙ c.kind_there.ensures.kind) c.kind_there.ensures.named)
    (λ table interned extends go. refl) c.in_dict.ensures

pub returns-in-Some-Instance : goal.returns-in-Some-Instance
returns-in-Some-Instance c = comes_then (found_by c.args.o c.args.v)
    (kind_comes c.args.work.now c.args.o (Some (Instance c.in-Some-Instance.field-0-0)) (sym (c.in-Some-Instance.is ∙ ap Some c.in-Some-Instance.field-0-is) ∙ c.kind_there.ensures.kind) c.kind_there.ensures.named)
    (λ table interned extends go. refl)
    (fault_comes (λ table go. found_by c.args.o c.args.v table (seen_kind table (Some (Instance c.in-Some-Instance.field-0-0))) go) 9 _ c.fault.result c.fault.ensures (λ table interned extends go. refl))

pub returns-in-Some-File : goal.returns-in-Some-File
returns-in-Some-File c = comes_then (found_by c.args.o c.args.v)
    (kind_comes c.args.work.now c.args.o (Some (FileKind c.in-Some-File.field-0-0 c.in-Some-File.field-0-1)) (sym (c.in-Some-File.is ∙ ap Some c.in-Some-File.field-0-is) ∙ c.kind_there.ensures.kind) c.kind_there.ensures.named)
    (λ table interned extends go. refl)
    (fault_comes (λ table go. found_by c.args.o c.args.v table (seen_kind table (Some (FileKind c.in-Some-File.field-0-0 c.in-Some-File.field-0-1))) go) 9 _ c.fault-in-Some-File.result c.fault-in-Some-File.ensures (λ table interned extends go. refl))

pub returns-in-None : goal.returns-in-None
returns-in-None c = comes_then (found_by c.args.o c.args.v)
    (kind_comes c.args.work.now c.args.o None (sym c.in-None.is ∙ c.kind_there.ensures.kind) c.kind_there.ensures.named)
    (λ table interned extends go. refl)
    (fault_comes (λ table go. found_by c.args.o c.args.v table (seen_kind table None) go) 9 _ c.fault-in-None.result c.fault-in-None.ensures (λ table interned extends go. refl))
