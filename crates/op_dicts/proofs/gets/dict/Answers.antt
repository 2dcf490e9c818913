use Rattle.std.proofs.Common.{refl, sym, ap, ◌∙◌, Some, None}
use Rattle.op_work.specs.Work.{seen_kind}
use Rattle.py_value.specs.declared.access.Kind.TheVariants.{List as ListKind, Dict as DictKind, Instance, File as FileKind}
use Rattle.op_work.proofs.Going.{comes_then, comes_as, fault_comes}
use Rattle.op_work.proofs.KindOf.{kind_comes, there}
use Rattle.op_dicts.proofs.FoundEnds.{only_dicts}
use Rattle.op_dicts.proofs.gets.dict.Goals as goal

pub returns-in-Some-Dict-clause-comes : goal.returns-in-Some-Dict-clause-comes
returns-in-Some-Dict-clause-comes c = comes_as only_dicts tt
    (kind_comes c.args.work.now c.args.o (Some DictKind) (sym (c.in-Some-Dict.is ∙ ap Some c.in-Some-Dict.field-0-is) ∙ c.kind_there.ensures.kind) c.kind_there.ensures.named) tt (λ table interned extends go. refl)

pub returns-in-Some-Dict-clause-there : goal.returns-in-Some-Dict-clause-there
returns-in-Some-Dict-clause-there c = there c.args.work.now c.args.o DictKind (sym (c.in-Some-Dict.is ∙ ap Some c.in-Some-Dict.field-0-is) ∙ c.kind_there.ensures.kind)

pub returns-in-Some-List-clause-comes : goal.returns-in-Some-List-clause-comes
returns-in-Some-List-clause-comes c = comes_then only_dicts
    (kind_comes c.args.work.now c.args.o (Some ListKind) (sym (c.in-Some-List.is ∙ ap Some c.in-Some-List.field-0-is) ∙ c.kind_there.ensures.kind) c.kind_there.ensures.named) (λ table interned extends go. refl)
    (fault_comes (λ table go. only_dicts table (seen_kind table (Some ListKind)) go) 9 _ c.fault.result c.fault.ensures (λ table interned extends go. refl))

pub returns-in-Some-Instance-clause-comes : goal.returns-in-Some-Instance-clause-comes
returns-in-Some-Instance-clause-comes c = comes_then only_dicts
    (kind_comes c.args.work.now c.args.o (Some (Instance c.in-Some-Instance.field-0-0)) (sym (c.in-Some-Instance.is ∙ ap Some c.in-Some-Instance.field-0-is) ∙ c.kind_there.ensures.kind) c.kind_there.ensures.named) (λ table interned extends go. refl)
    (fault_comes (λ table go. only_dicts table (seen_kind table (Some (Instance c.in-Some-Instance.field-0-0))) go) 9 _ c.fault-in-Some-Instance.result c.fault-in-Some-Instance.ensures (λ table interned extends go. refl))

pub returns-in-Some-File-clause-comes : goal.returns-in-Some-File-clause-comes
returns-in-Some-File-clause-comes c = comes_then only_dicts
    (kind_comes c.args.work.now c.args.o (Some (FileKind c.in-Some-File.field-0-0 c.in-Some-File.field-0-1)) (sym (c.in-Some-File.is ∙ ap Some c.in-Some-File.field-0-is) ∙ c.kind_there.ensures.kind) c.kind_there.ensures.named) (λ table interned extends go. refl)
    (fault_comes (λ table go. only_dicts table (seen_kind table (Some (FileKind c.in-Some-File.field-0-0 c.in-Some-File.field-0-1))) go) 9 _ c.fault-in-Some-File.result c.fault-in-Some-File.ensures (λ table interned extends go. refl))

pub returns-in-None-clause-comes : goal.returns-in-None-clause-comes
returns-in-None-clause-comes c = comes_then only_dicts
    (kind_comes c.args.work.now c.args.o None (sym c.in-None.is ∙ c.kind_there.ensures.kind) c.kind_there.ensures.named) (λ table interned extends go. refl)
    (fault_comes (λ table go. only_dicts table (seen_kind table None) go) 9 _ c.fault-in-None.result c.fault-in-None.ensures (λ table interned extends go. refl))
