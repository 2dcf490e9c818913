use Rattle.std.proofs.Common.{refl, ap, subst, ◌∙◌, Some, None, Ok}
use Rattle.op_work.specs.Work.{Comes, seen_kind}
use Rattle.py_model.specs.Plan.{kind_of}
use Rattle.py_value.specs.Named.{IsNamedKind}
use Rattle.py_value.specs.declared.access.Kind.TheVariants.{List as ListKind, Dict, Instance, File as FileKind}
use Rattle.op_work.proofs.Going.{comes_then, at_once, fault_comes}
use Rattle.op_lists.proofs.Objects.{walked_by_kind}
use Rattle.op_lists.proofs.walked.object_walked.Goals as goal

pub returns-in-Some-List : goal.returns-in-Some-List
returns-in-Some-List c =
    let known = subst (λ kind. Comes IsNamedKind seen_kind (λ table. kind_of c.args.o) c.args.work.now c.args.work.now (Ok kind)) (c.in-Some-List.is ∙ ap Some c.in-Some-List.field-0-is) c.kind.ensures in
    comes_then walked_by_kind known (λ table interned extends go. refl) (at_once (λ table go. walked_by_kind table (seen_kind table (Some ListKind)) go) c.args.work.now _ tt (λ table interned extends go. refl))

pub returns-in-Some-Dict : goal.returns-in-Some-Dict
returns-in-Some-Dict c =
    let known = subst (λ kind. Comes IsNamedKind seen_kind (λ table. kind_of c.args.o) c.args.work.now c.args.work.now (Ok kind)) (c.in-Some-Dict.is ∙ ap Some c.in-Some-Dict.field-0-is) c.kind.ensures in
    comes_then walked_by_kind known (λ table interned extends go. refl) (at_once (λ table go. walked_by_kind table (seen_kind table (Some Dict)) go) c.args.work.now _ tt (λ table interned extends go. refl))

pub returns-in-Some-File : goal.returns-in-Some-File
returns-in-Some-File c =
    let known = subst (λ kind. Comes IsNamedKind seen_kind (λ table. kind_of c.args.o) c.args.work.now c.args.work.now (Ok kind)) (c.in-Some-File.is ∙ ap Some c.in-Some-File.field-0-is) c.kind.ensures in
    comes_then walked_by_kind known (λ table interned extends go. refl)
    (fault_comes (λ table go. walked_by_kind table (seen_kind table (Some (FileKind c.in-Some-File.field-0-0 c.in-Some-File.field-0-1))) go) 13 _ c.fault.result c.fault.ensures (λ table interned extends go. refl))

pub returns-in-Some-Instance : goal.returns-in-Some-Instance
returns-in-Some-Instance c =
    let known = subst (λ kind. Comes IsNamedKind seen_kind (λ table. kind_of c.args.o) c.args.work.now c.args.work.now (Ok kind)) (c.in-Some-Instance.is ∙ ap Some c.in-Some-Instance.field-0-is) c.kind.ensures in
    comes_then walked_by_kind known (λ table interned extends go. refl)
    (fault_comes (λ table go. walked_by_kind table (seen_kind table (Some (Instance c.in-Some-Instance.field-0-0))) go) 9 _ c.fault-in-Some-Instance.result c.fault-in-Some-Instance.ensures (λ table interned extends go. refl))

pub returns-in-None : goal.returns-in-None
returns-in-None c =
    let known = subst (λ kind. Comes IsNamedKind seen_kind (λ table. kind_of c.args.o) c.args.work.now c.args.work.now (Ok kind)) c.in-None.is c.kind.ensures in
    comes_then walked_by_kind known (λ table interned extends go. refl)
    (fault_comes (λ table go. walked_by_kind table (seen_kind table None) go) 9 _ c.fault-in-None.result c.fault-in-None.ensures (λ table interned extends go. refl))
