use Rattle.std.proofs.Common.{refl, ap, subst, ◌∙◌, Some, None, Ok}
use Rattle.op_lists.specs.ValuesSeen.{values_seen}
use Rattle.op_work.specs.Work.{Comes, seen_kind}
use Rattle.py_model.specs.Plan.{kind_of}
use Rattle.py_model.specs.Walks.{walk_object, read_items}
use Rattle.py_value.specs.Named.{IsNamedKind}
use Rattle.py_value.specs.Values.{AreNamed}
use Rattle.py_value.specs.declared.access.Kind.TheVariants.{Instance, File as FileKind}
use Rattle.op_work.proofs.Going.{comes_then, comes_stop, fault_comes, passes_err}
use Rattle.op_lists.proofs.Objects.{by_kind}
use Rattle.op_lists.proofs.walk.walk_object.Goals as goal

pub returns-in_err-n-in-Some-List : goal.returns-in_err-n-in-Some-List
returns-in_err-n-in-Some-List c =
    let known = subst (λ kind. Comes IsNamedKind seen_kind (λ table. kind_of c.args.o) c.args.work.now c.args.work.now (Ok kind)) (c.in-Some-List.is ∙ ap Some c.in-Some-List.field-0-is) c.kind.ensures in
    passes_err (λ result. Comes (λ values vs. AreNamed values vs.items) (λ table vs. values_seen table vs.items) (λ table go. kind_of c.args.o (walk_object c.args.o go)) c.args.work.now c.read_len.new.self result)
    c.from_residual.result c.from_residual.ensures.1
    (comes_then (by_kind c.args.o) known (λ table interned extends go. refl) (comes_stop (λ table n go. read_items n c.args.o 0 go) c.in_err-n-in-Some-List.ensures))

pub returns-in_ok-n-in-Some-List : goal.returns-in_ok-n-in-Some-List
returns-in_ok-n-in-Some-List c =
    let known = subst (λ kind. Comes IsNamedKind seen_kind (λ table. kind_of c.args.o) c.args.work.now c.args.work.now (Ok kind)) (c.in-Some-List.is ∙ ap Some c.in-Some-List.field-0-is) c.kind.ensures in
    comes_then (by_kind c.args.o) known (λ table interned extends go. refl)
    (comes_then (λ table n go. read_items n c.args.o 0 go) c.in_ok-n-in-Some-List.ensures (λ table interned extends go. refl) c.items_from.ensures)

pub returns-in-Some-Dict : goal.returns-in-Some-Dict
returns-in-Some-Dict c =
    let known = subst (λ kind. Comes IsNamedKind seen_kind (λ table. kind_of c.args.o) c.args.work.now c.args.work.now (Ok kind)) (c.in-Some-Dict.is ∙ ap Some c.in-Some-Dict.field-0-is) c.kind.ensures in
    comes_then (by_kind c.args.o) known (λ table interned extends go. refl) c.walk_keys.ensures

pub returns-in-Some-File : goal.returns-in-Some-File
returns-in-Some-File c =
    let known = subst (λ kind. Comes IsNamedKind seen_kind (λ table. kind_of c.args.o) c.args.work.now c.args.work.now (Ok kind)) (c.in-Some-File.is ∙ ap Some c.in-Some-File.field-0-is) c.kind.ensures in
    comes_then (by_kind c.args.o) known (λ table interned extends go. refl)
    (fault_comes (λ table go. by_kind c.args.o table (seen_kind table (Some (FileKind c.in-Some-File.field-0-0 c.in-Some-File.field-0-1))) go) 13 _ c.fault.result c.fault.ensures (λ table interned extends go. refl))

pub returns-in-Some-Instance : goal.returns-in-Some-Instance
returns-in-Some-Instance c =
    let known = subst (λ kind. Comes IsNamedKind seen_kind (λ table. kind_of c.args.o) c.args.work.now c.args.work.now (Ok kind)) (c.in-Some-Instance.is ∙ ap Some c.in-Some-Instance.field-0-is) c.kind.ensures in
    comes_then (by_kind c.args.o) known (λ table interned extends go. refl)
    (fault_comes (λ table go. by_kind c.args.o table (seen_kind table (Some (Instance c.in-Some-Instance.field-0-0))) go) 9 _ c.fault-in-Some-Instance.result c.fault-in-Some-Instance.ensures (λ table interned extends go. refl))

pub returns-in-None : goal.returns-in-None
returns-in-None c =
    let known = subst (λ kind. Comes IsNamedKind seen_kind (λ table. kind_of c.args.o) c.args.work.now c.args.work.now (Ok kind)) c.in-None.is c.kind.ensures in
    comes_then (by_kind c.args.o) known (λ table interned extends go. refl)
    (fault_comes (λ table go. by_kind c.args.o table (seen_kind table None) go) 9 _ c.fault-in-None.result c.fault-in-None.ensures (λ table interned extends go. refl))
