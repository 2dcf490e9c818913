use Rattle.std.proofs.Common.{refl, ap, ◌∙◌, subst, Some, Ok}
use Rattle.py_model.specs.Classes.{list_methods, dict_methods, file_methods}
use Rattle.py_model.specs.Faults.{not_there}
use Rattle.py_model.specs.Plan.{kind_of}
use Rattle.py_value.specs.Named.{IsNamedKind}
use Rattle.op_work.specs.Work.{Comes, seen_kind}
use Rattle.op_work.proofs.Ending.{ends_then, ends_fault}
use Rattle.op_attributes.proofs.Lacking.{method_is}
use Rattle.op_attributes.proofs.OfKinds.{finds}
use Rattle.op_attributes.proofs.finds.find_in_object.Goals as goal

pub returns-in-Some-List : goal.returns-in-Some-List
returns-in-Some-List c =
    let known = subst (λ k. Comes IsNamedKind seen_kind (λ table. kind_of c.args.o) c.args.work.now c.args.work.now (Ok k)) (c.in-Some-List.is ∙ ap Some c.in-Some-List.field-0-is) c.kind.ensures in
    ends_then (finds c.args.name c.args.o) known
    (λ table interned extends. method_is 80 list_methods c.args.work.now.values c.args.name c.text_of.result.now c.list_method-method.result c.requires.name extends c.text_of.ensures c.list_method-method.ensures)
    c.operation.ensures

pub returns-in-Some-Dict : goal.returns-in-Some-Dict
returns-in-Some-Dict c =
    let known = subst (λ k. Comes IsNamedKind seen_kind (λ table. kind_of c.args.o) c.args.work.now c.args.work.now (Ok k)) (c.in-Some-Dict.is ∙ ap Some c.in-Some-Dict.field-0-is) c.kind.ensures in
    ends_then (finds c.args.name c.args.o) known
    (λ table interned extends. method_is 87 dict_methods c.args.work.now.values c.args.name c.text_of-in-Some-Dict.result.now c.dict_method-method.result c.requires.name extends c.text_of-in-Some-Dict.ensures c.dict_method-method.ensures)
    c.operation-in-Some-Dict.ensures

pub returns-in-Some-File : goal.returns-in-Some-File
returns-in-Some-File c =
    let known = subst (λ k. Comes IsNamedKind seen_kind (λ table. kind_of c.args.o) c.args.work.now c.args.work.now (Ok k)) (c.in-Some-File.is ∙ ap Some c.in-Some-File.field-0-is) c.kind.ensures in
    ends_then (finds c.args.name c.args.o) known
    (λ table interned extends. method_is 105 file_methods c.args.work.now.values c.args.name c.text_of-in-Some-File.result.now c.file_method-method.result c.requires.name extends c.text_of-in-Some-File.ensures c.file_method-method.ensures)
    c.operation-in-Some-File.ensures

pub returns-in-Some-Instance : goal.returns-in-Some-Instance
returns-in-Some-Instance c =
    let known = subst (λ k. Comes IsNamedKind seen_kind (λ table. kind_of c.args.o) c.args.work.now c.args.work.now (Ok k)) (c.in-Some-Instance.is ∙ ap Some c.in-Some-Instance.field-0-is) c.kind.ensures in
    ends_then (finds c.args.name c.args.o) known (λ table interned extends. refl) c.find_in_instance.ensures

pub returns-in-None : goal.returns-in-None
returns-in-None c =
    let known = subst (λ k. Comes IsNamedKind seen_kind (λ table. kind_of c.args.o) c.args.work.now c.args.work.now (Ok k)) c.in-None.is c.kind.ensures in
    ends_then (finds c.args.name c.args.o) known (λ table interned extends. refl)
    (ends_fault (λ table. not_there) 13 _ c.fault.result c.fault.ensures (λ table interned extends. refl))
