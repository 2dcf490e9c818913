use Rattle.std.proofs.Common.{rules, ◌≡◌, refl, sym, ap, ◌∙◌, length, Some, None}
use Rattle.std.proofs.lemmas.List.{length-map}
use Rattle.object_store.specs.Store.{keys_at}
use Rattle.op_work.specs.Work.{Comes, is_any, as_is, seen_kind}
use Rattle.py_model.specs.Arithmetic.{length_of}
use Rattle.py_value.specs.Contents.{contents, object}
use Rattle.py_value.specs.declared.access.Kind.TheVariants.{List as ListKind, Dict as DictKind, Instance, File as FileKind}
use Rattle.op_work.proofs.Going.{comes_then, comes_as, comes_stop, fault_comes, passes_err}
use Rattle.op_work.proofs.KindOf.{kind_comes}
use Rattle.op_dicts.proofs.OperandPlans.{length_by}
use Rattle.op_dicts.proofs.object_lengths.object_length.Goals as goal

pub returns-in-Some-List : goal.returns-in-Some-List
returns-in-Some-List c = comes_then (length_by c.args.o) (kind_comes c.args.work.now c.args.o (Some ListKind) (sym (c.in-Some-List.is ∙ ap Some c.in-Some-List.field-0-is) ∙ c.kind_there.ensures.kind) c.kind_there.ensures.named) (λ table interned extends go. refl) c.read_len.ensures

pub returns-in_err-count-in-Some-Dict : goal.returns-in_err-count-in-Some-Dict
returns-in_err-count-in-Some-Dict c = passes_err (λ result. Comes is_any as_is (λ table. length_of (object c.args.o)) c.args.work.now c.read_order.new.self result) c.from_residual.result c.from_residual.ensures.1
    (comes_then (length_by c.args.o) (kind_comes c.args.work.now c.args.o (Some DictKind) (sym (c.in-Some-Dict.is ∙ ap Some c.in-Some-Dict.field-0-is) ∙ c.kind_there.ensures.kind) c.kind_there.ensures.named) (λ table interned extends go. refl)
    (comes_stop (λ table keys go. go (length keys)) c.in_err-count-in-Some-Dict.ensures.comes))

pub returns-in_ok-count-in-Some-Dict : goal.returns-in_ok-count-in-Some-Dict
returns-in_ok-count-in-Some-Dict c =
    let same : c.from.result ≡ c.in_ok-count-in-Some-Dict.count = search rules in
    comes_then (length_by c.args.o) (kind_comes c.args.work.now c.args.o (Some DictKind) (sym (c.in-Some-Dict.is ∙ ap Some c.in-Some-Dict.field-0-is) ∙ c.kind_there.ensures.kind) c.kind_there.ensures.named) (λ table interned extends go. refl)
    (comes_as (λ table keys go. go (length keys)) c.from.result c.in_ok-count-in-Some-Dict.ensures.comes tt
    (λ table interned extends go. ap go (length-map (keys_at c.args.work.now.store c.args.o) (contents table) ∙ (sym c.in_ok-count-in-Some-Dict.ensures.count ∙ sym same))))

pub returns-in-Some-Instance : goal.returns-in-Some-Instance
returns-in-Some-Instance c = comes_then (length_by c.args.o)
    (kind_comes c.args.work.now c.args.o (Some (Instance c.in-Some-Instance.field-0-0)) (sym (c.in-Some-Instance.is ∙ ap Some c.in-Some-Instance.field-0-is) ∙ c.kind_there.ensures.kind) c.kind_there.ensures.named) (λ table interned extends go. refl)
    (fault_comes (λ table go. length_by c.args.o table (seen_kind table (Some (Instance c.in-Some-Instance.field-0-0))) go) 9 _ c.fault.result c.fault.ensures (λ table interned extends go. refl))

pub returns-in-Some-File : goal.returns-in-Some-File
returns-in-Some-File c = comes_then (length_by c.args.o)
    (kind_comes c.args.work.now c.args.o (Some (FileKind c.in-Some-File.field-0-0 c.in-Some-File.field-0-1)) (sym (c.in-Some-File.is ∙ ap Some c.in-Some-File.field-0-is) ∙ c.kind_there.ensures.kind) c.kind_there.ensures.named) (λ table interned extends go. refl)
    (fault_comes (λ table go. length_by c.args.o table (seen_kind table (Some (FileKind c.in-Some-File.field-0-0 c.in-Some-File.field-0-1))) go) 9 _ c.fault-in-Some-File.result c.fault-in-Some-File.ensures (λ table interned extends go. refl))

pub returns-in-None : goal.returns-in-None
returns-in-None c = comes_then (length_by c.args.o)
    (kind_comes c.args.work.now c.args.o None (sym c.in-None.is ∙ c.kind_there.ensures.kind) c.kind_there.ensures.named) (λ table interned extends go. refl)
    (fault_comes (λ table go. length_by c.args.o table (seen_kind table None) go) 9 _ c.fault-in-None.result c.fault-in-None.ensures (λ table interned extends go. refl))
