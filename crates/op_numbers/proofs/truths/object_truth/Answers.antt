use Rattle.std.proofs.Common.{refl, sym, ap, subst, ◌∙◌, not, ◌==◌, length, Some, None, Ok}
use Rattle.std.proofs.lemmas.List.{length-map}
use Rattle.object_store.specs.Store.{keys_at}
use Rattle.op_work.specs.Work.{Comes, seen_kind, is_any, as_is}
use Rattle.py_model.specs.Arithmetic.{truth_of}
use Rattle.py_model.specs.Plan.{kind_of}
use Rattle.py_value.specs.Contents.{contents, object}
use Rattle.py_value.specs.Named.{IsNamedKind}
use Rattle.py_value.specs.declared.access.Kind.TheVariants.{Instance, File as FileKind}
use Rattle.op_work.proofs.Going.{comes_then, comes_stop, comes_as, at_once, passes_err}
use Rattle.op_numbers.proofs.TruthPlans.{by_kind}
use Rattle.op_numbers.proofs.truths.object_truth.Goals as goal

pub returns-in_err-n-in-Some-List : goal.returns-in_err-n-in-Some-List
returns-in_err-n-in-Some-List c =
    let known = subst (λ kind. Comes IsNamedKind seen_kind (λ table. kind_of c.args.o) c.args.work.now c.args.work.now (Ok kind)) (c.in-Some-List.is ∙ ap Some c.in-Some-List.field-0-is) c.kind.ensures in
    passes_err (λ result. Comes is_any as_is (λ table. truth_of (object c.args.o)) c.args.work.now c.read_len.new.self result) c.from_residual.result c.from_residual.ensures.1
    (comes_then (λ table kind go. by_kind c.args.o go kind) known (λ table interned extends go. refl) (comes_stop (λ table n go. go (not (n == 0))) c.in_err-n-in-Some-List.ensures))

pub returns-in_ok-n-in-Some-List : goal.returns-in_ok-n-in-Some-List
returns-in_ok-n-in-Some-List c =
    let known = subst (λ kind. Comes IsNamedKind seen_kind (λ table. kind_of c.args.o) c.args.work.now c.args.work.now (Ok kind)) (c.in-Some-List.is ∙ ap Some c.in-Some-List.field-0-is) c.kind.ensures in
    comes_then (λ table kind go. by_kind c.args.o go kind) known (λ table interned extends go. refl)
    (comes_as (λ table n go. go (not (n == 0))) (not (c.in_ok-n-in-Some-List.n == 0)) c.in_ok-n-in-Some-List.ensures tt (λ table interned extends go. refl))

pub returns-in_err-n-in-Some-Dict : goal.returns-in_err-n-in-Some-Dict
returns-in_err-n-in-Some-Dict c =
    let known = subst (λ kind. Comes IsNamedKind seen_kind (λ table. kind_of c.args.o) c.args.work.now c.args.work.now (Ok kind)) (c.in-Some-Dict.is ∙ ap Some c.in-Some-Dict.field-0-is) c.kind.ensures in
    passes_err (λ result. Comes is_any as_is (λ table. truth_of (object c.args.o)) c.args.work.now c.read_order.new.self result) c.from_residual-in_err-n-in-Some-Dict.result c.from_residual-in_err-n-in-Some-Dict.ensures.1
    (comes_then (λ table kind go. by_kind c.args.o go kind) known (λ table interned extends go. refl) (comes_stop (λ table keys go. go (not (length keys == 0))) c.in_err-n-in-Some-Dict.ensures.comes))

pub returns-in_ok-n-in-Some-Dict : goal.returns-in_ok-n-in-Some-Dict
returns-in_ok-n-in-Some-Dict c =
    let known = subst (λ kind. Comes IsNamedKind seen_kind (λ table. kind_of c.args.o) c.args.work.now c.args.work.now (Ok kind)) (c.in-Some-Dict.is ∙ ap Some c.in-Some-Dict.field-0-is) c.kind.ensures in
    comes_then (λ table kind go. by_kind c.args.o go kind) known (λ table interned extends go. refl)
    (comes_as (λ table keys go. go (not (length keys == 0))) (not (c.in_ok-n-in-Some-Dict.n == 0)) c.in_ok-n-in-Some-Dict.ensures.comes tt (λ table interned extends go. ap (λ n. go (not (n == 0))) (length-map (keys_at c.args.work.now.store c.args.o) (contents table) ∙ sym c.in_ok-n-in-Some-Dict.ensures.count)))

pub returns-in-Some-File : goal.returns-in-Some-File
returns-in-Some-File c =
    let known = subst (λ kind. Comes IsNamedKind seen_kind (λ table. kind_of c.args.o) c.args.work.now c.args.work.now (Ok kind)) (c.in-Some-File.is ∙ ap Some c.in-Some-File.field-0-is) c.kind.ensures in
    comes_then (λ table kind go. by_kind c.args.o go kind) known (λ table interned extends go. refl) (at_once (λ table go. by_kind c.args.o go (seen_kind table (Some (FileKind c.in-Some-File.field-0-0 c.in-Some-File.field-0-1)))) c.args.work.now _ tt (λ table interned extends go. refl))

pub returns-in-Some-Instance : goal.returns-in-Some-Instance
returns-in-Some-Instance c =
    let known = subst (λ kind. Comes IsNamedKind seen_kind (λ table. kind_of c.args.o) c.args.work.now c.args.work.now (Ok kind)) (c.in-Some-Instance.is ∙ ap Some c.in-Some-Instance.field-0-is) c.kind.ensures in
    comes_then (λ table kind go. by_kind c.args.o go kind) known (λ table interned extends go. refl) (at_once (λ table go. by_kind c.args.o go (seen_kind table (Some (Instance c.in-Some-Instance.field-0-0)))) c.args.work.now _ tt (λ table interned extends go. refl))

pub returns-in-None : goal.returns-in-None
returns-in-None c =
    let known = subst (λ kind. Comes IsNamedKind seen_kind (λ table. kind_of c.args.o) c.args.work.now c.args.work.now (Ok kind)) (c.in-None.is) c.kind.ensures in
    comes_then (λ table kind go. by_kind c.args.o go kind) known (λ table interned extends go. refl) (at_once (λ table go. by_kind c.args.o go (seen_kind table None)) c.args.work.now _ tt (λ table interned extends go. refl))
