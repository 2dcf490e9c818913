use Rattle.std.proofs.Common.{refl, sym, ap, subst, ◌∙◌, false, ℕ, List, Bool, Option, Some, None, Ok}
use Rattle.py_model.specs.Plan.{Plan, kind_of}
use Rattle.py_value.specs.Named.{IsNamedKind}
use Rattle.py_value.specs.Seen.{SeenKind}
use Rattle.py_value.specs.Values.{ValuesView}
use Rattle.op_work.specs.Work.{Comes, seen_kind}
use Rattle.op_work.proofs.Going.{comes_then, comes_as, fault_comes, passes_err}
use Rattle.op_printing.specs.Forms.{Next, object_step, comes_inside, whole, next_seen, IsStep}
use Rattle.op_pieces.specs.Pieces.{pieces_bytes, ArePieces}
use Rattle.op_printing.specs.declared.forms.Rest.TheVariants.{Whole}
use Rattle.op_printing.specs.declared.forms.Step.TheVariants.{Rests}
use Rattle.op_pieces.specs.declared.pieces.Piece.{Piece}
use Rattle.op_printing.proofs.Stepping.{step_after, step_stop}
use Rattle.op_printing.proofs.objects.object_step.Goals as goal

abbrev by_kind : Bool → List ℕ → List Piece → ℕ → ValuesView → Option SeenKind → (Next → Plan) → Plan
by_kind quoted inside out o table kind go = object_step quoted inside (pieces_bytes table out) o kind go

pub returns-in-None : goal.returns-in-None
returns-in-None c =
    let known = subst (λ kind. Comes IsNamedKind seen_kind (λ table. kind_of c.args.o) c.args.work.now c.args.work.now (Ok kind)) c.in-None.is c.kind.ensures in
    comes_then (by_kind c.args.quoted c.args.within.now.items c.args.out.now.items c.args.o) known (λ table interned extends go. refl)
    (fault_comes (λ table go. by_kind c.args.quoted c.args.within.now.items c.args.out.now.items c.args.o table (seen_kind table None) go) 9 _ c.fault.result c.fault.ensures (λ table interned extends go. refl))

pub returns-in_ok-step-in-Some-List : goal.returns-in_ok-step-in-Some-List
returns-in_ok-step-in-Some-List c =
    let known = subst (λ kind. Comes IsNamedKind seen_kind (λ table. kind_of c.args.o) c.args.work.now c.args.work.now (Ok kind)) (c.in-Some-List.is ∙ ap Some c.in-Some-List.field-0-is) c.kind.ensures in
    comes_as (by_kind c.args.quoted c.args.within.now.items c.args.out.now.items c.args.o) c.in_ok-step-in-Some-List.step known
    (c.in_ok-step-in-Some-List.ensures.named c.args.work.now.values tt c.requires) (λ table interned extends go. ap go (sym (c.in_ok-step-in-Some-List.ensures.step table)))

pub returns-in_ok-step-in-Some-Dict : goal.returns-in_ok-step-in-Some-Dict
returns-in_ok-step-in-Some-Dict c =
    let known = subst (λ kind. Comes IsNamedKind seen_kind (λ table. kind_of c.args.o) c.args.work.now c.args.work.now (Ok kind)) (c.in-Some-Dict.is ∙ ap Some c.in-Some-Dict.field-0-is) c.kind.ensures in
    comes_as (by_kind c.args.quoted c.args.within.now.items c.args.out.now.items c.args.o) c.in_ok-step-in-Some-Dict.step known
    (c.in_ok-step-in-Some-Dict.ensures.named c.args.work.now.values tt c.requires) (λ table interned extends go. ap go (sym (c.in_ok-step-in-Some-Dict.ensures.step table)))

pub returns-in-Some-Instance : goal.returns-in-Some-Instance
returns-in-Some-Instance c =
    let known = subst (λ kind. Comes IsNamedKind seen_kind (λ table. kind_of c.args.o) c.args.work.now c.args.work.now (Ok kind)) (c.in-Some-Instance.is ∙ ap Some c.in-Some-Instance.field-0-is) c.kind.ensures in
    comes_then (by_kind c.args.quoted c.args.within.now.items c.args.out.now.items c.args.o) known (λ table interned extends go. refl) c.instance_step.ensures

pub returns-in_err-push_file-in-Some-File : goal.returns-in_err-push_file-in-Some-File
returns-in_err-push_file-in-Some-File c =
    let inside = c.args.within.now.items in let out = c.push_file.new.out.items in
    let known = subst (λ kind. Comes IsNamedKind seen_kind (λ table. kind_of c.args.o) c.args.work.now c.args.work.now (Ok kind)) (c.in-Some-File.is ∙ ap Some c.in-Some-File.field-0-is) c.kind.ensures in
    passes_err (λ result. Comes (λ values step. IsStep values step × ArePieces values out) (next_seen inside out)
    (λ table (go : Next → Plan). kind_of c.args.o (λ kind. object_step c.args.quoted inside (pieces_bytes table c.args.out.now.items) c.args.o kind go)) c.args.work.now c.args.work.now result)
    c.from_residual-in_err-push_file-in-Some-File.result c.from_residual-in_err-push_file-in-Some-File.ensures.1
    (comes_then (by_kind c.args.quoted inside c.args.out.now.items c.args.o) known (λ table interned extends go. refl)
    (step_stop _ inside (λ table bytes. comes_inside inside bytes false whole) c.in_err-push_file-in-Some-File.ensures))

pub returns-in_ok-push_file-in-Some-File : goal.returns-in_ok-push_file-in-Some-File
returns-in_ok-push_file-in-Some-File c =
    let inside = c.args.within.now.items in
    let known = subst (λ kind. Comes IsNamedKind seen_kind (λ table. kind_of c.args.o) c.args.work.now c.args.work.now (Ok kind)) (c.in-Some-File.is ∙ ap Some c.in-Some-File.field-0-is) c.kind.ensures in
    comes_then (by_kind c.args.quoted inside c.args.out.now.items c.args.o) known (λ table interned extends go. refl)
    (step_after inside (Rests false Whole) (λ table bytes. comes_inside inside bytes false whole) c.in_ok-push_file-in-Some-File.ensures tt (λ table interned extends. refl))
