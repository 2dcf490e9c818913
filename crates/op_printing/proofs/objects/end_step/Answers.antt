use Rattle.std.proofs.Common.{refl, sym, ap, subst, false, ◌∷◌, ◌==◌}
use Rattle.py_value.specs.Contents.{contents}
use Rattle.op_work.specs.Work.{Comes}
use Rattle.op_work.proofs.Going.{comes_same, comes_then, comes_stop, passes_err}
use Rattle.op_printing.specs.Forms.{end_step, args_step, comes_inside, whole, next_seen, IsStep}
use Rattle.op_pieces.specs.Pieces.{pieces_bytes, ArePieces}
use Rattle.op_printing.specs.declared.forms.Rest.TheVariants.{Whole}
use Rattle.op_printing.specs.declared.forms.Step.TheVariants.{Rests}
use Rattle.op_printing.proofs.Stepping.{step_after, step_stop}
use Rattle.op_pieces.proofs.Joining.{pieces_stay}
use Rattle.op_printing.proofs.objects.end_step.Goals as goal

pub args_step-requires-clause-pieces : goal.args_step-requires-clause-pieces
args_step-requires-clause-pieces c = pieces_stay c.args.work.now.values c.read_args.new.work.values c.in_ok-args-in-Some.ensures.kept.extends c.args.out.now.items c.requires

pub returns-in_err-push_class_between-in-None : goal.returns-in_err-push_class_between-in-None
returns-in_err-push_class_between-in-None c =
    let inside = c.args.within.now.items in let out = c.push_class_between.new.out.items in
    passes_err (λ result. Comes (λ values step. IsStep values step × ArePieces values out) (next_seen inside out)
    (λ table. end_step c.args.quoted inside (pieces_bytes table c.args.out.now.items) c.args.o (contents table c.args.of) c.args.end) c.args.work.now c.args.work.now result)
    c.from_residual.result c.from_residual.ensures.1
    (comes_same (λ table. end_step c.args.quoted inside (pieces_bytes table c.args.out.now.items) c.args.o (contents table c.args.of) c.args.end)
    (λ table interned extends go. ap (λ end. end_step c.args.quoted inside (pieces_bytes table c.args.out.now.items) c.args.o (contents table c.args.of) end go) c.in-None.is)
    (step_stop _ inside (λ table bytes. comes_inside inside bytes false whole) c.in_err-push_class_between-in-None.ensures))

pub returns-in_ok-push_class_between-in-None : goal.returns-in_ok-push_class_between-in-None
returns-in_ok-push_class_between-in-None c =
    let inside = c.args.within.now.items in
    comes_same (λ table. end_step c.args.quoted inside (pieces_bytes table c.args.out.now.items) c.args.o (contents table c.args.of) c.args.end)
    (λ table interned extends go. ap (λ end. end_step c.args.quoted inside (pieces_bytes table c.args.out.now.items) c.args.o (contents table c.args.of) end go) c.in-None.is)
    (step_after inside (Rests false Whole) (λ table bytes. comes_inside inside bytes false whole) c.in_ok-push_class_between-in-None.ensures tt (λ table interned extends. refl))

pub returns-in_err-args-in-Some : goal.returns-in_err-args-in-Some
returns-in_err-args-in-Some c =
    let inside = c.args.within.now.items in let out = c.args.out.now.items in
    passes_err (λ result. Comes (λ values step. IsStep values step × ArePieces values out) (next_seen inside out)
    (λ table. end_step c.args.quoted inside (pieces_bytes table out) c.args.o (contents table c.args.of) c.args.end) c.args.work.now c.read_args.new.work result)
    c.from_residual-in_err-args-in-Some.result c.from_residual-in_err-args-in-Some.ensures.1
    (comes_same (λ table. end_step c.args.quoted inside (pieces_bytes table out) c.args.o (contents table c.args.of) c.args.end)
    (λ table interned extends go. ap (λ end. end_step c.args.quoted inside (pieces_bytes table out) c.args.o (contents table c.args.of) end go) c.in-Some.is)
    (comes_stop (λ table args go. args_step c.args.quoted (c.in-Some.number == 6) (c.args.o ∷ inside) (pieces_bytes table out) (contents table c.args.of) args go) c.in_err-args-in-Some.ensures))

pub returns-in_ok-enter-in-Some : goal.returns-in_ok-enter-in-Some
returns-in_ok-enter-in-Some c =
    let inside = c.args.within.now.items in let out = c.args.out.now.items in let last = c.args_step.new.out.items in
    subst (λ objects. Comes (λ values step. IsStep values step × ArePieces values last) (next_seen objects last)
    (λ table. end_step c.args.quoted inside (pieces_bytes table out) c.args.o (contents table c.args.of) c.args.end) c.args.work.now c.read_args.new.work c.args_step.result)
    (sym c.in_ok-enter-in-Some.ensures)
    (comes_same (λ table. end_step c.args.quoted inside (pieces_bytes table out) c.args.o (contents table c.args.of) c.args.end)
    (λ table interned extends go. ap (λ end. end_step c.args.quoted inside (pieces_bytes table out) c.args.o (contents table c.args.of) end go) c.in-Some.is)
    (comes_then (λ table args go. args_step c.args.quoted (c.in-Some.number == 6) (c.args.o ∷ inside) (pieces_bytes table out) (contents table c.args.of) args go)
    c.in_ok-args-in-Some.ensures (λ table interned extends go. refl) (c.args_step.ensures (c.args.o ∷ inside))))
