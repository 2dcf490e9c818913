use Rattle.std.proofs.Common.{refl, ap, false}
use Rattle.py_value.specs.Contents.{contents}
use Rattle.op_work.specs.Work.{Comes}
use Rattle.op_work.proofs.Going.{comes_same, passes_err}
use Rattle.op_printing.specs.Forms.{one_step, comes_inside, whole, next_seen, IsStep}
use Rattle.op_pieces.specs.Pieces.{pieces_bytes, ArePieces}
use Rattle.op_printing.specs.declared.forms.Rest.TheVariants.{Whole}
use Rattle.op_printing.specs.declared.forms.Step.TheVariants.{Rests}
use Rattle.op_printing.proofs.Stepping.{step_after, step_stop, plain_step}
use Rattle.op_printing.proofs.objects.one_step.Goals as goal

pub returns-in-Object : goal.returns-in-Object
returns-in-Object c = comes_same (λ table. one_step c.args.quoted c.args.within.now.items (pieces_bytes table c.args.out.now.items) (contents table c.args.v))
    (λ table interned extends go. ap (λ v. one_step c.args.quoted c.args.within.now.items (pieces_bytes table c.args.out.now.items) (contents table v) go) c.in-Object.is) c.object_step.ensures

pub returns-in_err-push_plain-in_default : goal.returns-in_err-push_plain-in_default
returns-in_err-push_plain-in_default c =
    let inside = c.args.within.now.items in let out = c.push_plain.new.out.items in
    passes_err (λ result. Comes (λ values step. IsStep values step × ArePieces values out) (next_seen inside out)
    (λ table. one_step c.args.quoted inside (pieces_bytes table c.args.out.now.items) (contents table c.args.v)) c.args.work.now c.args.work.now result)
    c.from_residual.result c.from_residual.ensures.1
    (comes_same (λ table. one_step c.args.quoted inside (pieces_bytes table c.args.out.now.items) (contents table c.args.v))
    (λ table interned extends go. plain_step c.args.quoted inside (pieces_bytes table c.args.out.now.items) table c.args.v go c.in_default.not-Tuple c.in_default.not-Object)
    (step_stop _ inside (λ table bytes. comes_inside inside bytes false whole) c.in_err-push_plain-in_default.ensures))

pub returns-in_ok-push_plain-in_default : goal.returns-in_ok-push_plain-in_default
returns-in_ok-push_plain-in_default c =
    let inside = c.args.within.now.items in
    comes_same (λ table. one_step c.args.quoted inside (pieces_bytes table c.args.out.now.items) (contents table c.args.v))
    (λ table interned extends go. plain_step c.args.quoted inside (pieces_bytes table c.args.out.now.items) table c.args.v go c.in_default.not-Tuple c.in_default.not-Object)
    (step_after inside (Rests false Whole) (λ table bytes. comes_inside inside bytes false whole) c.in_ok-push_plain-in_default.ensures tt (λ table interned extends. refl))
