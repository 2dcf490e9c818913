use Rattle.std.proofs.Common.{sym, ap}
use Rattle.py_value.specs.Contents.{contents}
use Rattle.op_texts.proofs.Taken.{named_stays}
use Rattle.op_work.specs.Work.{Comes}
use Rattle.op_work.proofs.Going.{comes_same, passes_err}
use Rattle.op_printing.specs.Forms.{args_step, call_next, next_seen, IsStep}
use Rattle.op_pieces.specs.Pieces.{pieces_bytes, ArePieces}
use Rattle.op_printing.proofs.Stepping.{step_after, step_stop}
use Rattle.op_printing.proofs.objects.args_step.Goals as goal

pub returns-in_err-push_class_between : goal.returns-in_err-push_class_between
returns-in_err-push_class_between c = λ inside.
    let out = c.push_class_between.new.out.items in
    passes_err (λ result. Comes (λ values step. IsStep values step × ArePieces values out) (next_seen inside out)
    (λ table. args_step c.args.quoted c.args.is_key inside (pieces_bytes table c.args.out.now.items) (contents table c.args.of) (contents table c.args.args)) c.args.work.now c.args.work.now result)
    c.from_residual.result c.from_residual.ensures.1
    (comes_same (λ table. args_step c.args.quoted c.args.is_key inside (pieces_bytes table c.args.out.now.items) (contents table c.args.of) (contents table c.args.args))
    (λ table interned extends go. ap (λ q. args_step q c.args.is_key inside (pieces_bytes table c.args.out.now.items) (contents table c.args.of) (contents table c.args.args) go) c.if-quoted.true)
    (step_stop _ inside (λ table bytes. call_next inside bytes (contents table c.args.args)) c.in_err-push_class_between.ensures))

pub returns-then-quoted : goal.returns-then-quoted
returns-then-quoted c = λ inside.
    comes_same (λ table. args_step c.args.quoted c.args.is_key inside (pieces_bytes table c.args.out.now.items) (contents table c.args.of) (contents table c.args.args))
    (λ table interned extends go. ap (λ q. args_step q c.args.is_key inside (pieces_bytes table c.args.out.now.items) (contents table c.args.of) (contents table c.args.args) go) c.if-quoted.true)
    (step_after inside c.call_step.result (λ table bytes. call_next inside bytes (contents table c.args.args)) c.in_ok-push_class_between.ensures (c.call_step.ensures.named c.args.work.now.values c.requires.named)
    (λ table interned extends. sym (c.call_step.ensures.step table inside c.push_class_between.new.out.items interned (named_stays c.args.work.now.values table extends c.args.args c.requires.named))))
