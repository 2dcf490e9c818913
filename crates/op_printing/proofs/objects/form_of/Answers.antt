use Rattle.std.proofs.Common.{sym, ap, subst, arith, ◌+◌, ◌-◌, Ok}
use Rattle.py_model.specs.Classes.{longest_chain}
use Rattle.py_value.specs.Contents.{contents}
use Rattle.op_classes.proofs.OtherWalks.{none_left}
use Rattle.op_work.specs.Work.{Comes}
use Rattle.op_work.proofs.Going.{comes_as, comes_stop, passes_err}
use Rattle.op_work.proofs.Turning.{turns_none, turns_same, turns_then, turns_more, turns_away}
use Rattle.op_printing.specs.Forms.{one_step, form_of, form_at, found_seen, inner_seen, next_seen, IsStep, IsRest}
use Rattle.op_pieces.specs.Pieces.{pieces_bytes, ArePieces}
use Rattle.op_printing.proofs.Stepping.{onwards, form_starts, form_left}
use Rattle.op_printing.proofs.objects.form_of.Goals as goal

pub loop-i-init : goal.loop-i-init
loop-i-init c = (
  turns_same (turns_none (λ table. form_of c.args.quoted c.args.within.now.items (pieces_bytes table c.args.out.now.items) (contents table c.args.v)) c.args.work.now)
      (λ table interned extends go. form_starts c.args.quoted c.args.within.now.items (pieces_bytes table c.args.out.now.items) (contents table c.args.v) go),
  (c.requires.pieces, (c.requires.named, omega (arith))),
)

pub returns-in_err-closes : goal.returns-in_err-closes
returns-in_err-closes c =
    let i = c.loop-i.i in let inside = c.loop-i.within.items in let out = c.loop-i.out.items in
    passes_err (λ result. Comes (λ values form. IsRest values form.rest × ArePieces values c.one_step.new.out.items) (found_seen c.one_step.new.within.items c.one_step.new.out.items)
    (λ table. form_of c.args.quoted c.args.within.now.items (pieces_bytes table c.args.out.now.items) (contents table c.args.v)) c.args.work.now c.one_step.new.work result)
    c.from_residual.result c.from_residual.ensures.1
    (turns_then (turns_same c.loop-i.invariant.0 (λ table interned extends go. form_left i c.loop-i.closers c.loop-i.literal inside (pieces_bytes table out) (contents table c.loop-i.at) go c.loop-i-test.true))
    (comes_stop (λ table next go. onwards (longest_chain - (i + 1)) c.loop-i.closers next go) c.in_err-closes.ensures))

pub returns-in-Rests : goal.returns-in-Rests
returns-in-Rests c =
    let i = c.loop-i.i in let inside = c.loop-i.within.items in let out = c.loop-i.out.items in let within = c.one_step.new.within.items in let last = c.one_step.new.out.items in
    let came = subst (λ step. Comes (λ values step. IsStep values step × ArePieces values last) (next_seen within last)
    (λ table. one_step c.loop-i.literal inside (pieces_bytes table out) (contents table c.loop-i.at)) c.loop-i.work c.one_step.new.work (Ok step)) c.in-Rests.is c.in_ok-closes.ensures in
    turns_then (turns_same c.loop-i.invariant.0 (λ table interned extends go. form_left i c.loop-i.closers c.loop-i.literal inside (pieces_bytes table out) (contents table c.loop-i.at) go c.loop-i-test.true))
    (comes_as (λ table next go. onwards (longest_chain - (i + 1)) c.loop-i.closers next go) _ came came.is_named
    (λ table interned extends go. ap (λ n. go (record { inside = within; before = pieces_bytes table last; closers = n; inner = inner_seen table c.in-Rests.rest })) (sym c.with_closer-closers.ensures.count)))

pub loop-i-preserved : goal.loop-i-preserved
loop-i-preserved c =
    let i = c.loop-i.i in let inside = c.loop-i.within.items in let out = c.loop-i.out.items in let within = c.one_step.new.within.items in let last = c.one_step.new.out.items in
    let came = subst (λ step. Comes (λ values step. IsStep values step × ArePieces values last) (next_seen within last)
    (λ table. one_step c.loop-i.literal inside (pieces_bytes table out) (contents table c.loop-i.at)) c.loop-i.work c.one_step.new.work (Ok step)) c.in-Again.is c.in_ok-closes.ensures in (
      turns_more (λ table next go. onwards (longest_chain - (i + 1)) c.loop-i.closers next go)
          (turns_same c.loop-i.invariant.0 (λ table interned extends go. form_left i c.loop-i.closers c.loop-i.literal inside (pieces_bytes table out) (contents table c.loop-i.at) go c.loop-i-test.true))
          came (λ table interned extends go. ap (λ n. form_at (longest_chain - (i + 1)) n c.in-Again.next within (pieces_bytes table last) (contents table c.in-Again.w) go) (sym c.with_closer-closers-in-Again.ensures.count)),
      (came.is_named.1, (came.is_named.0, omega (arith, c.with_closer-closers-in-Again.ensures.few, c.loop-i.invariant.1.1.1))),
    )

pub returns : goal.returns
returns c = turns_away (turns_same c.loop-i.invariant.0
    (λ table interned extends go. ap (λ n. form_at n c.loop-i.closers c.loop-i.literal c.loop-i.within.items (pieces_bytes table c.loop-i.out.items) (contents table c.loop-i.at) go) (none_left c.loop-i.i (omega (arith, c.loop-i-test.false)))))
