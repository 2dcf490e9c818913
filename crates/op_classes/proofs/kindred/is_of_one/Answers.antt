use Rattle.std.proofs.Common.{refl, ap, true, false}
use Rattle.py_model.specs.Classes.{first_hit}
use Rattle.py_model.specs.Classes.{value_is as plan_value_is}
use Rattle.py_value.specs.Contents.{contents, parts_by}
use Rattle.op_work.specs.Work.{Comes, is_any, as_is}
use Rattle.op_work.proofs.Going.{at_once, comes_as, comes_then, comes_stop, passes_err}
use Rattle.op_work.proofs.Turning.{turns_then, turns_same, turns_more}
use Rattle.op_classes.proofs.FirstKinds.{behind_hit, behind_look, left_is, left_none}
use Rattle.op_classes.proofs.kindred.is_of_one.Goals as goal

pub returns-in_err-look : goal.returns-in_err-look
returns-in_err-look c =
    let vs = c.args.kinds.now in let i = c.loop-i.i in
    passes_err (λ result. Comes is_any as_is (λ table. first_hit (plan_value_is (contents table c.args.v)) (parts_by (contents table) vs)) c.args.work.now c.look.new.self result)
    c.from_residual.result c.from_residual.ensures.1
    (turns_then (turns_same c.loop-i.invariant (λ table interned extends go. left_is c.args.v vs i c.args.v c.loop-i-test.true table go))
    (comes_stop (behind_look c.args.v vs i _) c.in_err-look.ensures))

pub returns-in_err-hit : goal.returns-in_err-hit
returns-in_err-hit c =
    let vs = c.args.kinds.now in let i = c.loop-i.i in
    passes_err (λ result. Comes is_any as_is (λ table. first_hit (plan_value_is (contents table c.args.v)) (parts_by (contents table) vs)) c.args.work.now c.value_is.new.work result)
    c.from_residual-in_err-hit.result c.from_residual-in_err-hit.ensures.1
    (turns_then (turns_same c.loop-i.invariant (λ table interned extends go. left_is c.args.v vs i _ c.loop-i-test.true table go))
    (comes_then (behind_look c.args.v vs i _) c.in_ok-look.ensures (λ table interned extends go. refl) (comes_stop (behind_hit c.args.v vs i) c.in_err-hit.ensures)))

pub returns-then-hit : goal.returns-then-hit
returns-then-hit c =
    let vs = c.args.kinds.now in let i = c.loop-i.i in
    turns_then (turns_same c.loop-i.invariant (λ table interned extends go. left_is c.args.v vs i _ c.loop-i-test.true table go))
    (comes_then (behind_look c.args.v vs i _) c.in_ok-look.ensures (λ table interned extends go. refl) (comes_as (behind_hit c.args.v vs i) true c.in_ok-hit.ensures tt (λ table interned extends go. ap (λ b. behind_hit c.args.v vs i table b go) c.if-hit.true)))

pub loop-i-preserved : goal.loop-i-preserved
loop-i-preserved c =
    let vs = c.args.kinds.now in let i = c.loop-i.i in
    turns_more (behind_hit c.args.v vs i)
    (turns_more (behind_look c.args.v vs i _) (turns_same c.loop-i.invariant (λ table interned extends go. left_is c.args.v vs i _ c.loop-i-test.true table go)) c.in_ok-look.ensures (λ table interned extends go. refl))
    c.in_ok-hit.ensures (λ table interned extends go. ap (λ b. behind_hit c.args.v vs i table b go) c.if-hit.false)

pub returns : goal.returns
returns c = turns_then (turns_same c.loop-i.invariant (λ table interned extends go. left_none c.args.v c.args.kinds.now c.loop-i.i c.loop-i-test.false table go))
    (at_once (λ table go. go false) c.loop-i.work false tt (λ table interned extends go. refl))
