use Rattle.std.proofs.Common.{refl, sym, ap, ◌∙◌, subst, arith, ◌+◌, ◌-◌, true, false, Ok}
use Rattle.py_model.specs.Classes.{longest_chain, class_walk as plan_class_walk}
use Rattle.py_value.specs.Contents.{contents}
use Rattle.op_work.specs.Work.{Comes, is_any, as_is, seen_maybe}
use Rattle.op_work.proofs.Going.{at_once, comes_as, comes_stop, passes_err}
use Rattle.op_classes.proofs.OtherWalks.{none_left}
use Rattle.op_work.proofs.Turning.{turns_none, turns_then, turns_same, turns_more, turns_away}
use Rattle.op_classes.specs.Chains.{next_step, ends_so}
use Rattle.op_classes.proofs.ClassWalks.{onwards, left_ends, left_found, left_on}
use Rattle.op_classes.proofs.chains.class_walk.Goals as goal

pub loop-i-init : goal.loop-i-init
loop-i-init c = turns_none (λ table. plan_class_walk longest_chain (contents table c.args.sought) (contents table c.args.of)) c.args.work.now

pub returns-in-None : goal.returns-in-None
returns-in-None c = turns_then
    (turns_same c.loop-i.invariant (λ table interned extends go. left_ends c.loop-i.i c.args.sought c.loop-i.at c.loop-i-test.true (sym c.class_of.ensures ∙ c.in-None.is) table go))
    (at_once (λ table go. go (ends_so c.args.sought c.loop-i.at)) c.loop-i.work c.meets.result tt (λ table interned extends go. ap go (sym c.meets.ensures)))

pub returns-then-is_at : goal.returns-then-is_at
returns-then-is_at c = turns_then
    (turns_same c.loop-i.invariant (λ table interned extends go. left_found c.loop-i.i c.args.sought c.loop-i.at c.in-Some.place c.loop-i-test.true (sym c.class_of.ensures ∙ c.in-Some.is)
    (sym c.is_at.ensures ∙ c.if-is_at.true) table go))
    (at_once (λ table go. go true) c.loop-i.work true tt (λ table interned extends go. refl))

pub returns-in_err-next_of-in-Some : goal.returns-in_err-next_of-in-Some
returns-in_err-next_of-in-Some c = passes_err
    (λ result. Comes is_any as_is (λ table. plan_class_walk longest_chain (contents table c.args.sought) (contents table c.args.of)) c.args.work.now c.next_of.new.work result)
    c.from_residual.result c.from_residual.ensures.1
    (turns_then
    (turns_same c.loop-i.invariant (λ table interned extends go. left_on c.loop-i.i c.args.sought c.loop-i.at c.in-Some.place c.loop-i-test.true (sym c.class_of.ensures ∙ c.in-Some.is)
    (sym c.is_at.ensures ∙ c.if-is_at.false) table go))
    (comes_stop (onwards (longest_chain - (c.loop-i.i + 1)) c.args.sought) c.in_err-next_of-in-Some.ensures))

pub returns-in-None-2 : goal.returns-in-None-2
returns-in-None-2 c =
    let read = subst (λ v. Comes is_any seen_maybe (λ table. next_step c.in-Some.place) c.loop-i.work c.next_of.new.work (Ok v)) c.in-None-2.is c.in_ok-next_of-in-Some.ensures in
    turns_then
    (turns_same c.loop-i.invariant (λ table interned extends go. left_on c.loop-i.i c.args.sought c.loop-i.at c.in-Some.place c.loop-i-test.true (sym c.class_of.ensures ∙ c.in-Some.is)
    (sym c.is_at.ensures ∙ c.if-is_at.false) table go))
    (comes_as (onwards (longest_chain - (c.loop-i.i + 1)) c.args.sought) false read tt (λ table interned extends go. refl))

pub loop-i-preserved : goal.loop-i-preserved
loop-i-preserved c =
    let read = subst (λ v. Comes is_any seen_maybe (λ table. next_step c.in-Some.place) c.loop-i.work c.next_of.new.work (Ok v)) c.in-Some-2.is c.in_ok-next_of-in-Some.ensures in
    turns_more (onwards (longest_chain - (c.loop-i.i + 1)) c.args.sought)
    (turns_same c.loop-i.invariant (λ table interned extends go. left_on c.loop-i.i c.args.sought c.loop-i.at c.in-Some.place c.loop-i-test.true (sym c.class_of.ensures ∙ c.in-Some.is)
    (sym c.is_at.ensures ∙ c.if-is_at.false) table go))
    read (λ table interned extends go. refl)

pub returns : goal.returns
returns c = turns_away (turns_same c.loop-i.invariant (λ table interned extends go. ap (λ n. plan_class_walk n (contents table c.args.sought) (contents table c.loop-i.at) go) (none_left c.loop-i.i (omega (arith, c.loop-i-test.false)))))
