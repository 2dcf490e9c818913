use Rattle.std.proofs.Common.{refl, sym, ap, ◌∙◌, subst, arith, ◌+◌, ◌-◌, None, Ok}
use Rattle.py_model.specs.Classes.{longest_chain, chain_end, end_of_chain as plan_end}
use Rattle.py_value.specs.Contents.{contents}
use Rattle.op_work.specs.Work.{Comes, is_any, as_is, seen_maybe}
use Rattle.op_work.proofs.Going.{at_once, comes_as, comes_stop, passes_err}
use Rattle.op_work.proofs.Turning.{turns_none, turns_then, turns_same, turns_more, turns_away}
use Rattle.op_classes.specs.Chains.{next_step, exception_in}
use Rattle.op_classes.proofs.OtherWalks.{end_onwards, end_here, end_on, none_left}
use Rattle.op_classes.proofs.chains.end_of_chain.Goals as goal

pub loop-i-init : goal.loop-i-init
loop-i-init c = turns_none (λ table. plan_end (contents table c.args.of)) c.args.work.now

pub returns-in-None : goal.returns-in-None
returns-in-None c = turns_then
    (turns_same c.loop-i.invariant (λ table interned extends go. end_here c.loop-i.i c.loop-i.at c.loop-i-test.true (sym c.class_of.ensures ∙ c.in-None.is) table go))
    (at_once (λ table go. go (exception_in c.loop-i.at)) c.loop-i.work c.exception_of.result tt (λ table interned extends go. ap go (sym c.exception_of.ensures)))

pub returns-in_err-next_of-in-Some : goal.returns-in_err-next_of-in-Some
returns-in_err-next_of-in-Some c = passes_err (λ result. Comes is_any as_is (λ table. plan_end (contents table c.args.of)) c.args.work.now c.next_of.new.work result)
    c.from_residual.result c.from_residual.ensures.1
    (turns_then (turns_same c.loop-i.invariant (λ table interned extends go. end_on c.loop-i.i c.loop-i.at c.in-Some.place c.loop-i-test.true (sym c.class_of.ensures ∙ c.in-Some.is) table go))
    (comes_stop (end_onwards (longest_chain - (c.loop-i.i + 1))) c.in_err-next_of-in-Some.ensures))

pub returns-in-None-2 : goal.returns-in-None-2
returns-in-None-2 c =
    let read = subst (λ v. Comes is_any seen_maybe (λ table. next_step c.in-Some.place) c.loop-i.work c.next_of.new.work (Ok v)) c.in-None-2.is c.in_ok-next_of-in-Some.ensures in
    turns_then (turns_same c.loop-i.invariant (λ table interned extends go. end_on c.loop-i.i c.loop-i.at c.in-Some.place c.loop-i-test.true (sym c.class_of.ensures ∙ c.in-Some.is) table go))
    (comes_as (end_onwards (longest_chain - (c.loop-i.i + 1))) None read tt (λ table interned extends go. refl))

pub loop-i-preserved : goal.loop-i-preserved
loop-i-preserved c =
    let read = subst (λ v. Comes is_any seen_maybe (λ table. next_step c.in-Some.place) c.loop-i.work c.next_of.new.work (Ok v)) c.in-Some-2.is c.in_ok-next_of-in-Some.ensures in
    turns_more (end_onwards (longest_chain - (c.loop-i.i + 1)))
    (turns_same c.loop-i.invariant (λ table interned extends go. end_on c.loop-i.i c.loop-i.at c.in-Some.place c.loop-i-test.true (sym c.class_of.ensures ∙ c.in-Some.is) table go))
    read (λ table interned extends go. refl)

pub returns : goal.returns
returns c = turns_away (turns_same c.loop-i.invariant (λ table interned extends go. ap (λ n. chain_end n (contents table c.loop-i.at) go) (none_left c.loop-i.i (omega (arith, c.loop-i-test.false)))))
