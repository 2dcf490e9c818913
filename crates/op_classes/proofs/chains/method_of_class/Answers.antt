use Rattle.std.proofs.Common.{refl, sym, ap, ◌∙◌, subst, arith, ◌+◌, ◌-◌, Some, None, Ok}
use Rattle.py_model.specs.Classes.{longest_chain, method_walk, method_of_class as plan_method}
use Rattle.py_model.specs.Plan.{read_method as plan_read}
use Rattle.py_value.specs.Contents.{contents}
use Rattle.py_value.specs.Seen.{bytes_of}
use Rattle.op_work.specs.Work.{Comes, is_any, as_is, seen_maybe}
use Rattle.op_work.proofs.Going.{at_once, comes_as, comes_stop, passes_err}
use Rattle.op_work.proofs.Turning.{turns_none, turns_then, turns_same, turns_more, turns_away}
use Rattle.op_classes.specs.Chains.{next_step}
use Rattle.op_classes.proofs.OtherWalks.{method_onwards, behind_method, method_here, method_on, none_left}
use Rattle.op_classes.proofs.chains.method_of_class.Goals as goal

pub loop-i-init : goal.loop-i-init
loop-i-init c = turns_none (λ table. plan_method (bytes_of table c.args.name) (contents table c.args.of)) c.args.work.now

pub returns-in-None : goal.returns-in-None
returns-in-None c = turns_then
    (turns_same c.loop-i.invariant (λ table interned extends go. method_here c.loop-i.i c.args.name c.loop-i.at c.loop-i-test.true (sym c.class_of.ensures ∙ c.in-None.is) table go))
    (at_once (λ table go. go None) c.loop-i.work None tt (λ table interned extends go. refl))

pub read_method-requires : goal.read_method-requires
read_method-requires c = omega (arith, c.requires.name, c.loop-i.invariant.kept.extends.few.0)

pub returns : goal.returns
returns c = turns_away (turns_same c.loop-i.invariant (λ table interned extends go. ap (λ n. method_walk n (bytes_of table c.args.name) (contents table c.loop-i.at) go) (none_left c.loop-i.i (omega (arith, c.loop-i-test.false)))))

pub returns-in_err-method-in-Some : goal.returns-in_err-method-in-Some
returns-in_err-method-in-Some c =
    let n = longest_chain - (c.loop-i.i + 1) in
    let on = turns_same c.loop-i.invariant (λ table interned extends go. method_on c.loop-i.i c.args.name c.loop-i.at c.in-Some.place c.loop-i-test.true (sym c.class_of.ensures ∙ c.in-Some.is) table go) in
    passes_err (λ result. Comes is_any as_is (λ table. plan_method (bytes_of table c.args.name) (contents table c.args.of)) c.args.work.now c.read_method.new.self result)
    c.from_residual.result c.from_residual.ensures.1
    (turns_then on (comes_stop (behind_method n c.args.name c.in-Some.place) c.in_err-method-in-Some.ensures))

pub returns-in-Some-method : goal.returns-in-Some-method
returns-in-Some-method c =
    let n = longest_chain - (c.loop-i.i + 1) in
    let on = turns_same c.loop-i.invariant (λ table interned extends go. method_on c.loop-i.i c.args.name c.loop-i.at c.in-Some.place c.loop-i-test.true (sym c.class_of.ensures ∙ c.in-Some.is) table go) in
    let set = subst (λ v. Comes is_any as_is (λ table. plan_read c.in-Some.place (bytes_of table c.args.name)) c.loop-i.work c.read_method.new.self (Ok v)) c.in-Some-method.is c.in_ok-method-in-Some.ensures in
    turns_then on (comes_as (behind_method n c.args.name c.in-Some.place) (Some c.in-Some-method.found) set tt (λ table interned extends go. refl))

pub returns-in_err-next_of-in-Some : goal.returns-in_err-next_of-in-Some
returns-in_err-next_of-in-Some c =
    let n = longest_chain - (c.loop-i.i + 1) in
    let on = turns_same c.loop-i.invariant (λ table interned extends go. method_on c.loop-i.i c.args.name c.loop-i.at c.in-Some.place c.loop-i-test.true (sym c.class_of.ensures ∙ c.in-Some.is) table go) in
    let unset = subst (λ v. Comes is_any as_is (λ table. plan_read c.in-Some.place (bytes_of table c.args.name)) c.loop-i.work c.read_method.new.self (Ok v)) c.in_default.is c.in_ok-method-in-Some.ensures in
    let further = turns_more {r = λ table go. next_step c.in-Some.place (λ x. method_onwards n c.args.name table x go)} (behind_method n c.args.name c.in-Some.place) on unset (λ table interned extends go. refl) in
    passes_err (λ result. Comes is_any as_is (λ table. plan_method (bytes_of table c.args.name) (contents table c.args.of)) c.args.work.now c.next_of.new.work result)
    c.from_residual-in_err-next_of-in-Some.result c.from_residual-in_err-next_of-in-Some.ensures.1
    (turns_then further (comes_stop (method_onwards n c.args.name) c.in_err-next_of-in-Some.ensures))

pub returns-in-None-2 : goal.returns-in-None-2
returns-in-None-2 c =
    let n = longest_chain - (c.loop-i.i + 1) in
    let on = turns_same c.loop-i.invariant (λ table interned extends go. method_on c.loop-i.i c.args.name c.loop-i.at c.in-Some.place c.loop-i-test.true (sym c.class_of.ensures ∙ c.in-Some.is) table go) in
    let unset = subst (λ v. Comes is_any as_is (λ table. plan_read c.in-Some.place (bytes_of table c.args.name)) c.loop-i.work c.read_method.new.self (Ok v)) c.in_default.is c.in_ok-method-in-Some.ensures in
    let further = turns_more {r = λ table go. next_step c.in-Some.place (λ x. method_onwards n c.args.name table x go)} (behind_method n c.args.name c.in-Some.place) on unset (λ table interned extends go. refl) in
    let read = subst (λ v. Comes is_any seen_maybe (λ table. next_step c.in-Some.place) c.read_method.new.self c.next_of.new.work (Ok v)) c.in-None-2.is c.in_ok-next_of-in-Some.ensures in
    turns_then further (comes_as (method_onwards n c.args.name) None read tt (λ table interned extends go. refl))

pub loop-i-preserved : goal.loop-i-preserved
loop-i-preserved c =
    let n = longest_chain - (c.loop-i.i + 1) in
    let on = turns_same c.loop-i.invariant (λ table interned extends go. method_on c.loop-i.i c.args.name c.loop-i.at c.in-Some.place c.loop-i-test.true (sym c.class_of.ensures ∙ c.in-Some.is) table go) in
    let unset = subst (λ v. Comes is_any as_is (λ table. plan_read c.in-Some.place (bytes_of table c.args.name)) c.loop-i.work c.read_method.new.self (Ok v)) c.in_default.is c.in_ok-method-in-Some.ensures in
    let further = turns_more {r = λ table go. next_step c.in-Some.place (λ x. method_onwards n c.args.name table x go)} (behind_method n c.args.name c.in-Some.place) on unset (λ table interned extends go. refl) in
    let read = subst (λ v. Comes is_any seen_maybe (λ table. next_step c.in-Some.place) c.read_method.new.self c.next_of.new.work (Ok v)) c.in-Some-2.is c.in_ok-next_of-in-Some.ensures in
    turns_more (method_onwards n c.args.name) further read (λ table interned extends go. refl)
