use Rattle.std.proofs.Common.{rules, refl, arith, ℕ, Option, Some, None}
use Rattle.py_model.specs.Plan.{Plan}
use Rattle.op_work.specs.Work.{Comes, is_any, as_is}
use Rattle.op_work.proofs.EntryReads.{named_on}
use Rattle.op_work.proofs.Going.{comes_stop, comes_as, at_once, passes_err, extends_then}
use Rattle.op_work.proofs.Turning.{turns_then, turns_more, turns_same}
use Rattle.py_model.specs.Lists.{seek}
use Rattle.py_value.specs.Contents.{contents}
use Rattle.op_compare.proofs.Seeking.{decides, next, left_is, left_more, left_hit, left_none}
use Rattle.op_compare.proofs.items.seek.Goals as goal

pub returns-in_err-item : goal.returns-in_err-item
returns-in_err-item c =
    let n = c.args.n in let o = c.args.o in let v = c.args.v in let i = c.loop-i.i in
    passes_err (λ result. Comes is_any as_is (λ table. seek n o 0 (contents table v)) c.args.work.now c.value_at.new.work result)
    c.from_residual.result c.from_residual.ensures.1
    (turns_then (turns_same c.loop-i.invariant (λ table interned extends go. left_is n o v i table c.loop-i-test.true go))
    (comes_stop (next n o v i) c.in_err-item.ensures))

pub equals-requires-clause-one : goal.equals-requires-clause-one
equals-requires-clause-one c = named_on (extends_then c.loop-i.invariant.kept.extends c.value_at.ensures.kept.extends) c.args.v c.requires

pub returns-in_err-same : goal.returns-in_err-same
returns-in_err-same c =
    let n = c.args.n in let o = c.args.o in let v = c.args.v in let i = c.loop-i.i in
    passes_err (λ result. Comes is_any as_is (λ table. seek n o 0 (contents table v)) c.args.work.now c.equals.new.work result)
    c.from_residual-in_err-same.result c.from_residual-in_err-same.ensures.1
    (turns_then (turns_more (next n o v i)
    (turns_same c.loop-i.invariant (λ table interned extends go. left_is n o v i table c.loop-i-test.true go))
    c.in_ok-item.ensures (λ table interned extends go. refl))
    (comes_stop (decides n o v i) c.in_err-same.ensures))

pub returns-then-same : goal.returns-then-same
returns-then-same c =
    let n = c.args.n in let o = c.args.o in let v = c.args.v in let i = c.loop-i.i in
    turns_then (turns_more (next n o v i)
    (turns_same c.loop-i.invariant (λ table interned extends go. left_is n o v i table c.loop-i-test.true go))
    c.in_ok-item.ensures (λ table interned extends go. refl))
    (comes_as (decides n o v i) (Some i) c.in_ok-same.ensures tt (λ table interned extends go. left_hit n o v i table c.in_ok-same.same (search (rules, c.if-same.true)) go))

pub loop-i-preserved : goal.loop-i-preserved
loop-i-preserved c =
    let n = c.args.n in let o = c.args.o in let v = c.args.v in let i = c.loop-i.i in
    turns_more (decides n o v i) (turns_more (next n o v i)
    (turns_same c.loop-i.invariant (λ table interned extends go. left_is n o v i table c.loop-i-test.true go))
    c.in_ok-item.ensures (λ table interned extends go. refl))
    c.in_ok-same.ensures (λ table interned extends go. left_more n o v i table c.in_ok-same.same (search (rules, c.if-same.false)) go)

pub returns : goal.returns
returns c =
    let n = c.args.n in let o = c.args.o in let v = c.args.v in let i = c.loop-i.i in
    turns_then (turns_same {r = λ table (go : Option ℕ → Plan). go None} c.loop-i.invariant (λ table interned extends go. left_none n o v i table (omega (arith, c.loop-i-test.false)) go))
    (at_once (λ table go. go None) c.loop-i.work None tt (λ table interned extends go. refl))
