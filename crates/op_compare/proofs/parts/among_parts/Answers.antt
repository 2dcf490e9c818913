use Rattle.std.proofs.Common.{rules, refl, arith, true, false, Bool}
use Rattle.op_lists.specs.Parts.{parts_in}
use Rattle.op_lists.proofs.TupleParts.{more_tuples}
use Rattle.op_work.specs.Work.{Comes, is_any, as_is}
use Rattle.op_work.proofs.EntryReads.{named_on}
use Rattle.op_work.proofs.Going.{comes_stop, comes_as, at_once, passes_err, extends_then}
use Rattle.op_work.proofs.Turning.{turns_then, turns_more, turns_same}
use Rattle.py_model.specs.Arithmetic.{among_parts}
use Rattle.py_model.specs.Plan.{Plan}
use Rattle.py_value.specs.Contents.{contents}
use Rattle.op_compare.proofs.PartSearch.{decides, next, left_is, left_more, left_hit, left_none, within_items}
use Rattle.op_compare.proofs.parts.among_parts.Goals as goal

pub returns-in_err-item : goal.returns-in_err-item
returns-in_err-item c =
    let id = c.args.id in let v = c.args.v in let i = c.loop-i.i in
    passes_err (λ result. Comes is_any as_is (λ table. among_parts (parts_in table id) (contents table v)) c.args.work.now c.part_looked.new.work result)
    c.from_residual.result c.from_residual.ensures.1
    (turns_then (turns_same c.loop-i.invariant (λ table interned extends go. left_is id v i table
    (within_items (extends_then c.loop-i.invariant.kept.extends extends) id i _ c.tuple_of-n.ensures.items c.loop-i-test.true) go))
    (comes_stop (next id v i) c.in_err-item.ensures))

pub equals-requires-clause-one : goal.equals-requires-clause-one
equals-requires-clause-one c = named_on (extends_then c.loop-i.invariant.kept.extends c.part_looked.ensures.kept.extends) c.args.v c.requires.named

pub part_looked-requires : goal.part_looked-requires
part_looked-requires c = more_tuples c.loop-i.invariant.kept.extends c.args.id c.requires.within

pub returns-in_err-same : goal.returns-in_err-same
returns-in_err-same c =
    let id = c.args.id in let v = c.args.v in let i = c.loop-i.i in
    passes_err (λ result. Comes is_any as_is (λ table. among_parts (parts_in table id) (contents table v)) c.args.work.now c.equals.new.work result)
    c.from_residual-in_err-same.result c.from_residual-in_err-same.ensures.1
    (turns_then (turns_more (next id v i)
    (turns_same c.loop-i.invariant (λ table interned extends go. left_is id v i table
    (within_items (extends_then c.loop-i.invariant.kept.extends extends) id i _ c.tuple_of-n.ensures.items c.loop-i-test.true) go))
    c.in_ok-item.ensures (λ table interned extends go. refl))
    (comes_stop (decides id v i) c.in_err-same.ensures))

pub returns-then-same : goal.returns-then-same
returns-then-same c =
    let id = c.args.id in let v = c.args.v in let i = c.loop-i.i in
    turns_then (turns_more (next id v i)
    (turns_same c.loop-i.invariant (λ table interned extends go. left_is id v i table
    (within_items (extends_then c.loop-i.invariant.kept.extends extends) id i _ c.tuple_of-n.ensures.items c.loop-i-test.true) go))
    c.in_ok-item.ensures (λ table interned extends go. refl))
    (comes_as (decides id v i) true c.in_ok-same.ensures tt (λ table interned extends go. left_hit id v i table c.in_ok-same.same (search (rules, c.if-same.true)) go))

pub loop-i-preserved : goal.loop-i-preserved
loop-i-preserved c =
    let id = c.args.id in let v = c.args.v in let i = c.loop-i.i in
    turns_more (decides id v i) (turns_more (next id v i)
    (turns_same c.loop-i.invariant (λ table interned extends go. left_is id v i table
    (within_items (extends_then c.loop-i.invariant.kept.extends extends) id i _ c.tuple_of-n.ensures.items c.loop-i-test.true) go))
    c.in_ok-item.ensures (λ table interned extends go. refl))
    c.in_ok-same.ensures (λ table interned extends go. left_more id v i table c.in_ok-same.same (search (rules, c.if-same.false)) go)

pub returns : goal.returns
returns c =
    let id = c.args.id in let v = c.args.v in let i = c.loop-i.i in
    turns_then (turns_same {r = λ table (go : Bool → Plan). go false} c.loop-i.invariant (λ table interned extends go.
    left_none (extends_then c.loop-i.invariant.kept.extends extends) id v i _ c.tuple_of-n.ensures.items (omega (arith, c.loop-i-test.false)) go))
    (at_once (λ table go. go false) c.loop-i.work false tt (λ table interned extends go. refl))
