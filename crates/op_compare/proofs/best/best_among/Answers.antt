use Rattle.std.proofs.Common.{◌∙◌, refl, sym, subst, arith, eqb-true, length, map}
use Rattle.op_compare.specs.Comparisons.{how}
use Rattle.op_lists.proofs.NamedValues.{named_stays, all_named_stay}
use Rattle.op_work.specs.Work.{Comes}
use Rattle.op_work.proofs.Going.{comes_stop, at_once, fault_comes, passes_err}
use Rattle.op_work.proofs.Turning.{turns_none, turns_then, turns_more, turns_same}
use Rattle.py_model.specs.Plan.{Plan}
use Rattle.py_value.specs.Contents.{Contents, contents}
use Rattle.py_value.specs.Values.{IsNamed}
use Rattle.op_compare.specs.Best.{better_of, best_among}
use Rattle.op_compare.proofs.BestPlans.{decides, left_first, left_is, left_more, left_none, item_named, better_named, none_among, some_there, first_named}
use Rattle.op_compare.proofs.best.best_among.Goals as goal

pub returns-then-is_empty : goal.returns-then-is_empty
returns-then-is_empty c =
    let vs = c.args.items.now in
    fault_comes (λ table. best_among (better_of c.args.most) (map (contents table) vs)) 10 _ c.fault.result c.fault.ensures
    (λ table interned extends go. none_among (better_of c.args.most) vs table go (eqb-true (length vs) 0 (sym c.is_empty.ensures ∙ c.if-is_empty.true)))

pub loop-i-init : goal.loop-i-init
loop-i-init c =
    let vs = c.args.items.now in (
      turns_same (turns_none (λ table. best_among (better_of c.args.most) (map (contents table) vs)) c.args.work.now)
          (λ table interned extends go. left_first (better_of c.args.most) vs table go (some_there (length vs) c.is_empty.result c.is_empty.ensures c.if-is_empty.false)),
      first_named c.args.work.now.values vs c.requires,
    )

pub in_order-requires-clause-one : goal.in_order-requires-clause-one
in_order-requires-clause-one c =
    let vs = c.args.items.now in
    item_named c.loop-i.work.values vs c.loop-i.i (all_named_stay c.args.work.now.values c.loop-i.work.values c.loop-i.invariant.0.kept.extends.few vs c.requires) c.loop-i-test.true

pub returns-in_err-compared : goal.returns-in_err-compared
returns-in_err-compared c =
    let vs = c.args.items.now in let better = better_of c.args.most in let best = c.loop-i.best in let i = c.loop-i.i in
    passes_err (λ result. Comes IsNamed contents (λ table. best_among better (map (contents table) vs)) c.args.work.now c.in_order.new.work result) c.from_residual.result c.from_residual.ensures.1
    (turns_then (turns_same c.loop-i.invariant.0 (λ table interned extends go. left_is better vs best i table go c.loop-i-test.true))
    (comes_stop (decides better vs best i) c.in_err-compared.ensures))

pub loop-i-preserved : goal.loop-i-preserved
loop-i-preserved c =
    let vs = c.args.items.now in let better = better_of c.args.most in let best = c.loop-i.best in let i = c.loop-i.i in
    let few = c.in_order.ensures.kept.extends.few in
    let named = item_named c.loop-i.work.values vs i (all_named_stay c.args.work.now.values c.loop-i.work.values c.loop-i.invariant.0.kept.extends.few vs c.requires) c.loop-i-test.true in (
      turns_more (decides better vs best i) (turns_same c.loop-i.invariant.0 (λ table interned extends go. left_is better vs best i table go c.loop-i-test.true))
          c.in_ok-compared.ensures (λ table interned extends go. left_more better vs best c.better-best.result i table (how c.in_ok-compared.compared) go c.better-best.ensures),
      subst (IsNamed c.in_order.new.work.values) (sym c.better-best.ensures)
          (better_named c.in_order.new.work.values (better (how c.in_ok-compared.compared)) _ best
          (named_stays c.loop-i.work.values c.in_order.new.work.values few _ named) (named_stays c.loop-i.work.values c.in_order.new.work.values few best c.loop-i.invariant.1)),
    )

pub returns : goal.returns
returns c =
    let vs = c.args.items.now in let better = better_of c.args.most in let best = c.loop-i.best in let i = c.loop-i.i in
    turns_then (turns_same {r = λ table (go : Contents → Plan). go (contents table best)} c.loop-i.invariant.0 (λ table interned extends go. left_none better vs best i table go (omega (arith, c.loop-i-test.false))))
    (at_once (λ table go. go (contents table best)) c.loop-i.work best c.loop-i.invariant.1 (λ table interned extends go. refl))
