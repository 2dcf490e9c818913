use Rattle.std.proofs.Common.{◌∙◌, refl, sym, ap, subst, arith, [], ◌+◌, ◌*◌, length, slice_index_or, drop, List}
use Rattle.op_work.specs.Turns.{Turns}
use Rattle.op_mutations.specs.declared.pairs.Pair.{Pair}
use Rattle.op_mutations.specs.Pairs.{ArePairs, pairs_behind, pairs_seen}
use Rattle.op_lists.proofs.Writing.{item_named}
use Rattle.op_lists.specs.ValuesSeen.{values_seen}
use Rattle.op_work.specs.Work.{Comes}
use Rattle.py_value.specs.declared.value.Value.TheVariants.{None as NoneValue}
use Rattle.op_work.proofs.Going.{extends_then, kept_then, comes_stop, passes_err, passes_memory, at_once, fault_comes}
use Rattle.op_work.proofs.Turning.{turns_none, turns_then, turns_more, turns_same}
use Rattle.op_dicts.proofs.FoundEnds.{key_kept}
use Rattle.op_mutations.proofs.PairWalks.{laws, left, next, left_is, left_none, left_odd, put_are, put_seen, key_there, item_there}
use Rattle.op_mutations.proofs.PairWrites.{pairs_on}
use Rattle.op_mutations.proofs.displays.display_pairs.Goals as goal

pub loop-i-init : goal.loop-i-init
loop-i-init c =
    let ops = c.args.operands.now in (
      subst (λ (ps : List Pair). Turns (λ table. pairs_behind (values_seen table ops) []) (left ops 0 ps) c.args.work.now c.args.work.now) (sym c.new-pairs.ensures.items)
          (turns_none (λ table. pairs_behind (values_seen table ops) []) c.args.work.now),
      subst (ArePairs c.args.work.now.values) (sym c.new-pairs.ensures.items) tt,
      omega (arith),
    )

pub key_of-requires : goal.key_of-requires
key_of-requires c = item_named c.args.work.now.values c.loop-i.work.values c.loop-i.invariant.0.kept.extends.few c.args.operands.now c.requires (2 * c.loop-i.i) (key_there c.loop-i.i (length c.args.operands.now) c.loop-i-test.true)

pub returns-in_err-key : goal.returns-in_err-key
returns-in_err-key c =
    let ops = c.args.operands.now in let i = c.loop-i.i in let ps = c.loop-i.pairs.items in
    passes_err (λ result. Comes (λ values ps. ArePairs values ps.items) (λ table ps. pairs_seen table ps.items) (λ table. pairs_behind (values_seen table ops) []) c.args.work.now c.key_of.new.self result)
    c.from_residual.result c.from_residual.ensures.1
    (turns_then (turns_same c.loop-i.invariant.0 (λ table interned extends go. left_is ops i ps c.loop-i-test.true table go)) (comes_stop (next ops i ps) c.in_err-key.ensures))

pub returns-in_err-put_value : goal.returns-in_err-put_value
returns-in_err-put_value c =
    passes_memory (λ result. Comes (λ values ps. ArePairs values ps.items) (λ table ps. pairs_seen table ps.items) (λ table. pairs_behind (values_seen table c.args.operands.now) []) c.args.work.now c.key_of.new.self result)
    c.from_residual-in_err-put_value.result c.from_residual-in_err-put_value.ensures.1
    (record { kept = kept_then c.loop-i.invariant.0.kept c.key_of.ensures.kept; is_named = tt; came = λ table store extends seen. tt })

pub loop-i-preserved : goal.loop-i-preserved
loop-i-preserved c =
    let ops = c.args.operands.now in let i = c.loop-i.i in let ps = c.loop-i.pairs.items in
    let v = slice_index_or ops (2 * i) NoneValue in let w = slice_index_or ops (2 * i + 1) NoneValue in let key = c.in_ok-key.key in
    let stay = c.contents_stay.ensures in
    let grows = c.key_of.ensures.kept.extends in
    let item = item_named c.args.work.now.values c.key_of.new.self.values (kept_then c.loop-i.invariant.0.kept c.key_of.ensures.kept).extends.few ops c.requires (2 * i + 1) (item_there i (length ops) c.loop-i-test.true) in (
      turns_more (next ops i ps) (turns_same c.loop-i.invariant.0 (λ table interned extends go. left_is ops i ps c.loop-i-test.true table go)) c.in_ok-key.ensures
          (λ table interned extends go. ap (λ qs. pairs_behind (values_seen table (drop (2 * (i + 1)) ops)) qs go)
          (put_seen (laws c.equality_is_same.ensures.values c.tests_are_equality.ensures.values c.same_key_same_normal_contents.ensures table interned) key v w
          (key_kept stay c.values-in-loop-i.ensures.interned extends v key c.in_ok-key.ensures.is_named) ps
          (pairs_on stay c.values.ensures.interned (extends_then grows extends) ps c.loop-i.invariant.1) ∙ ap (pairs_seen table) (sym c.in_ok-put_value.ensures))),
      subst (ArePairs c.key_of.new.self.values) (sym c.in_ok-put_value.ensures)
          (put_are c.key_of.new.self.values key v w c.in_ok-key.ensures.is_named item ps (pairs_on stay c.values.ensures.interned grows ps c.loop-i.invariant.1)),
      omega (arith, c.loop-i-test.true),
    )

pub returns-then-operands-ne0 : goal.returns-then-operands-ne0
returns-then-operands-ne0 c =
    let ops = c.args.operands.now in let i = c.loop-i.i in let ps = c.loop-i.pairs.items in
    turns_then (turns_same c.loop-i.invariant.0 (λ table interned extends go. refl))
    (fault_comes (left ops i ps) 9 _ c.fault.result c.fault.ensures (λ table interned extends go. left_odd ops i ps c.loop-i-test.false c.loop-i.invariant.2 c.if-operands-ne0.true table go))

pub returns : goal.returns
returns c =
    let ops = c.args.operands.now in let i = c.loop-i.i in let ps = c.loop-i.pairs.items in
    turns_then (turns_same c.loop-i.invariant.0 (λ table interned extends go. left_none ops i ps c.loop-i-test.false c.if-operands-ne0.false table go))
    (at_once (λ table go. go (pairs_seen table ps)) c.loop-i.work c.loop-i.pairs c.loop-i.invariant.1 (λ table interned extends go. refl))
